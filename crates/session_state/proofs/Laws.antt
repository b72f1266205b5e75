-- What a sound session says of its counts and of SRAM's size.
use Prim.Native.Nat.{◌+◌, ◌%◌, ◌≤◌}
use native.Mathlib.Omega.{arith}
use mathlib.Core.Path.{◌≡◌, refl}
use mathlib.Core.Bool.{true, ◌&&◌, and-eq-true_iff}
use borrow.Author.Tests.{leb-true}
use lib.Dec.{leb}
use Rattle.session_configuration.specs.declared.Configuration.{Configuration}
use Rattle.sram.specs.Region.{size, base, in_range, aligned}
use Rattle.session_state.specs.declared.Load.{Load}
use Rattle.session_state.specs.declared.Session.{Session}
use Rattle.session_state.specs.Sound.{load_fits, fitting, sound}

-- what a load that fits says
pub record LoadFits (configuration : Configuration) (load : Load) : Type 0 where
  pub some_owed : 1 ≤ load.owed
  pub owed_in_range : in_range configuration load.next load.owed ≡ true
  pub start_aligned : aligned configuration load.start.0 ≡ true
  pub not_beyond : load.start.0 ≤ load.next

pub load_fits_lem : (configuration : Configuration) (load : Load) → load_fits configuration load ≡ true → LoadFits configuration load
load_fits_lem configuration load e =
    let a = leb 1 load.owed in
    let b = in_range configuration load.next load.owed in
    let c = aligned configuration load.start.0 in
    let d = leb load.start.0 load.next in
    let h = (and-eq-true_iff (a && b && c) d).0 e in
    let i = (and-eq-true_iff (a && b) c).0 h.0 in
    let j = (and-eq-true_iff a b).0 i.0 in
    record {
      some_owed = leb-true 1 load.owed j.0;
      owed_in_range = j.1;
      start_aligned = i.1;
      not_beyond = leb-true load.start.0 load.next h.1;
    }

-- What soundness is made of is used by these laws alone.

pub sound_fits : (session : Session) → sound session ≡ true → fitting session ≡ true
unfolding sound
sound_fits session e = e

-- SRAM ends within the 32 bits of an address, and is made of groups of 8 bytes
pub record SizeFits (configuration : Configuration) : Type 0 where
  pub addressed : base + size configuration ≤ 0x1_0000_0000
  pub in_eights : size configuration % 8 ≡ 0

pub sound_size : (session : Session) → sound session ≡ true → SizeFits session.configuration
unfolding base size
sound_size session e = record { addressed = omega arith; in_eights = refl }

-- a session with the same configuration whose counts fit is sound again
pub sound_again : (session next : Session) → sound session ≡ true → next.configuration ≡ session.configuration
    → fitting next ≡ true → sound next ≡ true
unfolding sound
sound_again session next e same f = f
