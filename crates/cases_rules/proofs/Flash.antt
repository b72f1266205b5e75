-- The two boots of the table. A flash of 2,097,152 bytes is too long to compute with: laws say what is read of it.
use Prim.Native.Nat.{ℕ, zero, suc, ◌+◌, ◌-◌, ◌≤◌, ◌<◌}
use native.Mathlib.Omega.{arith}
use mathlib.Core.Path.{◌≡◌, refl, sym, ap, ◌∙◌}
use mathlib.Core.List.{List, ◌∷◌, ◌++◌}
use mathlib.Core.Bool.{Bool, true, false, cond, and-false}
use borrow.Author.Tests.{le-leb}
use lib.Dec.{leb}
use Rattle.std.specs.Prelude.{Some, None}
use lib.ListN.{length, get_or, drop, replicate, length-append, length-replicate}
use Rattle.octets.specs.Read.{byte_at}
use Rattle.boot_table.specs.declared.Asked.{Asked}
use Rattle.boot_table.specs.Table.{asked_by, row_for, row_of, control_55aa}
use Rattle.boot_rchw.specs.declared.Search.{Search}
use Rattle.boot_rchw.specs.Places.{good_place, searched, flash_places}
use Rattle.boot_rchw.proofs.Searching.{search_found, search_on, search_none}
use Rattle.session_configuration.specs.declared.Entered.{Entered}
use Rattle.boot.specs.declared.Mode.{Mode}
use Rattle.boot.specs.Choosing.{allowed, refusal, settled, chosen, boot_choice}
use Rattle.cases_rules.specs.Trials.{blank, with_5a, internal_boot, boots}

-- what is read of zeroes, and of zeroes but for one byte
zeroes : (n at : ℕ) → byte_at (replicate n 0) at ≡ 0
zeroes zero at = refl
zeroes (suc n) zero = refl
zeroes (suc n) (suc at) = zeroes n at

there : (n byte m : ℕ) → byte_at (replicate n 0 ++ byte ∷ replicate m 0) n ≡ byte
there zero byte m = refl
there (suc n) byte m = there n byte m

elsewhere : (n byte m at : ℕ) → (at ≡ n → ⊥) → byte_at (replicate n 0 ++ byte ∷ replicate m 0) at ≡ 0
elsewhere zero byte m zero h = absurd (h refl)
elsewhere zero byte m (suc at) h = zeroes m at
elsewhere (suc n) byte m zero h = refl
elsewhere (suc n) byte m (suc at) h = elsewhere n byte m at (λ e. h (ap suc e))

module _ (flash : List ℕ) (full : length flash ≡ 2097152) where
  bad : (place : ℕ) → byte_at flash (place + 1) ≡ 0 → good_place flash place ≡ false
  unfolding good_place
  bad place e = rw e (and-false (leb (place + 8) (length flash)))

  good : (place : ℕ) → place + 8 ≤ 2097152 → byte_at flash (place + 1) ≡ 0x5A → good_place flash place ≡ true
  unfolding good_place
  good place h e = rw (full, e, le-leb (place + 8) 2097152 h)

  -- such a flash is of a size allowed, and what is found in it settles the boot
  boots_by
      : (search : Search)
      → searched flash 0 flash_places ≡ search
      → internal_boot flash ≡ Some (settled Mode.Internal Entered.FromInternal flash search (row_for Asked.Internal (replicate 12 0)))
  unfolding boot_choice chosen asked_by
  boots_by search e =
      let sizes : allowed 0 flash (replicate 12 0) (replicate 8 0) ≡ true = rw (le-leb (length flash) 2097152 (omega (arith, full))) in
      ap (λ (b : Bool). cond b (Some (chosen Asked.Internal flash (replicate 12 0) (replicate 8 0))) refusal) sizes
      ∙ ap (λ (s : Search). Some (settled Mode.Internal Entered.FromInternal flash s (row_for Asked.Internal (replicate 12 0)))) e

  on : (i : ℕ) → i < 6 → good_place flash (get_or flash_places i 0) ≡ false
      → searched flash i (drop i flash_places) ≡ searched flash (i + 1) (drop (i + 1) flash_places)
  unfolding flash_places
  on i h = search_on flash flash_places i h

  none_good : ((at : ℕ) → byte_at flash at ≡ 0) → internal_boot flash ≡ boots (Mode.Serial Entered.FromInternal) 0 6
  unfolding settled flash_places row_for row_of control_55aa
  none_good e =
      boots_by
      (record { found = None; examined = 6 })
      (on 0 (omega arith) (bad 0x0 (e 0x1))
      ∙ on 1 (omega arith) (bad 0x4000 (e 0x4001))
      ∙ on 2 (omega arith) (bad 0x10000 (e 0x10001))
      ∙ on 3 (omega arith) (bad 0x1C000 (e 0x1C001))
      ∙ on 4 (omega arith) (bad 0x20000 (e 0x20001))
      ∙ on 5 (omega arith) (bad 0x30000 (e 0x30001))
      ∙ search_none flash flash_places 6 (omega arith))

  fourth_good
      : ((at : ℕ) → (at ≡ 0x1C001 → ⊥) → byte_at flash at ≡ 0)
      → byte_at flash 0x1C001 ≡ 0x5A
      → internal_boot flash ≡ boots Mode.Internal 0x1C000 4
  unfolding settled flash_places row_for row_of control_55aa
  fourth_good e f =
      boots_by
      (record { found = Some 0x1C000; examined = 4 })
      (on 0 (omega arith) (bad 0x0 (e 0x1 (λ h. omega (arith, h))))
      ∙ on 1 (omega arith) (bad 0x4000 (e 0x4001 (λ h. omega (arith, h))))
      ∙ on 2 (omega arith) (bad 0x10000 (e 0x10001 (λ h. omega (arith, h))))
      ∙ search_found flash flash_places 3 (omega arith) (good 0x1C000 (omega arith) f))
      ∙ rw (
        e 0x1C000 (λ h. omega (arith, h)),
        e 0x1C004 (λ h. omega (arith, h)),
        e 0x1C005 (λ h. omega (arith, h)),
        e 0x1C006 (λ h. omega (arith, h)),
        e 0x1C007 (λ h. omega (arith, h)),
      )

-- over any number of zeroes that is the right one, so that none of them is counted
blank_of : (n : ℕ) → n ≡ 2097152 → internal_boot (replicate n 0) ≡ boots (Mode.Serial Entered.FromInternal) 0 6
blank_of n e = none_good (replicate n 0) (length-replicate n 0 ∙ e) (zeroes n)

with_5a-of
    : (n m : ℕ)
    → n ≡ 0x1C001
    → n + suc m ≡ 2097152
    → internal_boot (replicate n 0 ++ 0x5A ∷ replicate m 0) ≡ boots Mode.Internal 0x1C000 4
with_5a-of n m e f =
    let flash : List ℕ = replicate n 0 ++ 0x5A ∷ replicate m 0 in
    fourth_good
    flash
    (length-append (replicate n 0) (0x5A ∷ replicate m 0) ∙ omega (arith, length-replicate {A = ℕ} n 0, length-replicate {A = ℕ} m 0, f))
    (λ at h. elsewhere n 0x5A m at (λ g. h (g ∙ e)))
    (ap (byte_at flash) (sym e) ∙ there n 0x5A m)

pub blank-boots : internal_boot blank ≡ boots (Mode.Serial Entered.FromInternal) 0 6
blank-boots = blank_of 2097152 refl

pub fourth_boots : internal_boot (with_5a 0x1C000) ≡ boots Mode.Internal 0x1C000 4
fourth_boots = with_5a-of (0x1C000 + 1) (2097150 - 0x1C000) refl refl
