-- The rank rule, stated apart from the search, and what `boot::choose` promises.
use Rattle.std.specs.Prelude.{ℕ, ◌-◌, ◌≤◌, ◌<◌, ◌≡◌, List, true, false, Option, Some, None, cond, get_or}
use Rattle.boot_rchw.specs.Places.{flash_places, good_place}
use Rattle.session_configuration.specs.declared.Entered.{Entered}
use Rattle.boot.specs.declared.Boot.{Boot}
use Rattle.boot.specs.declared.Choice.{Choice}
use Rattle.boot.specs.declared.Mode.{Mode}
use Rattle.boot.specs.Choosing.{allowed, boot_choice, choice_number, examined_of}

-- none of the first n places of the flash is good
abbrev pub NoneGood : List ℕ → ℕ → Type 0
NoneGood flash n = (i : ℕ) → i < n → good_place flash (get_or flash_places i 0) ≡ false

-- "the first good place"; "the number of places looked at, which equals the place's rank from 1"
pub record FirstGood (flash : List ℕ) (place examined : ℕ) : Type 0 where
  pub from_one : 1 ≤ examined
  pub has_rank : place ≡ get_or flash_places (examined - 1) 0
  pub is_good_place : good_place flash place ≡ true
  pub none_before : NoneGood flash (examined - 1)

-- the count, by how the head boots: the rank; "6 if none is good"; External: "count 1"; "BOOTCFG 1: serial, count 0"
abbrev pub Counted : Mode → List ℕ → Boot → Type 0
Counted Mode.Internal flash boot = FirstGood flash boot.place boot.examined
Counted (Mode.Serial Entered.FromInternal) flash boot = (boot.examined ≡ 6) × NoneGood flash 6
Counted Mode.External flash boot = boot.examined ≡ 1
Counted (Mode.Serial Entered.FromExternal) flash boot = boot.examined ≡ 1
Counted (Mode.Serial Entered.Directly) flash boot = boot.examined ≡ 0

abbrev pub Ranked : List ℕ → Option Choice → Type 0
Ranked flash None = Unit {0}
Ranked flash (Some choice) = Counted choice.boot.mode flash choice.boot

-- what `boot::choose` promises of its result r
pub record ChoiceClaim (bootcfg : ℕ) (flash shadow external : List ℕ) (r : Option Choice) : Type 0 where
  pub equation : r ≡ boot_choice bootcfg flash shadow external
  -- number 9 exactly for "BOOTCFG, flash, shadow or external head of a size not allowed"
  pub number : choice_number r ≡ cond (allowed bootcfg flash shadow external) 0 9
  -- the rank rule
  pub count : Ranked flash r
  -- "No more than 6 are ever looked at."
  pub at_most_six : examined_of r ≤ 6
