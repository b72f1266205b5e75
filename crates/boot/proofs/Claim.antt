-- The claim of `boot::choose` follows from its equation.
use Prim.Native.Nat.{ℕ, zero, suc, ◌+◌, ◌-◌, ◌≤◌, ◌<◌}
use native.Mathlib.Omega.{arith}
use mathlib.Core.Path.{◌≡◌, refl, ap, ◌∙◌}
use mathlib.Core.List.{List, [], ◌∷◌}
use mathlib.Core.Bool.{Bool, true, false, cond}
use Rattle.std.specs.Prelude.{Option, Some, None}
use lib.ListN.{length, get_or}
use Rattle.std.proofs.lemmas.Bool.{cond_both}
use Rattle.boot_table.specs.declared.Asked.{Asked}
use Rattle.boot_table.specs.declared.Row.{Row}
use Rattle.boot_table.specs.Table.{asked_by, row_for}
use Rattle.boot_rchw.specs.declared.Search.{Search}
use Rattle.boot_rchw.specs.Places.{flash_places, external_places, good_place, searched}
use Rattle.session_configuration.specs.declared.Entered.{Entered}
use Rattle.boot.specs.declared.Choice.{Choice}
use Rattle.boot.specs.declared.Mode.{Mode}
use Rattle.boot.specs.Choosing.{allowed, refusal, settled, chosen, boot_choice, choice_number, examined_of}
use Rattle.boot.specs.Claim.{ChoiceClaim, Ranked}

-- What the search of any places found, after n others: the first good place, or that none is good.
abbrev Walked : List ℕ → List ℕ → ℕ → (found : Option ℕ) → (examined : ℕ) → Type 0
Walked memory places n (Some place) examined =
    (k : ℕ)
    × (examined ≡ n + k + 1)
    × (k < length places)
    × (place ≡ get_or places k 0)
    × (good_place memory place ≡ true)
    × ((i : ℕ) → i < k → good_place memory (get_or places i 0) ≡ false)
Walked memory places n None examined =
    (examined ≡ n + length places) × ((i : ℕ) → i < length places → good_place memory (get_or places i 0) ≡ false)

-- one bad place in front
also
    : (memory : List ℕ) (p : ℕ) (places : List ℕ) (k : ℕ)
    → good_place memory p ≡ false
    → ((i : ℕ) → i < k → good_place memory (get_or places i 0) ≡ false)
    → (i : ℕ) → i < suc k → good_place memory (get_or (p ∷ places) i 0) ≡ false
also memory p places k e f zero h = e
also memory p places k e f (suc i) h = f i (omega arith)

more
    : (memory : List ℕ) (p : ℕ) (places : List ℕ) (n : ℕ) (found : Option ℕ) (examined : ℕ)
    → good_place memory p ≡ false
    → Walked memory places (n + 1) found examined
    → Walked memory (p ∷ places) n found examined
more memory p places n (Some place) examined e w =
    (suc w.0, omega arith, omega arith, w.3, w.4, also memory p places w.0 e w.5)
more memory p places n None examined e w =
    (omega arith, also memory p places (length places) e w.1)

-- what the search found, as one value
abbrev Finds : List ℕ → List ℕ → ℕ → Search → Type 0
Finds memory places n search = Walked memory places n search.found search.examined

search_finds : (memory : List ℕ) (n : ℕ) (places : List ℕ) → Finds memory places n (searched memory n places)
unfolding searched
search_finds memory n [] = (omega arith, λ i h. absurd (omega arith))
search_finds memory n (p ∷ places) =
    let rest = searched memory (n + 1) places in
    cond_both (good_place memory p) (record { found = Some p; examined = n + 1 }) rest (Finds memory (p ∷ places) n)
    (λ e. (0, omega arith, omega arith, refl, e, λ i h. absurd (omega arith)))
    (λ e. more memory p places n rest.found rest.examined e (search_finds memory (n + 1) places))

-- The claim's other fields, of an answer with number n.
record Answered (flash : List ℕ) (n : ℕ) (c : Option Choice) : Type 0 where
  number : choice_number c ≡ n
  count : Ranked flash c
  at_most_six : examined_of c ≤ 6

internal_ranked
    : (flash : List ℕ) (row : Row) (found : Option ℕ) (examined : ℕ)
    → Walked flash flash_places 0 found examined
    → Answered flash 0 (Some (settled Mode.Internal Entered.FromInternal flash (record { found = found; examined = examined }) row))
unfolding settled flash_places
internal_ranked flash row (Some place) examined w =
    let rank : w.0 ≡ examined - 1 = omega arith in
    record {
      number = refl;
      count =
          record {
            from_one = omega arith;
            has_rank = w.3 ∙ ap (λ (k : ℕ). get_or flash_places k 0) rank;
            is_good_place = w.4;
            none_before = λ i h. w.5 i (omega arith);
          };
      at_most_six = omega arith;
    }
internal_ranked flash row None examined w = record { number = refl; count = (w.0, w.1); at_most_six = omega arith }

external_ranked
    : (flash memory : List ℕ) (row : Row) (found : Option ℕ) (examined : ℕ)
    → Walked memory external_places 0 found examined
    → Answered flash 0 (Some (settled Mode.External Entered.FromExternal memory (record { found = found; examined = examined }) row))
unfolding settled external_places
external_ranked flash memory row (Some place) examined w =
    record { number = refl; count = omega arith; at_most_six = omega arith }
external_ranked flash memory row None examined w =
    record { number = refl; count = w.0; at_most_six = omega arith }

chosen_answers : (asked : Asked) (flash shadow memory : List ℕ) → Answered flash 0 (Some (chosen asked flash shadow memory))
unfolding chosen
chosen_answers Asked.Internal flash shadow memory = internal_ranked flash (row_for Asked.Internal shadow) _ _ (search_finds flash 0 flash_places)
chosen_answers Asked.External flash shadow memory =
    external_ranked flash memory (row_for Asked.External shadow) _ _ (search_finds memory 0 external_places)
chosen_answers Asked.Serial flash shadow memory = record { number = refl; count = refl; at_most_six = omega arith }

-- the answer that the test of the sizes picks
picked : (flash : List ℕ) (test : Bool) (c : Option Choice) → Answered flash 0 c → Answered flash (cond test 0 9) (cond test c refusal)
picked flash true c a = a
picked flash false c a = record { number = refl; count = tt; at_most_six = omega arith }

pub claimed
    : (bootcfg : ℕ) (flash shadow external : List ℕ) (r : Option Choice) (test : Bool)
    → test ≡ allowed bootcfg flash shadow external
    → r ≡ cond test (Some (chosen (asked_by bootcfg) flash shadow external)) refusal
    → ChoiceClaim bootcfg flash shadow external r
unfolding boot_choice
claimed bootcfg flash shadow external r test t e =
    let c : Option Choice = Some (chosen (asked_by bootcfg) flash shadow external) in
    let p = picked flash (allowed bootcfg flash shadow external) c (chosen_answers (asked_by bootcfg) flash shadow external) in
    let equation : r ≡ boot_choice bootcfg flash shadow external = rw (e, t) in
    rw equation
    (record { equation = refl; number = p.number; count = p.count; at_most_six = p.at_most_six })
