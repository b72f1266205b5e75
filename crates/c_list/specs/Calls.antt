-- The call for a list of items as C sees it (include/boot_assist.h): items are handed in as flat lists, a session and the answers cross as bytes and
-- numbers, and memory is lent.
use Rattle.std.specs.Prelude.{ℕ, ◌*◌, ◌-◌, ◌≡◌, List, [], ◌∷◌, ◌++◌, Bool, ◌&&◌, true, cond, leb, eqb, length, take, drop, get_or}
use Rattle.buffers.specs.Write.{over_from}
use Rattle.session_configuration.specs.declared.Configuration.{Configuration}
use Rattle.session_state.specs.declared.Session.{Session}
use Rattle.session_items.specs.Items.{Item, is_item, source_of}
use Rattle.session_answers.specs.declared.Answer.{Answer}
use Rattle.session_answers.specs.Answers.{Result}
use Rattle.session_fresh.specs.Fresh.{fresh_session}
use Rattle.session.specs.Running.{Call, Run, ran}
use Rattle.session_merging.specs.Merging.{Merging}
use Rattle.c_answer.specs.Writing.{Flat, as_flat, echo_width, answer_width, echo_bytes, answer_numbers}
use Rattle.c_session.specs.Writing.{session_flat}
use Rattle.c_session.specs.Reading.{session_in}
use Rattle.c_items.specs.Calls.{Reply, as_reply, item_precheck}

-- the items in order: each has a kind, an identifier and so many of the bytes as its count says
unfoldable pub items_of : List ℕ → List ℕ → List ℕ → List ℕ → List Item
items_of [] identifiers counts bytes = []
items_of (kind ∷ kinds) identifiers counts bytes =
    Item.Of (source_of kind (get_or identifiers 0 0)) (take (get_or counts 0 0) bytes)
    ∷ items_of kinds (drop 1 identifiers) (drop 1 counts) (drop (get_or counts 0 0) bytes)

-- each kind is 1, 2 or 3, a serial item has one byte, and the counts add up to the bytes
unfoldable pub parts_fit : List ℕ → List ℕ → ℕ → Bool
parts_fit [] counts left = eqb left 0
parts_fit (kind ∷ kinds) counts left =
    is_item kind (get_or counts 0 0)
    && leb (get_or counts 0 0) left
    && parts_fit kinds (drop 1 counts) (left - get_or counts 0 0)

-- an identifier and a count for each kind, places for the echo and the numbers of each answer, and parts that fit
abbrev pub list_fits : List ℕ → List ℕ → List ℕ → ℕ → ℕ → ℕ → Bool
list_fits kinds identifiers counts total echoes answers =
    eqb (length identifiers) (length kinds)
    && eqb (length counts) (length kinds)
    && eqb echoes (echo_width * length kinds)
    && eqb answers (answer_width * length kinds)
    && parts_fit kinds counts total

-- a part of each answer, one answer's behind another's; and all answers
unfoldable pub rows_of : (Answer → List ℕ) → List Call → List ℕ
rows_of part [] = []
rows_of part (call ∷ calls) = part call.answer ++ rows_of part calls

abbrev pub answers_flat : List Call → Flat
answers_flat calls = as_flat (rows_of echo_bytes calls) (rows_of answer_numbers calls)

-- the places of the answer to item i, with that answer
abbrev pub answer_at : ℕ → Answer → Flat → Flat
answer_at i answer answers =
    as_flat (over_from (echo_width * i) (echo_bytes answer) answers.bytes)
    (over_from (answer_width * i) (answer_numbers answer) answers.numbers)

-- one item's step: what its session is read as, its SRAM, and its answer in its places
pub record Handed (next : Result) (i : ℕ) (before : Flat) (session : Session) (sram : List ℕ) (after : Flat) : Type 0 where
  pub session_is : session ≡ next.session
  pub sram_is : sram ≡ next.sram
  pub answer_is : after ≡ answer_at i next.answer before

-- number 0: "another call answered"
abbrev pub list_ran : Run → Reply
list_ran run = as_reply 0 (session_flat run.session) run.sram (answers_flat run.calls)

-- 7, then 8, then 6 for lists that do not fit each other; a refused call changes nothing
abbrev pub list_leaves : ℕ → Flat → List ℕ → List Item → Flat → Reply
list_leaves first session sram items answers =
    cond (eqb first 0) (list_ran (ran (session_in session) sram items)) (as_reply first session sram answers)

unfoldable pub list_reply : Flat → List ℕ → List ℕ → List ℕ → List ℕ → List ℕ → Flat → Reply
list_reply session sram kinds identifiers counts bytes answers =
    list_leaves
    (item_precheck (session_in session) sram
    (list_fits kinds identifiers counts (length bytes) (length answers.bytes) (length answers.numbers)) true)
    session sram (items_of kinds identifiers counts bytes) answers

-- demand 3 of a list that was run from a fresh session: what the call left is the run of the whole list, and the claim holds of it
pub record ListMerged (configuration : Configuration) (sram : List ℕ) (items : List Item) (reply : Reply) : Type 0 where
  pub is_run : reply ≡ list_ran (ran (fresh_session configuration) sram items)
  pub claim : Merging configuration sram items

-- what the call promises of its reply
pub record ListClaim
    (session : Flat) (sram kinds identifiers counts bytes : List ℕ) (answers : Flat) (reply : Reply)
    : Type 0 where
  pub equation : reply ≡ list_reply session sram kinds identifiers counts bytes answers
  pub demand_3 : (configuration : Configuration) → session_in session ≡ fresh_session configuration → reply.number ≡ 0
      → ListMerged configuration sram (items_of kinds identifiers counts bytes) reply
