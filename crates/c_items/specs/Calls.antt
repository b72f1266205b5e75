-- The calls for an item as C sees them (include/boot_assist.h): a session and an answer cross as bytes and numbers, and memory is lent.
use Rattle.std.specs.Prelude.{ℕ, ◌≡◌, List, Bool, true, cond, eqb, ⊤, Ok, Err, Result as OkOrErr}
use Rattle.session_state.specs.declared.Session.{Session}
use Rattle.session_items.specs.Items.{Item, well_formed}
use Rattle.session_answers.specs.declared.Fault.{Fault}
use Rattle.session_answers.specs.Answers.{Result, fault_number, precheck}
use Rattle.session.specs.Rules.{step}
use Rattle.c_answer.specs.Writing.{Flat, answer_flat, answer_places}
use Rattle.c_session.specs.Writing.{session_flat}
use Rattle.c_session.specs.Reading.{session_in}
use Rattle.c_items.specs.declared.Due.{Due}

-- a call: its number, and the session, SRAM and the answer or the answers as it leaves them
pub record Reply : Type 0 where
  pub number : ℕ
  pub session : Flat
  pub sram : List ℕ
  pub answer : Flat

abbrev pub as_reply : ℕ → Flat → List ℕ → Flat → Reply
as_reply number session sram answer = record { number = number; session = session; sram = sram; answer = answer }

-- 7, then 8, then 6 for what is handed in, and then 9 for an answer that has not its places; or 0
abbrev pub precheck_number : OkOrErr ⊤ Fault → Bool → ℕ
precheck_number (Ok passed) placed = cond placed 0 9
precheck_number (Err fault) placed = fault_number fault

-- the number for C of why a call is refused; or 0
abbrev pub due_number : Due → ℕ
due_number (Due.Fault fault) = fault_number fault
due_number Due.Places = 9

abbrev pub number_or_none : OkOrErr ⊤ Due → ℕ
number_or_none (Ok passed) = 0
number_or_none (Err due) = due_number due

unfoldable pub item_precheck : Session → List ℕ → Bool → Bool → ℕ
item_precheck session sram formed placed = precheck_number (precheck session sram formed) placed

-- what an item leaves
abbrev pub leaves : Result → Reply
leaves next = as_reply next.number (session_flat next.session) next.sram (answer_flat next.answer)

-- one item, with the session that bytes and numbers are; a call that is refused so changes nothing
abbrev pub item_leaves : ℕ → Flat → List ℕ → Item → Flat → Reply
item_leaves first session sram item answer =
    cond (eqb first 0) (leaves (step (session_in session) sram item)) (as_reply first session sram answer)

unfoldable pub item_reply : Flat → List ℕ → Item → Flat → Reply
item_reply session sram item answer =
    item_leaves (item_precheck (session_in session) sram (well_formed item) (answer_places answer)) session sram item answer

-- what the calls for an item promise of the reply: it is that one, and where there are places for an answer, what is left of the session is read
-- as the session that the item's step leaves
pub record ItemClaim (session : Flat) (sram : List ℕ) (item : Item) (answer : Flat) (reply : Reply) : Type 0 where
  pub equation : reply ≡ item_reply session sram item answer
  pub reads_back : answer_places answer ≡ true → session_in reply.session ≡ (step (session_in session) sram item).session
