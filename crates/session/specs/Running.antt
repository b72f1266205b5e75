-- A list of items, handed in one after another (00, demand 3; 01, "The words of demand 3").
use Rattle.std.specs.Prelude.{ℕ, List, [], ◌∷◌}
use Rattle.session_state.specs.declared.Session.{Session}
use Rattle.session_items.specs.Items.{Item}
use Rattle.session_answers.specs.declared.Answer.{Answer}
use Rattle.session.specs.Rules.{step}

-- a call: the item that it hands in, and the answer that the item gets
pub record Call : Type 0 where
  pub item : Item
  pub answer : Answer

-- a run: its calls in order, and the session and SRAM that the last one leaves
pub record Run : Type 0 where
  pub calls : List Call
  pub session : Session
  pub sram : List ℕ

abbrev pub and_then : Call → Run → Run
and_then call rest = record { calls = call ∷ rest.calls; session = rest.session; sram = rest.sram }

-- "Each call hands in one item"; "each gets what the last one left" (00)
unfoldable pub ran : Session → List ℕ → List Item → Run
ran session sram [] = record { calls = []; session = session; sram = sram }
ran session sram (item ∷ items) =
    and_then (record { item = item; answer = (step session sram item).answer })
    (ran (step session sram item).session (step session sram item).sram items)
