-- Demand 3 (00; 01, "The words of demand 3"): a claim about every list of calls. It rests on what an item is, what opens and what counts
-- (crates/session_items/specs: Items.antt, Reacting.antt), on the step and the run of a list (crates/session/specs: Rules.antt, Running.antt), and on when a
-- password passes, what a header says and when it fits, and bytes stored in SRAM (crates/password, header and sram: specs). Example lists with their
-- runs: crates/cases_lists/specs/Lists.antt.
use Rattle.std.specs.Prelude.{ℕ, ◌+◌, ◌-◌, ◌≡◌, List, [], ◌∷◌, ◌++◌, map, Bool, true, false, cond, not, ◌&&◌, length, take, drop, leb, eqb}
use Rattle.std.proofs.Math.Option.{Option, none, some}
use Rattle.password.specs.Passing.{passes}
use Rattle.session_configuration.specs.declared.Configuration.{Configuration}
use Rattle.sram.specs.Region.{right_size, LoadedAt}
use Rattle.session_state.specs.declared.Jump.{Jump}
use Rattle.session_state.specs.declared.Port.{Port}
use Rattle.session_state.specs.Sound.{sound}
use Rattle.header.specs.declared.Header.{Header}
use Rattle.header.specs.Reading.{header_read, fits}
use Rattle.session_items.specs.Items.{Item, well_formed, port_of, bytes_of}
use Rattle.session_items.specs.Reacting.{eight_under, data_fitting, clean_byte, opens}
use Rattle.session_answers.specs.declared.Outcome.{Outcome}
use Rattle.session_answers.specs.Answers.{outcome_number, without_echo, unheeded, unchanged}
use Rattle.session_fresh.specs.Fresh.{fresh_session}
use Rattle.session.specs.Rules.{step}
use Rattle.session.specs.Running.{Call, Run, ran}

-- The opening: "the first in the list picks the port"
unfoldable pub picked_port : List Item → Option Port
picked_port [] = none
picked_port (item ∷ items) = cond (opens item) (some (port_of item)) (picked_port items)

-- The stream: "the list without the other port's items and the items refused for their form" (00); "with no opening the stream is empty"
abbrev pub same_port : Port → Port → Bool
same_port Port.Can Port.Can = true
same_port Port.Can Port.Serial = false
same_port Port.Serial Port.Can = false
same_port Port.Serial Port.Serial = true

abbrev pub in_stream : Option Port → Item → Bool
in_stream none item = false
in_stream (some port) item = well_formed item && same_port port (port_of item)

unfoldable pub only : {A : Type 0} → (A → Bool) → List A → List A
only wanted [] = []
only wanted (x ∷ rest) = cond (wanted x) (x ∷ only wanted rest) (only wanted rest)

abbrev pub stream_of : List Item → List Item
stream_of items = only (in_stream (picked_port items)) items

-- The plain list, of the stream's items alone. "Serial: take the clean bytes in order"; "a faulty byte after the first clean one ends the
-- plain list" (02, E2): so it goes from the first clean byte to the first behind it that is not clean.
unfoldable pub clean_run : List Item → List ℕ
clean_run [] = []
clean_run (item ∷ items) = cond (clean_byte item) (bytes_of item ++ clean_run items) []

unfoldable pub bytes_from_clean : List Item → List ℕ
bytes_from_clean [] = []
bytes_from_clean (item ∷ items) = cond (clean_byte item) (bytes_of item ++ clean_run items) (bytes_from_clean items)

-- CAN: "take the first opening frame, the first 0x012 of 8 bytes after it, then each later 0x013 that fits what is owed, which is here the
-- announced count less the bytes of the 0x013 frames taken before it"
unfoldable pub data_bytes : ℕ → List Item → List ℕ
data_bytes owed [] = []
data_bytes owed (item ∷ items) =
    cond (data_fitting owed item) (bytes_of item ++ data_bytes (owed - length (bytes_of item)) items) (data_bytes owed items)

unfoldable pub bytes_from_header : Configuration → List Item → List ℕ
bytes_from_header configuration [] = []
bytes_from_header configuration (item ∷ items) =
    cond (eight_under 0x012 item)
    (bytes_of item ++ data_bytes (header_read configuration (bytes_of item)).length items)
    (bytes_from_header configuration items)

unfoldable pub bytes_from_password : Configuration → List Item → List ℕ
bytes_from_password configuration [] = []
bytes_from_password configuration (item ∷ items) =
    cond (eight_under 0x011 item) (bytes_of item ++ bytes_from_header configuration items) (bytes_from_password configuration items)

abbrev pub plain_from : Configuration → Option Port → List Item → List ℕ
plain_from configuration none items = []
plain_from configuration (some Port.Can) items = bytes_from_password configuration items
plain_from configuration (some Port.Serial) items = bytes_from_clean items

abbrev pub plain_of : Configuration → List Item → List ℕ
plain_of configuration items = plain_from configuration (picked_port items) (stream_of items)

-- "Join their bytes: 8 password, 8 header, the announced count."
abbrev pub plain_header : Configuration → List ℕ → Header
plain_header configuration plain = header_read configuration (take 8 (drop 8 plain))

abbrev pub announced : Configuration → List ℕ → List ℕ
announced configuration plain = take (plain_header configuration plain).length (drop 16 plain)

-- "begins with the selected legal password, a header that fits and all announced bytes" (00)
unfoldable pub complete : Configuration → List ℕ → Bool
complete configuration plain =
    passes (take 8 plain) configuration.password
    && leb 16 (length plain)
    && fits configuration (plain_header configuration plain)
    && leb (16 + (plain_header configuration plain).length) (length plain)

-- "the jump address in it is the start address of the plain list's header"
abbrev pub plain_jump : Configuration → List ℕ → Jump
plain_jump configuration plain =
    record { start = (plain_header configuration plain).start; vle = (plain_header configuration plain).vle }

-- "The head jumps if a call of the list gets 5": the outcomes of the calls that do
abbrev pub jumps_in : List Call → List Outcome
jumps_in calls =
    map (λ (call : Call). call.answer.outcome) (only (λ (call : Call). eqb (outcome_number call.answer.outcome) 5) calls)

-- "An item outside the stream gets 6 if that is due and otherwise 1", and no echo
abbrev pub call_outside : Item → Call
call_outside item = record { item = item; answer = without_echo (unheeded item) }

-- The claim, where `inside` tells the stream's items, `plain` is the stream read as a plain list, and `whole` and `alone` are the runs of the list and
-- of the stream, from the same fresh session and the same SRAM
pub record Merged
    (configuration : Configuration) (sram : List ℕ) (items : List Item) (inside : Item → Bool) (plain : List ℕ) (whole alone : Run)
    : Type 0 where
  -- "The whole list and that stream alone end with the same session and SRAM"
  pub same_session : whole.session ≡ alone.session
  pub same_sram : whole.sram ≡ alone.sram
  -- "and the stream's items get the same answers and echoes in both"
  pub same_answers : only (λ (call : Call). inside call.item) whole.calls ≡ alone.calls
  -- "No other item .. sends anything"
  pub others : only (λ (call : Call). not (inside call.item)) whole.calls
      ≡ map call_outside (only (λ (item : Item). not (inside item)) items)
  -- "No other item changes .. anything; with no opening, none does.", wherever it stands in the list
  pub unmoved : (before : List Item) (item : Item) (later : List Item) → items ≡ before ++ item ∷ later → inside item ≡ false
      → let sofar : Run = ran (fresh_session configuration) sram before in
      step sofar.session sofar.sram item ≡ unchanged (unheeded item) sofar.session sofar.sram
  -- "The head jumps exactly when that stream, read as a plain list, begins with ..": then one call gets 5, and otherwise none
  pub jumps : jumps_in whole.calls
      ≡ cond (complete configuration plain) (Outcome.Jumps (plain_jump configuration plain) ∷ []) []
  -- "SRAM then holds those bytes at the start address and is elsewhere as it was before the list."
  pub loaded : complete configuration plain ≡ true
      → LoadedAt sram whole.sram (plain_header configuration plain).start.0 (announced configuration plain)

abbrev pub Merging : Configuration → List ℕ → List Item → Type 0
Merging configuration sram items =
    let fresh = fresh_session configuration in
    Merged configuration sram items (in_stream (picked_port items)) (plain_of configuration items) (ran fresh sram items)
    (ran fresh sram (stream_of items))

-- "For every list of such calls": what `session_merging::every_list` promises, of every configuration whose fresh session is sound
pub record EveryList : Type 0 where
  pub holds : (configuration : Configuration) (sram : List ℕ) (items : List Item) → length configuration.password ≡ 8
      → sound (fresh_session configuration) ≡ true
      → right_size configuration sram ≡ true
      → Merging configuration sram items
