-- The run of a list against its plain list: what holds before each call, and what one call makes of it.
use Rattle.std.specs.Prelude.{Ok, Err, Result as OkOrErr}
use Prim.Native.Nat.{ℕ, ◌+◌, ◌-◌, ◌≤◌, ◌<◌}
use native.Mathlib.Omega.{arith}
use native.Mathlib.Nat.{min-le_left}
use mathlib.Core.Path.{◌≡◌, refl, sym, subst, ap, ◌∙◌}
use mathlib.Core.List.{List, [], ◌∷◌, ◌++◌, map, append_assoc, append-nil}
use mathlib.Core.Bool.{Bool, true, false, cond, not, and-eq-true_iff, true≢false, false≢true}
use mathlib.Core.Option.{Option, none, some}
use borrow.Author.Tests.{eqb-true, eqb-false, leb-true, le-leb, lt-leb}
use lib.Dec.{leb, eqb}
use lib.ListN.{length, take, drop, length-append, length-take}
use lib.Seq.{take-append_seam}
use Rattle.std.proofs.lemmas.Bool.{cond_both}
use Rattle.password.specs.Passing.{passes}
use Rattle.password.proofs.Laws.{passes_equal}
use Rattle.session_configuration.specs.declared.Configuration.{Configuration}
use Rattle.sram.specs.Region.{right_size, stored}
use Rattle.sram.proofs.Laws.{range_part, stored_none, stored_join}
use Rattle.session_state.specs.declared.Load.{Load}
use Rattle.session_state.specs.declared.Port.{Port}
use Rattle.session_state.specs.declared.Refusal.{Refusal}
use Rattle.session_state.specs.declared.Session.{Session}
use Rattle.session_state.specs.declared.Stage.{Stage}
use Rattle.session_state.specs.Accepted.{accepted_vle}
use Rattle.session_state.specs.Sound.{load_fits, count_fits}
use Rattle.session_state.proofs.Laws.{load_fits_lem, sound_fits}
use Rattle.header.specs.declared.Header.{Header}
use Rattle.header.specs.Reading.{header_read, announces_none, within, fits, validated}
use Rattle.session_items.specs.declared.Reaction.{Reaction}
use Rattle.session_items.specs.declared.Role.{Role}
use Rattle.session_items.specs.declared.Source.{Source}
use Rattle.session_items.specs.Items.{Item, well_formed, port_of, bytes_of}
use Rattle.session_items.specs.Reacting.{clean_byte, faulty_byte, counts_as, opens, stops_by, reaction}
use Rattle.session_items.proofs.Laws.{by_hearing, by_hearing-opened, counted, stopping_own, clean_or_faulty}
use Rattle.session_answers.specs.declared.Fault.{Fault}
use Rattle.session_answers.specs.declared.Outcome.{Outcome}
use Rattle.session_answers.specs.Answers.{outcome_number, unheeded}
use Rattle.session_answers.proofs.Laws.{Accepted}
use Rattle.session_fresh.specs.Fresh.{fresh_session}
use Rattle.session.specs.declared.Transition.{Transition}
use Rattle.session.specs.Rules.{enters, stops, received, holds, checked, begun, loaded, load_from, jump_of, advanced, password_received, header_received, transition, sram_after, taken_as, stopped_by_faulty_byte}
use Rattle.session.specs.Running.{Call, Run, ran}
use Rattle.session.proofs.Laws.{Gathered, reacted_in, reacted, step_takes, step_stops, step_ignores, kept, kept-stopped, received_all, received_at_once}
use Rattle.session_merging.specs.Merging.{picked_port, in_stream, only, jumps_in, clean_run, bytes_from_clean, data_bytes, bytes_from_header, bytes_from_password, plain_from, plain_of, plain_header, announced, complete, plain_jump}
use Rattle.session_merging.proofs.Ports.{same_own, picked_later}
use Rattle.session_merging.proofs.Splitting.{short, unpassed, header-bytes, all_there, announced-there}

-- of one call, its outcome if it gets 5
abbrev five : Outcome → List Outcome
five outcome = cond (eqb (outcome_number outcome) 5) (outcome ∷ []) []

jumps-next : (call : Call) (calls : List Call) → jumps_in (call ∷ calls) ≡ five call.answer.outcome ++ jumps_in calls
unfolding only
jumps-next call calls = either (eqb (outcome_number call.answer.outcome) 5)
  where
    rest : List Call
    rest = only (λ (c : Call). eqb (outcome_number c.answer.outcome) 5) calls

    either
        : (b : Bool)
        → map (λ (c : Call). c.answer.outcome) (cond b (call ∷ rest) rest)
        ≡ cond b (call.answer.outcome ∷ []) [] ++ map (λ (c : Call). c.answer.outcome) rest
    either true = refl
    either false = refl

none_ignored : (item : Item) → five (unheeded item) ≡ []
none_ignored item =
    cond_both (well_formed item) Outcome.Ignored (Outcome.Refused Fault.Form) (λ (outcome : Outcome). five outcome ≡ []) (λ e. refl) (λ e. refl)

none_stopped : (refusal : Refusal) → five (Outcome.Stops refusal) ≡ []
none_stopped Refusal.Password = refl
none_stopped Refusal.Length = refl
none_stopped Refusal.Range = refl
none_stopped (Refusal.FaultyByte vle) = refl

-- what demand 3 says of a plain list, for a run
pub record Ends (configuration : Configuration) (sram plain : List ℕ) (run : Run) : Type 0 where
  pub jumps : jumps_in run.calls ≡ cond (complete configuration plain) (Outcome.Jumps (plain_jump configuration plain) ∷ []) []
  pub loads : complete configuration plain ≡ true
      → run.sram ≡ stored sram (plain_header configuration plain).start.0 (announced configuration plain)

-- a stage that still reads
abbrev reads : Stage → Bool
reads Stage.Waiting = true
reads Stage.Password = true
reads (Stage.Header port) = true
reads (Stage.Data port load) = true
reads (Stage.Stopped refusal) = false
reads (Stage.Jumped jump) = false

-- What counts by a port is in its stream, and what stops a session of it; and a serial item of its stream is clean or faulty.

counts_inside : (role : Role) (port : Port) (item : Item) → counts_as role port item ≡ true → in_stream (some port) item ≡ true
counts_inside role port item e = let c = counted role port item e in rw (c.formed, c.own) (same_own port)

stops_inside : (port : Port) (item : Item) → stops_by port item ≡ true → in_stream (some port) item ≡ true
stops_inside port item e = let own = stopping_own port item e in rw (own.0, own.1) (same_own port)

neither : (item : Item) → in_stream (some Port.Serial) item ≡ true → clean_byte item ≡ false → faulty_byte item ≡ false → ⊥
neither (Item.Of (Source.Can identifier) bytes) i e f =
    false≢true ((and-eq-true_iff (well_formed (Item.Of (Source.Can identifier) bytes)) false).0 i).1
neither (Item.Of (Source.Serial mark) bytes) i e f =
    let item = Item.Of (Source.Serial mark) bytes in
    true≢false (sym (clean_or_faulty item ((and-eq-true_iff (well_formed item) true).0 i).0 refl e) ∙ f)

-- the items of a port's stream
abbrev of_port : Port → List Item → List Item
of_port port items = only (in_stream (some port)) items

module _ (port : Port) (item : Item) (items : List Item) where
  kept_in : in_stream (some port) item ≡ true → of_port port (item ∷ items) ≡ item ∷ of_port port items
  unfolding only
  kept_in e = rw e

  -- an item that gives nothing where it is in the stream gives nothing
  passed_by : (reading : List Item → List ℕ)
      → (in_stream (some port) item ≡ true → reading (item ∷ of_port port items) ≡ reading (of_port port items))
      → reading (of_port port (item ∷ items)) ≡ reading (of_port port items)
  unfolding only
  passed_by reading inside =
      cond_both (in_stream (some port) item) (item ∷ of_port port items) (of_port port items) (λ (l : List Item). reading l ≡ reading (of_port port items)) inside (λ e. refl)

-- what serial reads behind the opening
abbrev clean_rest : List Item → List ℕ
clean_rest items = clean_run (of_port Port.Serial items)

module _ (item : Item) (items : List Item) where
  clean-taken : clean_byte item ≡ true → clean_rest (item ∷ items) ≡ bytes_of item ++ clean_rest items
  unfolding clean_run
  clean-taken e = rw (kept_in Port.Serial item items (counts_inside Role.Password Port.Serial item e), e)

  clean-ends : clean_byte item ≡ false → faulty_byte item ≡ true → clean_rest (item ∷ items) ≡ []
  unfolding clean_run
  clean-ends e f = rw (kept_in Port.Serial item items (stops_inside Port.Serial item f), e)

  clean_passed : clean_byte item ≡ false → faulty_byte item ≡ false → clean_rest (item ∷ items) ≡ clean_rest items
  clean_passed e f = passed_by Port.Serial item items clean_run (λ i. absurd (neither item i e f))

module _ (configuration : Configuration) where
  -- What the rest of a list still gives to the plain list, by stage; a session that has ended reads no more.
  abbrev rest : Stage → List Item → List ℕ
  rest Stage.Waiting items = plain_of configuration items
  rest Stage.Password items = clean_rest items
  rest (Stage.Header Port.Can) items = bytes_from_header configuration (of_port Port.Can items)
  rest (Stage.Header Port.Serial) items = clean_rest items
  rest (Stage.Data Port.Can load) items = data_bytes load.owed (of_port Port.Can items)
  rest (Stage.Data Port.Serial load) items = clean_rest items
  rest (Stage.Stopped refusal) items = []
  rest (Stage.Jumped jump) items = []

  -- an item that does not open gives nothing, whichever port is picked
  unopened : (picked : Option Port) (item : Item) (items : List Item) → opens item ≡ false
      → plain_from configuration picked (item ∷ items) ≡ plain_from configuration picked items
  unfolding bytes_from_password bytes_from_clean
  unopened none item items e = refl
  unopened (some Port.Can) (Item.Of (Source.Can identifier) bytes) items e = rw e
  unopened (some Port.Can) (Item.Of (Source.Serial mark) bytes) items e = refl
  unopened (some Port.Serial) (Item.Of (Source.Can identifier) bytes) items e = refl
  unopened (some Port.Serial) (Item.Of (Source.Serial mark) bytes) items e = rw e

  opening_passed : (item : Item) (items : List Item) → opens item ≡ false
      → rest Stage.Waiting (item ∷ items) ≡ rest Stage.Waiting items
  unfolding picked_port only
  opening_passed item items e =
      let picked = picked_port items in
      let later = only (in_stream picked) items in
      subst
      (λ (p : Option Port). plain_from configuration p (only (in_stream p) (item ∷ items)) ≡ plain_from configuration picked later)
      (sym (picked_later item items e))
      (cond_both (in_stream picked item) (item ∷ later) later (λ (l : List Item). plain_from configuration picked l ≡ plain_from configuration picked later) (λ i. unopened picked item later e) (λ i. refl))

  -- the opening gives its bytes
  opening_taken : (item : Item) (items : List Item) → opens item ≡ true
      → rest Stage.Waiting (item ∷ items) ≡ bytes_of item ++ rest (Stage.Header (port_of item)) items
  unfolding picked_port bytes_from_password bytes_from_clean
  opening_taken (Item.Of (Source.Can identifier) bytes) items e =
      let item = Item.Of (Source.Can identifier) bytes in
      rw (e, kept_in Port.Can item items (counts_inside Role.Password Port.Can item e), e)
  opening_taken (Item.Of (Source.Serial mark) bytes) items e =
      let item = Item.Of (Source.Serial mark) bytes in
      rw (e, kept_in Port.Serial item items (counts_inside Role.Password Port.Serial item e), e)

  -- a header frame, and the bytes of a header, are followed by data
  header_passed : (port : Port) (item : Item) (items : List Item) → counts_as Role.Header port item ≡ false → stops_by port item ≡ false
      → rest (Stage.Header port) (item ∷ items) ≡ rest (Stage.Header port) items
  unfolding bytes_from_header
  header_passed Port.Can item items e f = passed_by Port.Can item items (bytes_from_header configuration) (λ i. rw e)
  header_passed Port.Serial item items e f = clean_passed item items e f

  header-ends : (port : Port) (item : Item) (items : List Item) → counts_as Role.Header port item ≡ false → stops_by port item ≡ true
      → rest (Stage.Header port) (item ∷ items) ≡ []
  header-ends Port.Can item items e f = absurd (false≢true f)
  header-ends Port.Serial item items e f = clean-ends item items e f

  header-taken : (port : Port) (item : Item) (items : List Item) → counts_as Role.Header port item ≡ true
      → rest (Stage.Header port) (item ∷ items)
      ≡ bytes_of item ++ rest (Stage.Data port (load_from (header_read configuration (bytes_of item)))) items
  unfolding bytes_from_header
  header-taken Port.Can item items e = rw (kept_in Port.Can item items (counts_inside Role.Header Port.Can item e), e)
  header-taken Port.Serial item items e = clean-taken item items e

  data_passed : (port : Port) (load : Load) (item : Item) (items : List Item) → counts_as (Role.Data load) port item ≡ false
      → stops_by port item ≡ false
      → rest (Stage.Data port load) (item ∷ items) ≡ rest (Stage.Data port load) items
  unfolding data_bytes
  data_passed Port.Can load item items e f = passed_by Port.Can item items (data_bytes load.owed) (λ i. rw e)
  data_passed Port.Serial load item items e f = clean_passed item items e f

  data_ends : (port : Port) (load : Load) (item : Item) (items : List Item) → counts_as (Role.Data load) port item ≡ false
      → stops_by port item ≡ true
      → rest (Stage.Data port load) (item ∷ items) ≡ []
  data_ends Port.Can load item items e f = absurd (false≢true f)
  data_ends Port.Serial load item items e f = clean-ends item items e f

  data_taken : (port : Port) (load : Load) (item : Item) (items : List Item) → counts_as (Role.Data load) port item ≡ true
      → rest (Stage.Data port load) (item ∷ items)
      ≡ bytes_of item ++ rest (Stage.Data port (advanced load (length (bytes_of item)))) items
  unfolding data_bytes
  data_taken Port.Can load item items e = rw (kept_in Port.Can item items (counts_inside (Role.Data load) Port.Can item e), e)
  data_taken Port.Serial load item items e = clean-taken item items e

module _
    (configuration : Configuration) (sram plain : List ℕ) (eight : length configuration.password ≡ 8)
    (right : right_size configuration sram ≡ true) where
  abbrev password : List ℕ
  password = configuration.password

  abbrev header_of : List ℕ → Header
  header_of bytes = header_read configuration bytes

  -- what the plain list asks for: the jump, and SRAM as it is then
  abbrev jumps_asked : List Outcome
  jumps_asked = cond (complete configuration plain) (Outcome.Jumps (plain_jump configuration plain) ∷ []) []

  abbrev sram_asked : List ℕ
  sram_asked = stored sram (plain_header configuration plain).start.0 (announced configuration plain)

  -- the jumps still to come
  abbrev due : Stage → List Outcome
  due Stage.Waiting = jumps_asked
  due Stage.Password = jumps_asked
  due (Stage.Header port) = jumps_asked
  due (Stage.Data port load) = jumps_asked
  due (Stage.Stopped refusal) = jumps_asked
  due (Stage.Jumped jump) = []

  -- a load under way: the password, a header that fits and some bytes have come, and those bytes are stored
  record Loading (load : Load) (before m : List ℕ) : Type 0 where
    header : List ℕ
    bytes : List ℕ
    parts : before ≡ password ++ (header ++ bytes)
    passed : passes password password ≡ true
    eight-bytes : length header ≡ 8
    fit : fits configuration (header_of header) ≡ true
    jump : jump_of load ≡ record { start = (header_of header).start; vle = (header_of header).vle }
    next : load.next ≡ (header_of header).start.0 + length bytes
    count : load.owed + length bytes ≡ (header_of header).length
    memory : m ≡ stored sram (header_of header).start.0 bytes

  -- what came before the bytes held, and SRAM, by stage
  abbrev Known : Stage → List ℕ → List ℕ → Type 0
  Known Stage.Waiting before m = (before ≡ []) × (m ≡ sram)
  Known Stage.Password before m = (before ≡ []) × (m ≡ sram)
  Known (Stage.Header port) before m = (before ≡ password) × (m ≡ sram) × (passes password password ≡ true)
  Known (Stage.Data port load) before m = Loading load before m
  Known (Stage.Stopped refusal) before m = complete configuration plain ≡ false
  Known (Stage.Jumped jump) before m = m ≡ sram_asked

  -- before a call: the plain list is what came before, the bytes held and what the rest of the list gives; of a session that has ended
  -- all of it counts as come before
  record Before (stage : Stage) (session : Session) (m : List ℕ) (items : List Item) : Type 0 where
    same : session.configuration ≡ configuration
    before : List ℕ
    shape : plain ≡ before ++ (take session.count session.held ++ rest configuration stage items)
    knows : Known stage before m

  -- after a call that took its item
  record Onward (jumps : List Outcome) (m : List ℕ) (items : List Item) (next : Transition) : Type 0 where
    made : five next.outcome ++ due next.session.stage ≡ jumps
    onward : Before next.session.stage next.session m items

  -- after the last call
  record Done (jumps : List Outcome) (run : Run) : Type 0 where
    made : jumps_in run.calls ≡ jumps
    loads : complete configuration plain ≡ true → run.sram ≡ sram_asked

  -- A load: the plain list is complete if all its bytes are there.

  module _ {load : Load} {before m : List ℕ} (more : List ℕ) (l : Loading load before m) (shape : plain ≡ before ++ more) where
    in_parts : plain ≡ password ++ (l.header ++ (l.bytes ++ more))
    in_parts = shape ∙ rw l.parts (simp append_assoc)

    header-there : take 8 (drop 8 plain) ≡ l.header
    header-there = rw in_parts (header-bytes configuration l.header (l.bytes ++ more) eight l.eight-bytes)

    by_count : complete configuration plain ≡ leb (16 + (header_of l.header).length) (16 + length (l.bytes ++ more))
    by_count =
        ap (complete configuration) in_parts
        ∙ all_there configuration l.header (l.bytes ++ more) eight l.eight-bytes l.passed
        ∙ rw l.fit

    bytes_missing : length more < load.owed → complete configuration plain ≡ false
    bytes_missing few =
        by_count
        ∙ lt-leb (16 + (header_of l.header).length) (16 + length (l.bytes ++ more))
        (omega (arith, l.count, length-append l.bytes more))

    bytes-there : load.owed ≡ 0 → complete configuration plain ≡ true
    bytes-there none-owed =
        by_count
        ∙ le-leb (16 + (header_of l.header).length) (16 + length (l.bytes ++ more))
        (omega (arith, l.count, length-append l.bytes more))

    all_stored : load.owed ≡ 0 → m ≡ sram_asked
    all_stored none-owed =
        let there = announced-there configuration l.header (l.bytes ++ more) eight l.eight-bytes l.bytes more refl in
        let all = ap (announced configuration) in_parts ∙ there (omega (arith, l.count)) in
        l.memory ∙ rw (all, header-there)

    its_jump : load.owed ≡ 0 → Outcome.Jumps (jump_of load) ∷ [] ≡ jumps_asked
    its_jump none-owed = rw (bytes-there none-owed, header-there) (ap (λ j. Outcome.Jumps j ∷ []) l.jump)

  -- the load with some bytes more
  further : {load : Load} {before m : List ℕ} (bytes : List ℕ) → Loading load before m → length bytes ≤ load.owed
      → Loading (advanced load (length bytes)) (before ++ bytes) (stored m load.next bytes)
  further bytes l few =
      let header = header_of l.header in
      let inside = ((and-eq-true_iff (not (announces_none header)) (within configuration header)).0 l.fit).1 in
      let longer = length-append l.bytes bytes in
      record {
        header = l.header;
        bytes = l.bytes ++ bytes;
        parts = rw l.parts (simp append_assoc);
        passed = l.passed;
        eight-bytes = l.eight-bytes;
        fit = l.fit;
        jump = l.jump;
        next = omega (arith, l.next);
        count = omega (arith, l.count);
        memory =
            rw (l.memory, l.next)
            (stored_join configuration sram header.start.0 l.bytes bytes right
            (range_part configuration header.start.0 header.length (length l.bytes + length bytes) inside (omega (arith, l.count))));
      }

  -- a header that does not fit
  unfit : (all more : List ℕ) → length all ≡ 8 → passes password password ≡ true → plain ≡ password ++ (all ++ more)
      → fits configuration (header_of all) ≡ false → complete configuration plain ≡ false
  unfit all more full passed shape e =
      ap (complete configuration) shape ∙ all_there configuration all more eight full passed ∙ rw e

  -- What the bytes taken do, as in the session's rules.

  module _ (session : Session) (m : List ℕ) (items : List Item) (same : session.configuration ≡ configuration) where
    abbrev Continues : Transition → Type 0
    Continues next = Onward jumps_asked m items next

    enters_on : (stage : Stage) (outcome : Outcome) (before : List ℕ) → five outcome ++ due stage ≡ jumps_asked
        → plain ≡ before ++ rest configuration stage items → Known stage before m → Continues (enters session stage outcome)
    enters_on stage outcome before made shape knows =
        record { made = made; onward = record { same = same; before = before; shape = shape; knows = knows } }

    stops_on : (refusal : Refusal) → complete configuration plain ≡ false → Continues (stops session refusal)
    stops_on refusal e =
        enters_on (Stage.Stopped refusal) (Outcome.Stops refusal) plain (rw (none_stopped refusal)) (sym (append-nil plain)) e

    -- data bytes: with the last one the head jumps
    loaded_on : (port : Port) (load : Load) (before bytes : List ℕ) → Loading (advanced load (length bytes)) before m
        → plain ≡ before ++ rest configuration (Stage.Data port (advanced load (length bytes))) items
        → Continues (loaded session port load bytes)
    unfolding loaded
    loaded_on port load before bytes l shape =
        let more = rest configuration (Stage.Data port (advanced load (length bytes))) items in
        cond_both (eqb (length bytes) load.owed) (enters session (Stage.Jumped (jump_of load)) (Outcome.Jumps (jump_of load))) (enters session (Stage.Data port (advanced load (length bytes))) Outcome.Taken) Continues
        (λ e. let none-owed : load.owed - length bytes ≡ 0 = omega (arith, eqb-true (length bytes) load.owed e) in
        enters_on (Stage.Jumped (jump_of load)) (Outcome.Jumps (jump_of load)) plain (its_jump more l shape none-owed)
        (sym (append-nil plain)) (all_stored more l shape none-owed))
        (λ e. enters_on (Stage.Data port (advanced load (length bytes))) Outcome.Taken before refl shape l)

    -- 8 header bytes
    begun_on : (port : Port) (all : List ℕ) → m ≡ sram → passes password password ≡ true
        → plain ≡ password ++ (all ++ rest configuration (Stage.Data port (load_from (header_of all))) items)
        → length all ≡ 8
        → Continues (begun session port (validated configuration (header_of all)))
    unfolding validated
    begun_on port all still passed shape full =
        let header = header_of all in
        let inside = within configuration header in
        let more = rest configuration (Stage.Data port (load_from header)) items in
        let goes_on : OkOrErr Header Refusal → Type 0 = λ v. Continues (begun session port v) in
        cond_both (announces_none header) (Err Refusal.Length) (cond inside (Ok header) (Err Refusal.Range)) goes_on
        (λ e. stops_on Refusal.Length (unfit all more full passed shape (rw e)))
        (λ e. cond_both inside (Ok header) (Err Refusal.Range) goes_on
        (λ f. enters_on (Stage.Data port (load_from header)) Outcome.Taken (password ++ all) refl (shape ∙ rw append_assoc)
        (record {
          header = all;
          bytes = [];
          parts = rw append-nil;
          passed = passed;
          eight-bytes = full;
          fit = rw (e, f);
          jump = refl;
          next = omega arith;
          count = omega arith;
          memory = still ∙ sym (stored_none sram header.start.0);
        }))
        (λ f. stops_on Refusal.Range (unfit all more full passed shape (rw (e, f)))))

    -- 8 password bytes
    checked_on : (port : Port) (all : List ℕ) → m ≡ sram → plain ≡ all ++ rest configuration (Stage.Header port) items
        → length all ≡ 8
        → Continues (checked session port all)
    unfolding checked
    checked_on port all still shape full =
        cond_both (passes all session.configuration.password) (enters session (Stage.Header port) Outcome.Taken) (stops session Refusal.Password) Continues
        (λ e. let own : passes all password ≡ true = rw same at e in
        let equal = passes_equal all password own in
        enters_on (Stage.Header port) Outcome.Taken password refl (shape ∙ rw equal) (refl, still, rw equal at own))
        (λ e. stops_on Refusal.Password
        (ap (complete configuration) shape ∙ unpassed configuration all (rest configuration (Stage.Header port) items) full (rw same at e)))

    -- bytes that are gathered until there are 8: fewer are held, and what the 8th brings is given
    gathered : (stage : Stage) (before all : List ℕ) (full : Transition) → due stage ≡ jumps_asked → Known stage before m
        → (eqb (length all) 8 ≡ false → plain ≡ before ++ (all ++ rest configuration stage items))
        → (length all ≡ 8 → Continues full)
        → Continues (cond (eqb (length all) 8) full (holds session stage all))
    gathered stage before all full none_made knows shape eighth =
        cond_both (eqb (length all) 8) full (holds session stage all) Continues
        (λ e. eighth (eqb-true (length all) 8 e))
        (λ e. let held = take-append_seam all (drop (length all) session.held) in
        record {
          made = none_made;
          onward = record { same = same; before = before; shape = shape e ∙ rw held; knows = knows };
        })

    -- only serial's bytes come one by one
    by_serial_lem : (port : Port) (all : List ℕ) → (port ≡ Port.Can → length all ≡ 8) → eqb (length all) 8 ≡ false → port ≡ Port.Serial
    by_serial_lem Port.Can all can e = absurd (eqb-false (length all) 8 e (can refl))
    by_serial_lem Port.Serial all can e = refl

    password_on : (port : Port) (before all : List ℕ) → Known Stage.Password before m
        → plain ≡ before ++ (all ++ rest configuration (Stage.Header port) items)
        → (port ≡ Port.Can → length all ≡ 8)
        → Continues (password_received session port all)
    unfolding password_received
    password_on port before all knows shape can =
        gathered Stage.Password before all (checked session port all) refl knows
        (λ e. rw (by_serial_lem port all can e) at shape)
        (checked_on port all knows.1 (rw knows.0 at shape))

    header_on : (port : Port) (before all : List ℕ) → Known (Stage.Header port) before m
        → plain ≡ before ++ (all ++ rest configuration (Stage.Data port (load_from (header_of all))) items)
        → (port ≡ Port.Can → length all ≡ 8)
        → Continues (header_received session port all)
    unfolding header_received
    header_on port before all knows shape can =
        subst
        (λ (c : Configuration). Continues
        (cond (eqb (length all) 8) (begun session port (validated c (header_read c all))) (holds session (Stage.Header port) all)))
        (sym same)
        (gathered (Stage.Header port) before all (begun session port (validated configuration (header_of all))) refl knows
        (λ e. rw (by_serial_lem port all can e) (rw (by_serial_lem port all can e) at shape))
        (begun_on port all knows.1 knows.2 (rw knows.0 at shape)))

  -- Nothing more comes: the plain list is not complete.

  -- at most as many bytes are held as are counted
  held_few : (session : Session) → length (take session.count session.held ++ []) ≤ session.count
  held_few session =
      rw append-nil (omega (arith, length-take session.count session.held, min-le_left session.count (length session.held)))

  module _ {session : Session} {m : List ℕ} {items : List Item} where
    too_short : {stage : Stage} (s : Before stage session m items) → rest configuration stage items ≡ []
        → length s.before ≤ 8 → session.count ≤ 7 → complete configuration plain ≡ false
    too_short s none_left few count =
        let shape = rw none_left at s.shape in
        let lengths = length-append s.before (take session.count session.held ++ []) in
        short configuration plain (omega (arith, ap length shape, held_few session))

    cut_off : (stage : Stage) (s : Before stage session m items) → count_fits session.configuration stage session.count ≡ true
        → rest configuration stage items ≡ [] → reads stage ≡ true → complete configuration plain ≡ false
    cut_off Stage.Waiting s fine none_left r =
        too_short s none_left (rw s.knows.0 (omega arith)) (omega (arith, eqb-true session.count 0 fine))
    cut_off Stage.Password s fine none_left r =
        let both = (and-eq-true_iff (leb 1 session.count) (leb session.count 7)).0 fine in
        too_short s none_left (rw s.knows.0 (omega arith)) (leb-true session.count 7 both.1)
    cut_off (Stage.Header Port.Can) s fine none_left r =
        too_short s none_left (rw s.knows.0 (omega arith)) (omega (arith, eqb-true session.count 0 fine))
    cut_off (Stage.Header Port.Serial) s fine none_left r =
        too_short s none_left (rw s.knows.0 (omega arith)) (leb-true session.count 7 fine)
    cut_off (Stage.Data port load) s fine none_left r =
        let both = (and-eq-true_iff (eqb session.count 0) (load_fits session.configuration load)).0 fine in
        bytes_missing (take session.count session.held ++ []) s.knows (rw none_left at s.shape)
        (omega (arith, held_few session, eqb-true session.count 0 both.0, (load_fits_lem session.configuration load both.1).some_owed))
    cut_off (Stage.Stopped refusal) s fine none_left r = absurd (false≢true r)
    cut_off (Stage.Jumped jump) s fine none_left r = absurd (false≢true r)

  unfinished : (session : Session) (m : List ℕ) → complete configuration plain ≡ false → Done jumps_asked (ran session m [])
  unfolding ran only
  unfinished session m e = record { made = rw e; loads = λ c. absurd (true≢false (sym c ∙ e)) }

  -- One call.

  -- the bytes of an item that is taken come behind those held
  joined : {stage : Stage} {session : Session} {m : List ℕ} {item : Item} {items : List Item}
      (s : Before stage session m (item ∷ items)) (later : List ℕ) → rest configuration stage (item ∷ items) ≡ bytes_of item ++ later
      → plain ≡ s.before ++ (received session (bytes_of item) ++ later)
  joined s later e = s.shape ∙ rw e (simp append_assoc)

  -- what a reaction makes of what holds before the call
  abbrev After : Stage → Session → List ℕ → Item → List Item → Reaction → Type 0
  After stage session m item items Reaction.Ignores =
      rest configuration stage (item ∷ items) ≡ rest configuration stage items
  After stage session m item items (Reaction.Takes role port) =
      Onward (due stage) (sram_after role session m (bytes_of item)) items (transition role session port (bytes_of item))
  After stage session m item items Reaction.Stops = (due stage ≡ jumps_asked) × (complete configuration plain ≡ false)

  module _ (session : Session) (m : List ℕ) (item : Item) (items : List Item) where
    password-taken : (stage : Stage) (port : Port) (s : Before stage session m (item ∷ items)) → due stage ≡ jumps_asked
        → Known Stage.Password s.before m
        → rest configuration stage (item ∷ items) ≡ bytes_of item ++ rest configuration (Stage.Header port) items
        → Gathered port session (length (bytes_of item))
        → After stage session m item items (Reaction.Takes Role.Password port)
    unfolding transition sram_after
    password-taken stage port s none_made knows e g =
        rw none_made
        (password_on session m items s.same port s.before (received session (bytes_of item)) knows
        (joined s (rest configuration (Stage.Header port) items) e)
        (λ can. (received_at_once session (bytes_of item) g can).1))

    -- the header read of a frame is that of the bytes received, and serial reads on whatever the header
    header-behind : (port : Port) → (port ≡ Port.Can → received session (bytes_of item) ≡ bytes_of item)
        → rest configuration (Stage.Data port (load_from (header_of (bytes_of item)))) items
        ≡ rest configuration (Stage.Data port (load_from (header_of (received session (bytes_of item))))) items
    header-behind Port.Can alone = rw (alone refl)
    header-behind Port.Serial alone = refl

    call_on : (stage : Stage) → count_fits session.configuration stage session.count ≡ true
        → Before stage session m (item ∷ items) → After stage session m item items (reaction stage item)
    unfolding reaction transition sram_after
    call_on Stage.Waiting fine s =
        by_hearing (After Stage.Waiting session m item items) Role.Password (port_of item) item
        (λ e. let taken = rw e at (reacted_in session item Stage.Waiting fine) in
        password-taken Stage.Waiting (port_of item) s refl s.knows (opening_taken configuration item items e) taken.placed)
        (opening_passed configuration item items)
    call_on Stage.Password fine s =
        by_hearing-opened (After Stage.Password session m item items) Role.Password Port.Serial item
        (λ e. let taken = rw e at (reacted_in session item Stage.Password fine) in
        password-taken Stage.Password Port.Serial s refl s.knows (clean-taken item items e) taken.placed)
        (λ f e. (refl, cut_off Stage.Password s fine (clean-ends item items e f) refl))
        (λ f e. clean_passed item items e f)
    call_on (Stage.Header port) fine s =
        let all = received session (bytes_of item) in
        let later = rest configuration (Stage.Data port (load_from (header_of all))) items in
        by_hearing-opened (After (Stage.Header port) session m item items) Role.Header port item
        (λ e. let taken = rw e at (reacted_in session item (Stage.Header port) fine) in
        let whole = received_at_once session (bytes_of item) taken.placed in
        let behind = header-behind port (λ can. (whole can).0) in
        header_on session m items s.same port s.before all s.knows
        (joined s later (header-taken configuration port item items e ∙ ap (λ (l : List ℕ). bytes_of item ++ l) behind))
        (λ can. (whole can).1))
        (λ f e. (refl, cut_off (Stage.Header port) s fine (header-ends configuration port item items e f) refl))
        (λ f e. header_passed configuration port item items e f)
    call_on (Stage.Data port load) fine s =
        let bytes = bytes_of item in
        let later = rest configuration (Stage.Data port (advanced load (length bytes))) items in
        by_hearing-opened (After (Stage.Data port load) session m item items) (Role.Data load) port item
        (λ e. let placed = (rw e at (reacted_in session item (Stage.Data port load) fine)).placed in
        loaded_on session (stored m load.next bytes) items s.same port load (s.before ++ bytes) bytes
        (further bytes s.knows placed.2)
        (joined s later (data_taken configuration port load item items e) ∙ rw (received_all session bytes placed.0, append_assoc)))
        (λ f e. (refl, cut_off (Stage.Data port load) s fine (data_ends configuration port load item items e f) refl))
        (λ f e. data_passed configuration port load item items e f)
    call_on (Stage.Stopped refusal) fine s = refl
    call_on (Stage.Jumped jump) fine s = refl

  -- The end of the list.

  ended : (stage : Stage) (session : Session) (m : List ℕ) → count_fits session.configuration stage session.count ≡ true
      → Before stage session m [] → Done (due stage) (ran session m [])
  unfolding ran only picked_port clean_run bytes_from_header data_bytes
  ended Stage.Waiting session m fine s = unfinished session m (cut_off Stage.Waiting s fine refl refl)
  ended Stage.Password session m fine s = unfinished session m (cut_off Stage.Password s fine refl refl)
  ended (Stage.Header Port.Can) session m fine s = unfinished session m (cut_off (Stage.Header Port.Can) s fine refl refl)
  ended (Stage.Header Port.Serial) session m fine s = unfinished session m (cut_off (Stage.Header Port.Serial) s fine refl refl)
  ended (Stage.Data Port.Can load) session m fine s = unfinished session m (cut_off (Stage.Data Port.Can load) s fine refl refl)
  ended (Stage.Data Port.Serial load) session m fine s = unfinished session m (cut_off (Stage.Data Port.Serial load) s fine refl refl)
  ended (Stage.Stopped refusal) session m fine s = unfinished session m s.knows
  ended (Stage.Jumped jump) session m fine s = record { made = refl; loads = λ c. s.knows }

  -- All calls: each takes its item, is stopped by it, or passes it by.

  run-next : (session : Session) (m : List ℕ) (item : Item) (items : List Item) (r : Reaction) → reaction session.stage item ≡ r
      → After session.stage session m item items r
      → Accepted session m
      → Before session.stage session m (item ∷ items)
      → ((s : Session) (m' : List ℕ) → Accepted s m' → Before s.stage s m' items → Done (due s.stage) (ran s m' items))
      → Done (due session.stage) (ran session m (item ∷ items))
  unfolding ran taken_as
  run-next session m item items (Reaction.Takes role port) e on ok s later =
      let next = transition role session port (bytes_of item) in
      let taken = reacted session item ok.fine (Reaction.Takes role port) e in
      let end = later next.session (sram_after role session m (bytes_of item)) (kept session m item role port taken ok) on.onward in
      let takes = step_takes session m item ok role port e in
      record { made = jumps-next _ _ ∙ rw (takes, end.made) on.made; loads = rw takes end.loads }
  run-next session m item items Reaction.Stops e on ok s later =
      let on-stop = stops_on session m items s.same (Refusal.FaultyByte (accepted_vle session.stage)) on.1 in
      let end = later (stopped_by_faulty_byte session).session m (kept-stopped session m ok) on-stop.onward in
      let stopped = step_stops session m item ok e in
      record { made = jumps-next _ _ ∙ rw (stopped, end.made) (on-stop.made ∙ sym on.0); loads = rw stopped end.loads }
  run-next session m item items Reaction.Ignores e on ok s later =
      let passed = step_ignores session m item ok e in
      let end = later session m ok (record { same = s.same; before = s.before; shape = rw on at s.shape; knows = s.knows }) in
      record { made = jumps-next _ _ ∙ rw (passed, none_ignored item) end.made; loads = rw passed end.loads }

  run_ends : (items : List Item) (session : Session) (m : List ℕ) → Accepted session m → Before session.stage session m items
      → Done (due session.stage) (ran session m items)
  run_ends [] session m ok s = ended session.stage session m (sound_fits session ok.fine) s
  run_ends (item ∷ items) session m ok s =
      run-next session m item items (reaction session.stage item) refl
      (call_on session m item items session.stage (sound_fits session ok.fine) s) ok s (λ s' m' ok' b. run_ends items s' m' ok' b)

module _ (configuration : Configuration) (sram : List ℕ) (eight : length configuration.password ≡ 8) (ok : Accepted (fresh_session configuration) sram) where
  pub forward : (items : List Item)
      → Ends configuration sram (plain_of configuration items) (ran (fresh_session configuration) sram items)
  forward items =
      let plain = plain_of configuration items in
      let fresh = fresh_session configuration in
      let end = run_ends configuration sram plain eight ok.right items fresh sram ok (record { same = refl; before = []; shape = refl; knows = (refl, refl) }) in
      record { jumps = end.made; loads = end.loads }
