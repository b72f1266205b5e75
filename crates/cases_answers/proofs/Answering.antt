-- The numbers that the rules give, row by row.
use Rattle.std.specs.Prelude.{Ok, Err, Result as OkOrErr}
use Prim.Native.Nat.{ℕ, ◌-◌}
use native.Mathlib.Omega.{arith}
use mathlib.Core.Path.{◌≡◌, refl, sym, ◌∙◌}
use mathlib.Core.List.{List}
use mathlib.Core.Bool.{Bool, true, false, cond, ◌&&◌, and-eq-true_iff, true≢false, false≢true}
use borrow.Author.Tests.{eqb-true}
use lib.Dec.{leb, eqb}
use lib.ListN.{length}
use Rattle.std.proofs.lemmas.Bool.{cond_both}
use Rattle.password.specs.Passing.{passes}
use Rattle.sram.specs.Region.{right_size}
use Rattle.session_state.specs.declared.Load.{Load}
use Rattle.session_state.specs.declared.Port.{Port}
use Rattle.session_state.specs.declared.Refusal.{Refusal}
use Rattle.session_state.specs.declared.Session.{Session}
use Rattle.session_state.specs.declared.Stage.{Stage}
use Rattle.session_state.specs.Accepted.{accepted_vle}
use Rattle.session_state.specs.Sound.{sound}
use Rattle.header.specs.declared.Header.{Header}
use Rattle.header.specs.Reading.{header_read, announces_none, within, validated}
use Rattle.session_items.specs.declared.Reaction.{Reaction}
use Rattle.session_items.specs.declared.Role.{Role}
use Rattle.session_items.specs.declared.Source.{Source}
use Rattle.session_items.specs.Items.{Item, well_formed, port_of, bytes_of}
use Rattle.session_items.specs.Reacting.{eight_under, data_fitting, clean_byte, faulty_byte, counts_as, stops_by, heard_opened, reaction}
use Rattle.session_items.proofs.Laws.{by_hearing, by_hearing-opened, clean_or_faulty}
use Rattle.session_answers.specs.declared.Outcome.{Outcome}
use Rattle.session_answers.specs.Answers.{outcome_number, precheck, under_port, echo_under, no_echo, echo_identifier, unchanged}
use Rattle.session.specs.declared.Transition.{Transition}
use Rattle.session.specs.Rules.{received, enters, stops, holds, checked, begun, loaded, jump_of, advanced, password_received, header_received, transition, sram_after, taken_as, step}
use Rattle.cases_answers.specs.Rows.{wrong_password, length_zero, not_in_sram, last_stored, taken_number, serial_going, by_serial, untaken_number, number_due, changes_nothing, sends_echo, echoed_under, stage_after, header_vle, ended_session}

module _ (session : Session) where
  password-number : (port : Port) (all : List ℕ) (a b : Bool) → eqb (length all) 8 ≡ a
      → passes all session.configuration.password ≡ b
      → outcome_number (password_received session port all).outcome ≡ cond (wrong_password session all) 2 0
  unfolding password_received checked
  password-number port all true true e f = rw (e, f)
  password-number port all true false e f = rw (e, f)
  password-number port all false b e f = rw e

  header-number : (port : Port) (all : List ℕ) (a b c : Bool) → eqb (length all) 8 ≡ a
      → announces_none (header_read session.configuration all) ≡ b
      → within session.configuration (header_read session.configuration all) ≡ c
      → outcome_number (header_received session port all).outcome
      ≡ cond (length_zero session all) 3 (cond (not_in_sram session all) 4 0)
  unfolding header_received validated
  header-number port all true true c e f g = rw (e, f)
  header-number port all true false true e f g = rw (e, f, g)
  header-number port all true false false e f g = rw (e, f, g)
  header-number port all false b c e f g = rw e

  data_number : (port : Port) (load : Load) (bytes : List ℕ) (a : Bool) → eqb (length bytes) load.owed ≡ a
      → outcome_number (loaded session port load bytes).outcome ≡ cond (last_stored load bytes) 5 0
  unfolding loaded
  data_number port load bytes true e = rw e
  data_number port load bytes false e = rw e

  -- an item that is taken
  taken_number_lem : (role : Role) (port : Port) (bytes : List ℕ)
      → outcome_number (transition role session port bytes).outcome ≡ taken_number role session bytes
  unfolding transition
  taken_number_lem Role.Password port bytes =
      let all = received session bytes in
      password-number port all (eqb (length all) 8) (passes all session.configuration.password) refl refl
  taken_number_lem Role.Header port bytes =
      let all = received session bytes in
      let header = header_read session.configuration all in
      header-number port all (eqb (length all) 8) (announces_none header) (within session.configuration header) refl refl refl
  taken_number_lem (Role.Data load) port bytes = data_number port load bytes (eqb (length bytes) load.owed) refl

  -- its number is 0 or 2 to 5
  taken_as_lem : (P : ℕ → Type 0) → P 0 → P 2 → P 3 → P 4 → P 5 → (role : Role) (bytes : List ℕ) → P (taken_number role session bytes)
  taken_as_lem P zero two three four five Role.Password bytes =
      cond_both (wrong_password session (received session bytes)) 2 0 P (λ e. two) (λ e. zero)
  taken_as_lem P zero two three four five Role.Header bytes =
      let all = received session bytes in
      cond_both (length_zero session all) 3 (cond (not_in_sram session all) 4 0) P (λ e. three)
      (λ e. cond_both (not_in_sram session all) 4 0 P (λ f. four) (λ f. zero))
  taken_as_lem P zero two three four five (Role.Data load) bytes = cond_both (last_stored load bytes) 5 0 P (λ e. five) (λ e. zero)

  taken_changes : (role : Role) (bytes : List ℕ) → changes_nothing (taken_number role session bytes) ≡ false
  taken_changes role bytes = taken_as_lem (λ (n : ℕ). changes_nothing n ≡ false) refl refl refl refl refl role bytes

  taken-echoed : (role : Role) (bytes : List ℕ) → sends_echo (taken_number role session bytes) ≡ true
  taken-echoed role bytes = taken_as_lem (λ (n : ℕ). sends_echo n ≡ true) refl refl refl refl refl role bytes

  not_twelve : (role : Role) (bytes : List ℕ) → taken_number role session bytes ≡ 12 → ⊥
  not_twelve role bytes =
      taken_as_lem (λ (n : ℕ). n ≡ 12 → ⊥) (λ e. omega arith) (λ e. omega arith) (λ e. omega arith) (λ e. omega arith) (λ e. omega arith) role bytes

  -- the stage after what the bytes do, and the configuration
  record Named (next : Transition) : Type 0 where
    stage : stage_after next.outcome next.session.stage ≡ next.session.stage
    same : next.session.configuration ≡ session.configuration

  begun_named : (port : Port) (v : OkOrErr Header Refusal) → Named (begun session port v)
  begun_named port (Err refusal) = record { stage = refl; same = refl }
  begun_named port (Ok header) = record { stage = refl; same = refl }

  transition_named : (role : Role) (port : Port) (bytes : List ℕ) → Named (transition role session port bytes)
  unfolding transition password_received header_received checked loaded
  transition_named Role.Password port bytes =
      let all = received session bytes in
      let passed = enters session (Stage.Header port) Outcome.Taken in
      let tested = passes all session.configuration.password in
      cond_both (eqb (length all) 8) (cond tested passed (stops session Refusal.Password)) (holds session Stage.Password all) Named
      (λ e. cond_both tested passed (stops session Refusal.Password) Named
      (λ f. record { stage = refl; same = refl }) (λ f. record { stage = refl; same = refl }))
      (λ e. record { stage = refl; same = refl })
  transition_named Role.Header port bytes =
      let all = received session bytes in
      let v = validated session.configuration (header_read session.configuration all) in
      cond_both (eqb (length all) 8) (begun session port v) (holds session (Stage.Header port) all) Named
      (λ e. begun_named port v) (λ e. record { stage = refl; same = refl })
  transition_named (Role.Data load) port bytes =
      cond_both (eqb (length bytes) load.owed) (enters session (Stage.Jumped (jump_of load)) (Outcome.Jumps (jump_of load))) (enters session (Stage.Data port (advanced load (length bytes))) Outcome.Taken) Named
      (λ e. record { stage = refl; same = refl }) (λ e. record { stage = refl; same = refl })

  -- data bytes that are taken get 0 or 5
  taken-kept : (role : Role) (sram bytes : List ℕ) → (taken_number role session bytes ≡ 0 → ⊥)
      → (taken_number role session bytes ≡ 5 → ⊥) → sram_after role session sram bytes ≡ sram
  unfolding sram_after
  taken-kept Role.Password sram bytes not-0 not-5 = refl
  taken-kept Role.Header sram bytes not-0 not-5 = refl
  taken-kept (Role.Data load) sram bytes not-0 not-5 = absurd (either (last_stored load bytes) not-0 not-5)
    where
      either : (b : Bool) → (◌≡◌ {A = ℕ} (cond b 5 0) 0 → ⊥) → (◌≡◌ {A = ℕ} (cond b 5 0) 5 → ⊥) → ⊥
      either true not-0 not-5 = not-5 refl
      either false not-0 not-5 = not-0 refl

-- The identifier of an echo goes by the role and the port, which the item's own tells.

eight-echoed : (wanted : ℕ) (item : Item) → eight_under wanted item ≡ true → echoed_under item ≡ wanted - 0x010
eight-echoed wanted (Item.Of (Source.Can identifier) bytes) e =
    rw (eqb-true identifier wanted ((and-eq-true_iff (eqb identifier wanted) (eqb (length bytes) 8)).0 e).0)
eight-echoed wanted (Item.Of (Source.Serial mark) bytes) e = absurd (false≢true e)

data_echoed : (owed : ℕ) (item : Item) → data_fitting owed item ≡ true → echoed_under item ≡ 0x003
data_echoed owed (Item.Of (Source.Can identifier) bytes) e =
    let n = length bytes in
    let h = ((and-eq-true_iff (eqb identifier 0x013 && leb 1 n && leb n 8) (leb n owed)).0 e).0 in
    let i = ((and-eq-true_iff (eqb identifier 0x013 && leb 1 n) (leb n 8)).0 h).0 in
    rw (eqb-true identifier 0x013 ((and-eq-true_iff (eqb identifier 0x013) (leb 1 n)).0 i).0)
data_echoed owed (Item.Of (Source.Serial mark) bytes) e = absurd (false≢true e)

clean-echoed : (item : Item) → clean_byte item ≡ true → echoed_under item ≡ 0
clean-echoed (Item.Of (Source.Can identifier) bytes) e = absurd (false≢true e)
clean-echoed (Item.Of (Source.Serial mark) bytes) e = refl

counted-echoed : (role : Role) (port : Port) (item : Item) → counts_as role port item ≡ true
    → echoed_under item ≡ under_port port (echo_identifier role)
counted-echoed Role.Password Port.Can item e = eight-echoed 0x011 item e
counted-echoed Role.Header Port.Can item e = eight-echoed 0x012 item e
counted-echoed (Role.Data load) Port.Can item e = data_echoed load.owed item e
counted-echoed role Port.Serial item e = clean-echoed item e

-- what a reaction says of the rows: the identifier of the echo, and whether the item is one of serial while serial is going
abbrev RowBy : Stage → Item → Reaction → Type 0
RowBy stage item Reaction.Ignores = (serial_going stage && by_serial item) ≡ false
RowBy stage item (Reaction.Takes role port) = echoed_under item ≡ under_port port (echo_identifier role)
RowBy stage item Reaction.Stops = (serial_going stage && by_serial item) ≡ true

-- what stops is of serial, and what is neither clean nor faulty is not
stops_serial : (item : Item) → faulty_byte item ≡ true → by_serial item ≡ true
stops_serial (Item.Of (Source.Can identifier) bytes) f = absurd (false≢true f)
stops_serial (Item.Of (Source.Serial mark) bytes) f = refl

left_other : (item : Item) → well_formed item ≡ true → clean_byte item ≡ false → faulty_byte item ≡ false → by_serial item ≡ false
left_other (Item.Of (Source.Can identifier) bytes) formed e f = refl
left_other (Item.Of (Source.Serial mark) bytes) formed e f =
    absurd (true≢false (sym (clean_or_faulty (Item.Of (Source.Serial mark) bytes) formed refl e) ∙ f))

row_serial : (stage : Stage) (role : Role) (item : Item) → well_formed item ≡ true → serial_going stage ≡ true
    → RowBy stage item (heard_opened role Port.Serial item)
row_serial stage role item formed going =
    by_hearing-opened (RowBy stage item) role Port.Serial item (counted-echoed role Port.Serial item)
    (λ f e. rw (going, stops_serial item f)) (λ f e. rw (going, left_other item formed e f))

row_other : (stage : Stage) (role : Role) (item : Item) → serial_going stage ≡ false → RowBy stage item (heard_opened role Port.Can item)
row_other stage role item going =
    by_hearing-opened (RowBy stage item) role Port.Can item (counted-echoed role Port.Can item)
    (λ f e. absurd (false≢true f)) (λ f e. rw going)

row_by : (stage : Stage) (item : Item) → well_formed item ≡ true → RowBy stage item (reaction stage item)
unfolding reaction
row_by Stage.Waiting item formed =
    let port = port_of item in
    by_hearing (RowBy Stage.Waiting item) Role.Password port item (counted-echoed Role.Password port item) (λ e. refl)
row_by Stage.Password item formed = row_serial Stage.Password Role.Password item formed refl
row_by (Stage.Header Port.Can) item formed = row_other (Stage.Header Port.Can) Role.Header item refl
row_by (Stage.Header Port.Serial) item formed = row_serial (Stage.Header Port.Serial) Role.Header item formed refl
row_by (Stage.Data Port.Can load) item formed = row_other (Stage.Data Port.Can load) (Role.Data load) item refl
row_by (Stage.Data Port.Serial load) item formed = row_serial (Stage.Data Port.Serial load) (Role.Data load) item formed refl
row_by (Stage.Stopped refusal) item formed = refl
row_by (Stage.Jumped jump) item formed = refl

-- the bit of the header accepted while serial is going is that of the rules
same_vle : (stage : Stage) → serial_going stage ≡ true → accepted_vle stage ≡ header_vle stage
same_vle Stage.Waiting going = refl
same_vle Stage.Password going = refl
same_vle (Stage.Header port) going = refl
same_vle (Stage.Data port load) going = refl
same_vle (Stage.Stopped refusal) going = absurd (false≢true going)
same_vle (Stage.Jumped jump) going = absurd (false≢true going)

module _ (session : Session) (sram : List ℕ) (item : Item) where
  -- the tests of the table, in their order
  abbrev pub Tested : Bool → Bool → Bool → Reaction → Type 0
  Tested a b c r =
      (right_size session.configuration sram ≡ a)
      × (sound session ≡ b)
      × (well_formed item ≡ c)
      × (reaction session.stage item ≡ r)

  row : (r : Reaction) → well_formed item ≡ true → reaction session.stage item ≡ r → RowBy session.stage item r
  row r formed e = rw e at (row_by session.stage item formed)

  pub exactly : (a b c : Bool) (r : Reaction) → Tested a b c r → (step session sram item).number ≡ number_due session sram item
  unfolding step taken_as precheck
  exactly true true true (Reaction.Takes role port) t = rw (t.0, t.1, t.2, t.3) (taken_number_lem session role port (bytes_of item))
  exactly true true true Reaction.Ignores t = rw (t.0, t.1, t.2, t.3, row Reaction.Ignores t.2 t.3)
  exactly true true true Reaction.Stops t = rw (t.0, t.1, t.2, t.3, row Reaction.Stops t.2 t.3)
  exactly true true false r t = rw (t.0, t.1, t.2)
  exactly true false c r t = rw (t.0, t.1)
  exactly false b c r t = rw t.0

  pub kept : (a b c : Bool) (r : Reaction) → Tested a b c r → (number_due session sram item ≡ 0 → ⊥)
      → (number_due session sram item ≡ 5 → ⊥) → (step session sram item).sram ≡ sram
  unfolding step taken_as precheck
  kept true true true (Reaction.Takes role port) t not-0 not-5 =
      rw (t.0, t.1, t.2, t.3)
      (taken-kept session role sram (bytes_of item)
      (λ zero. not-0 (rw (t.0, t.1, t.2, t.3) zero)) (λ five. not-5 (rw (t.0, t.1, t.2, t.3) five)))
  kept true true true Reaction.Ignores t not-0 not-5 = rw (t.0, t.1, t.2, t.3)
  kept true true true Reaction.Stops t not-0 not-5 = rw (t.0, t.1, t.2, t.3)
  kept true true false r t not-0 not-5 = rw (t.0, t.1, t.2)
  kept true false c r t not-0 not-5 = rw (t.0, t.1)
  kept false b c r t not-0 not-5 = rw t.0

  pub unmoved : (a b c : Bool) (r : Reaction) → Tested a b c r → changes_nothing (number_due session sram item) ≡ true
      → step session sram item ≡ unchanged (step session sram item).answer.outcome session sram
  unfolding step precheck
  unmoved true true true (Reaction.Takes role port) t e =
      absurd (true≢false (sym (rw (t.0, t.1, t.2, t.3) at e) ∙ taken_changes session role (bytes_of item)))
  unmoved true true true Reaction.Ignores t e = rw (t.0, t.1, t.2, t.3)
  unmoved true true true Reaction.Stops t e = absurd (false≢true (rw (t.0, t.1, t.2, t.3, row Reaction.Stops t.2 t.3) at e))
  unmoved true true false r t e = rw (t.0, t.1, t.2)
  unmoved true false c r t e = rw (t.0, t.1)
  unmoved false b c r t e = rw t.0

  pub echoed : (a b c : Bool) (r : Reaction) → Tested a b c r → sends_echo (number_due session sram item) ≡ true
      → (step session sram item).answer.echo ≡ echo_under (echoed_under item) (bytes_of item)
  unfolding step taken_as precheck
  echoed true true true (Reaction.Takes role port) t e = rw (t.0, t.1, t.2, t.3, row (Reaction.Takes role port) t.2 t.3)
  echoed true true true Reaction.Ignores t e = absurd (false≢true (rw (t.0, t.1, t.2, t.3, row Reaction.Ignores t.2 t.3) at e))
  echoed true true true Reaction.Stops t e = absurd (false≢true (rw (t.0, t.1, t.2, t.3, row Reaction.Stops t.2 t.3) at e))
  echoed true true false r t e = absurd (false≢true (rw (t.0, t.1, t.2) at e))
  echoed true false c r t e = absurd (false≢true (rw (t.0, t.1) at e))
  echoed false b c r t e = absurd (false≢true (rw t.0 at e))

  pub silent : (a b c : Bool) (r : Reaction) → Tested a b c r → sends_echo (number_due session sram item) ≡ false
      → (step session sram item).answer.echo ≡ no_echo
  unfolding step precheck
  silent true true true (Reaction.Takes role port) t e =
      absurd (true≢false (sym (taken-echoed session role (bytes_of item)) ∙ rw (t.0, t.1, t.2, t.3) at e))
  silent true true true Reaction.Ignores t e = rw (t.0, t.1, t.2, t.3)
  silent true true true Reaction.Stops t e = rw (t.0, t.1, t.2, t.3)
  silent true true false r t e = rw (t.0, t.1, t.2)
  silent true false c r t e = rw (t.0, t.1)
  silent false b c r t e = rw t.0

  pub leaves : (a b c : Bool) (r : Reaction) → Tested a b c r
      → stage_after (step session sram item).answer.outcome (step session sram item).session.stage
      ≡ (step session sram item).session.stage
  unfolding step taken_as precheck
  leaves true true true (Reaction.Takes role port) t = rw (t.0, t.1, t.2, t.3) (transition_named session role port (bytes_of item)).stage
  leaves true true true Reaction.Ignores t = rw (t.0, t.1, t.2, t.3)
  leaves true true true Reaction.Stops t = rw (t.0, t.1, t.2, t.3)
  leaves true true false r t = rw (t.0, t.1, t.2)
  leaves true false c r t = rw (t.0, t.1)
  leaves false b c r t = rw t.0

  pub configured : (a b c : Bool) (r : Reaction) → Tested a b c r
      → (step session sram item).session.configuration ≡ session.configuration
  unfolding step taken_as precheck
  configured true true true (Reaction.Takes role port) t = rw (t.0, t.1, t.2, t.3) (transition_named session role port (bytes_of item)).same
  configured true true true Reaction.Ignores t = rw (t.0, t.1, t.2, t.3)
  configured true true true Reaction.Stops t = rw (t.0, t.1, t.2, t.3)
  configured true true false r t = rw (t.0, t.1, t.2)
  configured true false c r t = rw (t.0, t.1)
  configured false b c r t = rw t.0

  pub ended : (a b c : Bool) (r : Reaction) → Tested a b c r → number_due session sram item ≡ 12
      → (step session sram item).session ≡ ended_session session
  unfolding step precheck
  ended true true true (Reaction.Takes role port) t e =
      absurd (not_twelve session role (bytes_of item) (rw (t.0, t.1, t.2, t.3) at e))
  ended true true true Reaction.Stops t e =
      let going = ((and-eq-true_iff (serial_going session.stage) (by_serial item)).0 (row Reaction.Stops t.2 t.3)).0 in
      rw (t.0, t.1, t.2, t.3, same_vle session.stage going)
  ended true true true Reaction.Ignores t e =
      let other : ◌≡◌ {A = ℕ} 1 12 = rw (t.0, t.1, t.2, t.3, row Reaction.Ignores t.2 t.3) at e in
      absurd (omega (arith, other))
  ended true true false r t e =
      let other : ◌≡◌ {A = ℕ} 6 12 = rw (t.0, t.1, t.2) at e in
      absurd (omega (arith, other))
  ended true false c r t e =
      let other : ◌≡◌ {A = ℕ} 8 12 = rw (t.0, t.1) at e in
      absurd (omega (arith, other))
  ended false b c r t e =
      let other : ◌≡◌ {A = ℕ} 7 12 = rw t.0 at e in
      absurd (omega (arith, other))

  -- 5 is given only for the last byte of a load
  not_five : (stage : Stage) → untaken_number stage item ≡ 5 → ⊥
  not_five stage =
      cond_both (serial_going stage && by_serial item) 12 1 (λ (n : ℕ). n ≡ 5 → ⊥) (λ e f. omega arith) (λ e f. omega arith)

  pub jumps : (port : Port) (load : Load) → session.stage ≡ Stage.Data port load → (a b c counts stops last : Bool)
      → right_size session.configuration sram ≡ a
      → sound session ≡ b
      → well_formed item ≡ c
      → counts_as (Role.Data load) port item ≡ counts
      → stops_by port item ≡ stops
      → eqb (length (bytes_of item)) load.owed ≡ last
      → number_due session sram item ≡ 5
      → (step session sram item).answer.outcome ≡ Outcome.Jumps (jump_of load)
  unfolding step taken_as precheck reaction transition loaded
  jumps port load s true true true true stops true e f g h j i five = rw (e, f, g, s, h, i)
  jumps port load s true true true true stops false e f g h j i five =
      let other : ◌≡◌ {A = ℕ} 0 5 = rw (e, f, g, s, h, i) at five in
      absurd (omega (arith, other))
  jumps port load s true true true false true last e f g h j i five =
      absurd (not_five (Stage.Data port load) (rw (e, f, g, s, h, j) at five))
  jumps port load s true true true false false last e f g h j i five =
      absurd (not_five (Stage.Data port load) (rw (e, f, g, s, h, j) at five))
  jumps port load s true true false counts stops last e f g h j i five =
      let other : ◌≡◌ {A = ℕ} 6 5 = rw (e, f, g) at five in
      absurd (omega (arith, other))
  jumps port load s true false c counts stops last e f g h j i five =
      let other : ◌≡◌ {A = ℕ} 8 5 = rw (e, f) at five in
      absurd (omega (arith, other))
  jumps port load s false b c counts stops last e f g h j i five =
      let other : ◌≡◌ {A = ℕ} 7 5 = rw e at five in
      absurd (omega (arith, other))
