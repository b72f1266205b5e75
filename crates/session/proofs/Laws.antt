-- What an item that is taken says of its bytes; what a step is where neither 7 nor 8 is due, and that neither is due after it.
use Rattle.std.specs.Prelude.{Result, Ok, Err}
use Prim.Native.Nat.{ℕ, ◌+◌, ◌-◌, ◌≤◌}
use native.Mathlib.Omega.{arith}
use native.Mathlib.Nat.{min-le_left}
use mathlib.Core.Path.{◌≡◌, refl}
use mathlib.Core.List.{List}
use mathlib.Core.Bool.{Bool, true, false, cond, and-eq-true_iff}
use borrow.Author.Tests.{eqb-true, eqb-false, leb-true, le-leb}
use lib.Dec.{leb, eqb}
use lib.ListN.{length, take, length-append, length-take}
use Rattle.octets.specs.Read.{word_at}
use Rattle.std.proofs.lemmas.Bool.{cond_both}
use Rattle.password.specs.Passing.{passes}
use Rattle.sram.specs.Region.{right_size}
use Rattle.sram.proofs.Laws.{range_part, range_rest, range_aligned, stored_size}
use Rattle.session_state.specs.declared.Load.{Load}
use Rattle.session_state.specs.declared.Port.{Port}
use Rattle.session_state.specs.declared.Refusal.{Refusal}
use Rattle.session_state.specs.declared.Session.{Session}
use Rattle.session_state.specs.declared.Stage.{Stage}
use Rattle.session_state.specs.Sound.{load_fits, count_fits, fitting, sound}
use Rattle.session_state.proofs.Laws.{SizeFits, load_fits_lem, sound_fits, sound_size, sound_again}
use Rattle.header.specs.declared.Header.{Header}
use Rattle.header.specs.Reading.{header_read, announces_none, within, validated}
use Rattle.session_items.specs.declared.Reaction.{Reaction}
use Rattle.session_items.specs.declared.Role.{Role}
use Rattle.session_items.specs.declared.Source.{Source}
use Rattle.session_items.specs.Items.{Item, well_formed, port_of, bytes_of}
use Rattle.session_items.specs.Reacting.{counts_as, heard_opened, reaction}
use Rattle.session_items.proofs.Laws.{by_hearing, by_hearing-opened, EightBy, DataBy, Sized, counted, stopping_own, serial_not_can}
use Rattle.session_answers.specs.declared.Fault.{Fault}
use Rattle.session_answers.specs.declared.Outcome.{Outcome}
use Rattle.session_answers.specs.Answers.{result_of, precheck, unheeded, unchanged}
use Rattle.session_answers.proofs.Laws.{Accepted, precheck_passed}
use Rattle.session.specs.declared.Transition.{Transition}
use Rattle.session.specs.Room.{Room}
use Rattle.session.specs.Rules.{enters, received, checked, begun, loaded, load_from, advanced, jump_of, password_received, header_received, transition, sram_after, taken_as, stopped_by_faulty_byte, step_prechecked, step, stops, holds}

-- Bytes that are gathered until there are 8: some come, they have their place, and by CAN all come at once.
pub record Gathered (port : Port) (session : Session) (count : ℕ) : Type 0 where
  pub some : 1 ≤ count
  pub room : session.count + count ≤ 8
  pub at_once : port ≡ Port.Can → (session.count ≡ 0) × (count ≡ 8)

gathered : (port : Port) (session : Session) (count : ℕ) → EightBy port count → session.count ≤ 7
    → (port ≡ Port.Can → session.count ≡ 0) → Gathered port session count
gathered Port.Can session count n few none =
    record { some = omega arith; room = omega (arith, none refl); at_once = λ h. (none refl, n) }
gathered Port.Serial session count n few none =
    record { some = omega arith; room = omega arith; at_once = λ h. absurd (serial_not_can h) }

-- data bytes are no more than are owed
owed_enough : (port : Port) (load : Load) (count : ℕ) → DataBy port load.owed count → 1 ≤ load.owed → count ≤ load.owed
owed_enough Port.Can load count n some = n
owed_enough Port.Serial load count n some = omega arith

abbrev pub Placed : Role → Port → Session → ℕ → Type 0
Placed Role.Password port session count = Gathered port session count
Placed Role.Header port session count = Gathered port session count
Placed (Role.Data load) port session count =
    (session.count ≡ 0) × (load_fits session.configuration load ≡ true) × (count ≤ load.owed)

-- What a reaction says: of an item that is taken its form, its port, and that its bytes have their place; of one that stops the session its
-- form.
pub record Taken (session : Session) (item : Item) (role : Role) (port : Port) : Type 0 where
  pub formed : well_formed item ≡ true
  pub own : port_of item ≡ port
  pub placed : Placed role port session (length (bytes_of item))

abbrev pub Reacted : Session → Item → Reaction → Type 0
Reacted session item Reaction.Ignores = Unit {0}
Reacted session item (Reaction.Takes role port) = Taken session item role port
Reacted session item Reaction.Stops = well_formed item ≡ true

module _ (session : Session) (item : Item) where
  taken_as_lem : (role : Role) (port : Port) → counts_as role port item ≡ true → Placed role port session (length (bytes_of item))
      → Taken session item role port
  taken_as_lem role port e placed =
      let c = counted role port item e in
      record { formed = c.formed; own = c.own; placed = placed }

  -- behind the opening
  reacted_opened : (role : Role) (port : Port)
      → (Sized role port (length (bytes_of item)) → Placed role port session (length (bytes_of item)))
      → Reacted session item (heard_opened role port item)
  reacted_opened role port placed =
      by_hearing-opened (Reacted session item) role port item (λ e. taken_as_lem role port e (placed (counted role port item e).sized))
      (λ f e. (stopping_own port item f).0) (λ f e. tt)

  pub reacted_in : (stage : Stage) → count_fits session.configuration stage session.count ≡ true
      → Reacted session item (reaction stage item)
  unfolding reaction
  reacted_in Stage.Waiting s =
      let none = eqb-true session.count 0 s in
      let port = port_of item in
      by_hearing (Reacted session item) Role.Password port item
      (λ e. taken_as_lem Role.Password port e
      (gathered port session (length (bytes_of item)) (counted Role.Password port item e).sized (omega arith) (λ h. none)))
      (λ e. tt)
  reacted_in Stage.Password s =
      let few = leb-true session.count 7 ((and-eq-true_iff (leb 1 session.count) (leb session.count 7)).0 s).1 in
      reacted_opened Role.Password Port.Serial
      (λ n. gathered Port.Serial session (length (bytes_of item)) n few (λ h. absurd (serial_not_can h)))
  reacted_in (Stage.Header Port.Can) s =
      let none = eqb-true session.count 0 s in
      reacted_opened Role.Header Port.Can (λ n. gathered Port.Can session (length (bytes_of item)) n (omega arith) (λ h. none))
  reacted_in (Stage.Header Port.Serial) s =
      reacted_opened Role.Header Port.Serial
      (λ n. gathered Port.Serial session (length (bytes_of item)) n (leb-true session.count 7 s) (λ h. absurd (serial_not_can h)))
  reacted_in (Stage.Data port load) s =
      let fits = load_fits session.configuration load in
      let both = (and-eq-true_iff (eqb session.count 0) fits).0 s in
      let some = (load_fits_lem session.configuration load both.1).some_owed in
      reacted_opened (Role.Data load) port
      (λ n. (eqb-true session.count 0 both.0, both.1, owed_enough port load (length (bytes_of item)) n some))
  reacted_in (Stage.Stopped refusal) s = tt
  reacted_in (Stage.Jumped jump) s = tt

  pub reacted : sound session ≡ true → (r : Reaction) → reaction session.stage item ≡ r → Reacted session item r
  reacted fine r e = rw e at (reacted_in session.stage (sound_fits session fine))

-- A step where neither 7 nor 8 is due.

module _ (session : Session) (sram : List ℕ) (item : Item) (ok : Accepted session sram) where
  pub step_takes : (role : Role) (port : Port) → reaction session.stage item ≡ Reaction.Takes role port
      → step session sram item ≡ taken_as role port session sram (bytes_of item)
  unfolding step precheck
  step_takes role port e = rw (ok.right, ok.fine, (reacted session item ok.fine (Reaction.Takes role port) e).formed, e)

  pub step_stops : reaction session.stage item ≡ Reaction.Stops → step session sram item ≡ result_of (stopped_by_faulty_byte session) sram
  unfolding step precheck
  step_stops e = rw (ok.right, ok.fine, reacted session item ok.fine Reaction.Stops e, e)

  pub step_ignores : reaction session.stage item ≡ Reaction.Ignores
      → step session sram item ≡ unchanged (unheeded item) session sram
  unfolding step precheck
  step_ignores e = rw (ok.right, ok.fine) (either (well_formed item))
    where
      either
          : (formed : Bool)
          → step_prechecked (cond formed (Ok tt) (Err Fault.Form)) session sram item
          ≡ unchanged (cond formed Outcome.Ignored (Outcome.Refused Fault.Form)) session sram
      either true = rw e
      either false = refl

-- The counts still fit the stage after an item that was taken, and the configuration is the same.

received_most : (session : Session) (bytes : List ℕ) → length (received session bytes) ≤ session.count + length bytes
received_most session bytes =
    let l = session.held in
    omega (arith, length-append (take session.count l) bytes, length-take session.count l, min-le_left session.count (length l))

received_least : (session : Session) (bytes : List ℕ) → length bytes ≤ length (received session bytes)
received_least session bytes = omega (arith, length-append (take session.count session.held) bytes)

-- with nothing held
pub received_all : (session : Session) (bytes : List ℕ) → session.count ≡ 0 → received session bytes ≡ bytes
received_all session bytes none = rw none

-- by CAN all come at once
pub received_at_once : {port : Port} (session : Session) (bytes : List ℕ) → Gathered port session (length bytes)
    → port ≡ Port.Can → (received session bytes ≡ bytes) × (length (received session bytes) ≡ 8)
received_at_once session bytes g can =
    let h = g.at_once can in
    let all = received_all session bytes h.0 in
    (all, rw all h.1)

record Fits (session : Session) (next : Transition) : Type 0 where
  same : next.session.configuration ≡ session.configuration
  fits : fitting next.session ≡ true

module _ (session : Session) where
  entered_fits : (stage : Stage) (outcome : Outcome) → count_fits session.configuration stage 0 ≡ true
      → Fits session (enters session stage outcome)
  entered_fits stage outcome e = record { same = refl; fits = e }

  stopped-fits : (refusal : Refusal) → Fits session (stops session refusal)
  stopped-fits refusal = entered_fits (Stage.Stopped refusal) (Outcome.Stops refusal) refl

  header_stage : (port : Port) → count_fits session.configuration (Stage.Header port) 0 ≡ true
  header_stage Port.Can = refl
  header_stage Port.Serial = refl

  checked-fits : (port : Port) (bytes : List ℕ) → Fits session (checked session port bytes)
  unfolding checked
  checked-fits port bytes =
      cond_both (passes bytes session.configuration.password) (enters session (Stage.Header port) Outcome.Taken) (stops session Refusal.Password) (Fits session)
      (λ e. entered_fits (Stage.Header port) Outcome.Taken (header_stage port)) (λ e. stopped-fits Refusal.Password)

  begun-load : (bytes : List ℕ) → announces_none (header_read session.configuration bytes) ≡ false
      → within session.configuration (header_read session.configuration bytes) ≡ true
      → load_fits session.configuration (load_from (header_read session.configuration bytes)) ≡ true
  begun-load bytes some_bytes inside =
      let header = header_read session.configuration bytes in
      let one : 1 ≤ header.length = omega (arith, eqb-false header.length 0 some_bytes) in
      rw (
        le-leb 1 header.length one,
        inside,
        range_aligned session.configuration (word_at bytes 0) header.length one inside,
        le-leb header.start.0 header.start.0 (omega arith),
      )

  begun-fits : (port : Port) (bytes : List ℕ)
      → Fits session (begun session port (validated session.configuration (header_read session.configuration bytes)))
  unfolding validated
  begun-fits port bytes =
      let header = header_read session.configuration bytes in
      let inside = within session.configuration header in
      let holds_of : Result Header Refusal → Type 0 = λ v. Fits session (begun session port v) in
      cond_both (announces_none header) (Err Refusal.Length) (cond inside (Ok header) (Err Refusal.Range)) holds_of
      (λ e. stopped-fits Refusal.Length)
      (λ e. cond_both inside (Ok header) (Err Refusal.Range) holds_of
      (λ f. entered_fits (Stage.Data port (load_from header)) Outcome.Taken (begun-load bytes e f))
      (λ f. stopped-fits Refusal.Range))

  password-fits : (port : Port) (bytes : List ℕ) → 1 ≤ length bytes → length bytes ≤ 8
      → Fits session (password_received session port bytes)
  unfolding password_received
  password-fits port bytes h k =
      cond_both (eqb (length bytes) 8) (checked session port bytes) (holds session Stage.Password bytes) (Fits session)
      (λ e. checked-fits port bytes)
      (λ e. record {
        same = refl;
        fits = rw (le-leb 1 (length bytes) h, le-leb (length bytes) 7 (omega (arith, eqb-false (length bytes) 8 e)));
      })

  held_header : (port : Port) (bytes : List ℕ) → length bytes ≤ 7 → (port ≡ Port.Can → length bytes ≡ 8)
      → count_fits session.configuration (Stage.Header port) (length bytes) ≡ true
  held_header Port.Can bytes h can = absurd (omega (arith, can refl))
  held_header Port.Serial bytes h can = le-leb (length bytes) 7 h

  header-fits : (port : Port) (bytes : List ℕ) → length bytes ≤ 8 → (port ≡ Port.Can → length bytes ≡ 8)
      → Fits session (header_received session port bytes)
  unfolding header_received
  header-fits port bytes k can =
      let configuration = session.configuration in
      cond_both (eqb (length bytes) 8) (begun session port (validated configuration (header_read configuration bytes))) (holds session (Stage.Header port) bytes) (Fits session)
      (λ e. begun-fits port bytes)
      (λ e. record { same = refl; fits = held_header port bytes (omega (arith, eqb-false (length bytes) 8 e)) can })

  advanced-fits : (load : Load) (count : ℕ) → load_fits session.configuration load ≡ true → count ≤ load.owed
      → eqb count load.owed ≡ false → load_fits session.configuration (advanced load count) ≡ true
  advanced-fits load count f h e =
      let l = load_fits_lem session.configuration load f in
      let more : 1 ≤ load.owed - count = omega (arith, eqb-false count load.owed e) in
      rw (
        le-leb 1 (load.owed - count) more,
        range_rest session.configuration load.next load.owed count l.owed_in_range h,
        l.start_aligned,
        le-leb load.start.0 (load.next + count) (omega arith),
      )

  loaded-fits : (port : Port) (load : Load) (bytes : List ℕ) → load_fits session.configuration load ≡ true
      → length bytes ≤ load.owed → Fits session (loaded session port load bytes)
  unfolding loaded
  loaded-fits port load bytes f h =
      cond_both (eqb (length bytes) load.owed) (enters session (Stage.Jumped (jump_of load)) (Outcome.Jumps (jump_of load))) (enters session (Stage.Data port (advanced load (length bytes))) Outcome.Taken) (Fits session)
      (λ e. entered_fits (Stage.Jumped (jump_of load)) (Outcome.Jumps (jump_of load)) refl)
      (λ e. entered_fits (Stage.Data port (advanced load (length bytes))) Outcome.Taken
      (advanced-fits load (length bytes) f h e))

  transition-fits : (role : Role) (port : Port) (bytes : List ℕ) → Placed role port session (length bytes)
      → Fits session (transition role session port bytes)
  unfolding transition
  transition-fits Role.Password port bytes g =
      password-fits port (received session bytes) (omega (arith, g.some, received_least session bytes))
      (omega (arith, g.room, received_most session bytes))
  transition-fits Role.Header port bytes g =
      header-fits port (received session bytes) (omega (arith, g.room, received_most session bytes))
      (λ can. (received_at_once session bytes g can).1)
  transition-fits (Role.Data load) port bytes g = loaded-fits port load bytes g.1 g.2

  sram_size : (role : Role) (port : Port) (sram bytes : List ℕ) → Placed role port session (length bytes)
      → right_size session.configuration sram ≡ true
      → right_size session.configuration (sram_after role session sram bytes) ≡ true
  unfolding sram_after
  sram_size Role.Password port sram bytes g r = r
  sram_size Role.Header port sram bytes g r = r
  sram_size (Role.Data load) port sram bytes g r =
      stored_size session.configuration sram load.next bytes r
      (range_part session.configuration load.next load.owed (length bytes)
      (load_fits_lem session.configuration load g.1).owed_in_range g.2)

-- neither 7 nor 8 is due after an item that was taken
pub kept : (session : Session) (sram : List ℕ) (item : Item) (role : Role) (port : Port) → Taken session item role port
    → Accepted session sram
    → Accepted (transition role session port (bytes_of item)).session (sram_after role session sram (bytes_of item))
kept session sram item role port taken ok =
    let next = (transition role session port (bytes_of item)).session in
    let fits = transition-fits session role port (bytes_of item) taken.placed in
    record {
      right = rw fits.same (sram_size session role port sram (bytes_of item) taken.placed ok.right);
      fine = sound_again session next ok.fine fits.same fits.fits;
    }

-- nor after one that stopped the session
pub kept-stopped : (session : Session) (sram : List ℕ) → Accepted session sram → Accepted (stopped_by_faulty_byte session).session sram
kept-stopped session sram ok =
    record { right = ok.right; fine = sound_again session (stopped_by_faulty_byte session).session ok.fine refl refl }

-- What `session::take` asks for.

formed_few : (item : Item) → well_formed item ≡ true → length (bytes_of item) ≤ 8
formed_few (Item.Of (Source.Can identifier) bytes) e =
    leb-true (length bytes) 8 ((and-eq-true_iff (leb identifier 2047) (leb (length bytes) 8)).0 e).1
formed_few (Item.Of (Source.Serial mark) bytes) e = omega (arith, eqb-true (length bytes) 1 e)

placed_room : (role : Role) (port : Port) (session : Session) (count : ℕ) → SizeFits session.configuration
    → Placed role port session count → Room role session count
placed_room Role.Password port session count size g = g.room
placed_room Role.Header port session count size g = g.room
placed_room (Role.Data load) port session count size g = (g.1, g.2, size.addressed)

pub taken-ready : (session : Session) (sram : List ℕ) (item : Item) (role : Role) (port : Port)
    → precheck session sram (well_formed item) ≡ Ok tt
    → reaction session.stage item ≡ Reaction.Takes role port
    → (right_size session.configuration sram ≡ true)
    × (length (bytes_of item) ≤ 8)
    × Room role session (length (bytes_of item))
taken-ready session sram item role port passed e =
    let h = precheck_passed session sram (well_formed item) passed in
    let fine = h.0.fine in
    let taken = reacted session item fine (Reaction.Takes role port) e in (
      h.0.right,
      formed_few item h.1,
      placed_room role port session (length (bytes_of item)) (sound_size session fine) taken.placed,
    )

-- for the attribute of `session::hand_in`
pub ruleset ready = (taken-ready)
