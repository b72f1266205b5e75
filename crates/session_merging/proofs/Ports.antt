-- A session that has opened takes no item of the other port, so a list and its stream run alike.
use Rattle.std.specs.Prelude.{Ok, Err, Result as OkOrErr}
use Prim.Native.Nat.{ℕ}
use mathlib.Core.Path.{◌≡◌, refl, sym, subst, ap, ◌∙◌}
use mathlib.Core.List.{List, [], ◌∷◌, ◌++◌, map}
use mathlib.Core.Bool.{Bool, true, false, not, true≢false, false≢true}
use mathlib.Core.Option.{Option, some}
use borrow.Author.Tests.{eqb-false}
use lib.Dec.{eqb}
use lib.ListN.{length}
use Rattle.std.proofs.lemmas.Bool.{cond_both}
use Rattle.password.specs.Passing.{passes}
use Rattle.session_configuration.specs.declared.Configuration.{Configuration}
use Rattle.session_state.specs.declared.Port.{Port}
use Rattle.session_state.specs.declared.Refusal.{Refusal}
use Rattle.session_state.specs.declared.Session.{Session}
use Rattle.session_state.specs.declared.Stage.{Stage}
use Rattle.header.specs.declared.Header.{Header}
use Rattle.header.specs.Reading.{header_read, validated}
use Rattle.session_items.specs.declared.Reaction.{Reaction}
use Rattle.session_items.specs.declared.Role.{Role}
use Rattle.session_items.specs.Items.{Item, port_of, bytes_of}
use Rattle.session_items.specs.Reacting.{opens, heard_opened, reaction}
use Rattle.session_items.proofs.Laws.{by_hearing-opened, stopping_own}
use Rattle.session_answers.specs.declared.Outcome.{Outcome}
use Rattle.session_answers.specs.Answers.{unheeded, unchanged}
use Rattle.session_answers.proofs.Laws.{Accepted}
use Rattle.session_fresh.specs.Fresh.{fresh_session}
use Rattle.session.specs.declared.Transition.{Transition}
use Rattle.session.specs.Rules.{transition, sram_after, taken_as, stopped_by_faulty_byte, step, received, enters, stops, holds, password_received, header_received, checked, begun, loaded, jump_of, advanced}
use Rattle.session.specs.Running.{Call, Run, ran}
use Rattle.session.proofs.Laws.{Placed, reacted, step_takes, step_stops, step_ignores, kept, kept-stopped, received_at_once}
use Rattle.session_merging.specs.Merging.{picked_port, same_port, in_stream, only, call_outside}

-- the stage takes items of no other port than this one
abbrev opened : Port → Stage → Bool
opened port Stage.Waiting = false
opened port Stage.Password = same_port port Port.Serial
opened port (Stage.Header ours) = same_port port ours
opened port (Stage.Data ours load) = same_port port ours
opened port (Stage.Stopped refusal) = true
opened port (Stage.Jumped jump) = true

pub same_own : (port : Port) → same_port port port ≡ true
same_own Port.Can = refl
same_own Port.Serial = refl

-- an item that such a stage takes, or is stopped by, is of this port
abbrev OpenedBy : Port → Item → Reaction → Type 0
OpenedBy port item Reaction.Ignores = Unit {0}
OpenedBy port item (Reaction.Takes role by) = same_port port by ≡ true
OpenedBy port item Reaction.Stops = same_port port (port_of item) ≡ true

heard_by : (port : Port) (role : Role) (ours : Port) (item : Item) → same_port port ours ≡ true → OpenedBy port item (heard_opened role ours item)
heard_by port role ours item t =
    by_hearing-opened (OpenedBy port item) role ours item (λ e. t) (λ f e. rw (stopping_own ours item f).1 t) (λ f e. tt)

opened_by : (port : Port) (stage : Stage) (item : Item) → opened port stage ≡ true → OpenedBy port item (reaction stage item)
unfolding reaction
opened_by port Stage.Waiting item t = absurd (false≢true t)
opened_by port Stage.Password item t = heard_by port Role.Password Port.Serial item t
opened_by port (Stage.Header ours) item t = heard_by port Role.Header ours item t
opened_by port (Stage.Data ours load) item t = heard_by port (Role.Data load) ours item t
opened_by port (Stage.Stopped refusal) item t = tt
opened_by port (Stage.Jumped jump) item t = tt

-- A stage after an item is opened to the port by which the item was taken.

abbrev Opens : Port → Transition → Type 0
Opens port next = opened port next.session.stage ≡ true

module _ (port by : Port) (session : Session) (same : same_port port by ≡ true) where
  checked-opens : (bytes : List ℕ) → Opens port (checked session by bytes)
  unfolding checked
  checked-opens bytes =
      cond_both (passes bytes session.configuration.password) (enters session (Stage.Header by) Outcome.Taken) (stops session Refusal.Password) (Opens port) (λ e. same) (λ e. refl)

  begun-opens : (v : OkOrErr Header Refusal) → Opens port (begun session by v)
  begun-opens (Err refusal) = refl
  begun-opens (Ok header) = same

  -- fewer than 8 password bytes come by serial alone
  holds_opens : (by' : Port) (bytes : List ℕ) → same_port port by' ≡ true → (by' ≡ Port.Can → length bytes ≡ 8)
      → eqb (length bytes) 8 ≡ false → opened port Stage.Password ≡ true
  holds_opens Port.Can bytes t can short = absurd (eqb-false (length bytes) 8 short (can refl))
  holds_opens Port.Serial bytes t can short = t

  transition-opens : (role : Role) (bytes : List ℕ) → Placed role by session (length bytes)
      → Opens port (transition role session by bytes)
  unfolding transition password_received header_received loaded
  transition-opens Role.Password bytes g =
      let all = received session bytes in
      cond_both (eqb (length all) 8) (checked session by all) (holds session Stage.Password all) (Opens port)
      (λ e. checked-opens all)
      (λ e. holds_opens by all same (λ can. (received_at_once session bytes g can).1) e)
  transition-opens Role.Header bytes g =
      let all = received session bytes in
      let v = validated session.configuration (header_read session.configuration all) in
      cond_both (eqb (length all) 8) (begun session by v) (holds session (Stage.Header by) all) (Opens port)
      (λ e. begun-opens v) (λ e. same)
  transition-opens (Role.Data load) bytes g =
      cond_both (eqb (length bytes) load.owed) (enters session (Stage.Jumped (jump_of load)) (Outcome.Jumps (jump_of load))) (enters session (Stage.Data by (advanced load (length bytes))) Outcome.Taken) (Opens port)
      (λ e. refl) (λ e. same)

-- Along a run, every item that is not wanted is passed by.

abbrev pub Along : (Item → Bool) → Session → List ℕ → List Item → Type 0
Along wanted session sram [] = Unit {0}
Along wanted session sram (item ∷ items) =
    (wanted item ≡ false → step session sram item ≡ unchanged (unheeded item) session sram)
    × Along wanted (step session sram item).session (step session sram item).sram items

-- the next call: it takes an item that is wanted, or is stopped by it, or passes one by
module _ (wanted : Item → Bool) (session : Session) (sram : List ℕ) (item : Item) (items : List Item) (ok : Accepted session sram) where
  along-taken : (role : Role) (port : Port) → reaction session.stage item ≡ Reaction.Takes role port → wanted item ≡ true
      → Along wanted (transition role session port (bytes_of item)).session (sram_after role session sram (bytes_of item)) items
      → Along wanted session sram (item ∷ items)
  unfolding taken_as
  along-taken role port e want rest =
      (λ unwanted. absurd (true≢false (sym want ∙ unwanted)), rw (step_takes session sram item ok role port e) rest)

  along-stopped : reaction session.stage item ≡ Reaction.Stops → wanted item ≡ true
      → Along wanted (stopped_by_faulty_byte session).session sram items
      → Along wanted session sram (item ∷ items)
  along-stopped e want rest =
      (λ unwanted. absurd (true≢false (sym want ∙ unwanted)), rw (step_stops session sram item ok e) rest)

  along_passed : reaction session.stage item ≡ Reaction.Ignores → Along wanted session sram items
      → Along wanted session sram (item ∷ items)
  along_passed e rest = let passed = step_ignores session sram item ok e in (λ unwanted. passed, rw passed rest)

-- an item that is taken by the port is in its stream, and the session stays opened to it
module _
    (port : Port) (session : Session) (sram : List ℕ) (item : Item) (items : List Item) (ok : Accepted session sram)
    (rest : (s : Session) (m : List ℕ) → Accepted s m → opened port s.stage ≡ true → Along (in_stream (some port)) s m items) where
  along_takes : (role : Role) (by : Port) → reaction session.stage item ≡ Reaction.Takes role by → same_port port by ≡ true
      → Along (in_stream (some port)) session sram (item ∷ items)
  along_takes role by e same =
      let taken = reacted session item ok.fine (Reaction.Takes role by) e in
      along-taken (in_stream (some port)) session sram item items ok role by e (rw (taken.formed, taken.own, same))
      (rest (transition role session by (bytes_of item)).session (sram_after role session sram (bytes_of item))
      (kept session sram item role by taken ok)
      (transition-opens port by session same role (bytes_of item) taken.placed))

  along-next : opened port session.stage ≡ true → (r : Reaction) → reaction session.stage item ≡ r → OpenedBy port item r
      → Along (in_stream (some port)) session sram (item ∷ items)
  along-next t (Reaction.Takes role by) e same = along_takes role by e same
  along-next t Reaction.Stops e same =
      along-stopped (in_stream (some port)) session sram item items ok e
      (rw (reacted session item ok.fine Reaction.Stops e, same))
      (rest (stopped_by_faulty_byte session).session sram (kept-stopped session sram ok) refl)
  along-next t Reaction.Ignores e same =
      along_passed (in_stream (some port)) session sram item items ok e (rest session sram ok t)

along-opened : (port : Port) (session : Session) (sram : List ℕ) (items : List Item) → Accepted session sram
    → opened port session.stage ≡ true → Along (in_stream (some port)) session sram items
along-opened port session sram [] ok t = tt
along-opened port session sram (item ∷ items) ok t =
    along-next port session sram item items ok (λ s m o u. along-opened port s m items o u) t (reaction session.stage item) refl
    (opened_by port session.stage item t)

-- an item that does not open leaves the pick to those behind it
pub picked_later : (item : Item) (items : List Item) → opens item ≡ false → picked_port (item ∷ items) ≡ picked_port items
unfolding picked_port
picked_later item items e = rw e

-- one that opens picks its port
picked_first : (item : Item) (items : List Item) → opens item ≡ true → picked_port (item ∷ items) ≡ some (port_of item)
unfolding picked_port
picked_first item items e = rw e

-- before the opening everything is passed by
along_first : (configuration : Configuration) (sram : List ℕ) (item : Item) (items : List Item) (b : Bool) → opens item ≡ b
    → Accepted (fresh_session configuration) sram
    → Along (in_stream (picked_port items)) (fresh_session configuration) sram items
    → Along (in_stream (picked_port (item ∷ items))) (fresh_session configuration) sram (item ∷ items)
unfolding reaction
along_first configuration sram item items true e ok rest =
    let port = port_of item in
    subst (λ (picked : Option Port). Along (in_stream picked) (fresh_session configuration) sram (item ∷ items))
    (sym (picked_first item items e))
    (along_takes port (fresh_session configuration) sram item items ok (λ s m o u. along-opened port s m items o u)
    Role.Password port (rw e) (same_own port))
along_first configuration sram item items false e ok rest =
    subst (λ (picked : Option Port). Along (in_stream picked) (fresh_session configuration) sram (item ∷ items))
    (sym (picked_later item items e))
    (along_passed (in_stream (picked_port items)) (fresh_session configuration) sram item items ok (rw e) rest)

pub passed_along : (configuration : Configuration) (sram : List ℕ) (items : List Item) → Accepted (fresh_session configuration) sram
    → Along (in_stream (picked_port items)) (fresh_session configuration) sram items
passed_along configuration sram [] ok = tt
passed_along configuration sram (item ∷ items) ok =
    along_first configuration sram item items (opens item) refl ok (passed_along configuration sram items ok)

-- So the list and what is wanted of it run alike, and the other items are answered as items that are not taken,

pub record Alike (wanted : Item → Bool) (session : Session) (sram : List ℕ) (items : List Item) : Type 0 where
  pub sessions : (ran session sram items).session ≡ (ran session sram (only wanted items)).session
  pub srams : (ran session sram items).sram ≡ (ran session sram (only wanted items)).sram
  pub calls : only (λ (call : Call). wanted call.item) (ran session sram items).calls ≡ (ran session sram (only wanted items)).calls
  pub others : only (λ (call : Call). not (wanted call.item)) (ran session sram items).calls
      ≡ map call_outside (only (λ (item : Item). not (wanted item)) items)

alike_next : (wanted : Item → Bool) (session : Session) (sram : List ℕ) (item : Item) (items : List Item) (b : Bool)
    → wanted item ≡ b
    → (wanted item ≡ false → step session sram item ≡ unchanged (unheeded item) session sram)
    → Alike wanted (step session sram item).session (step session sram item).sram items
    → Alike wanted session sram (item ∷ items)
unfolding ran only
alike_next wanted session sram item items true e passed rest =
    let call : Call = record { item = item; answer = (step session sram item).answer } in
    record {
      sessions = rw e rest.sessions;
      srams = rw e rest.srams;
      calls = rw e (ap (λ (l : List Call). call ∷ l) rest.calls);
      others = rw e rest.others;
    }
alike_next wanted session sram item items false e passed rest =
    let rest' : Alike wanted session sram items = rw (passed e) at rest in
    record {
      sessions = rw (e, passed e) rest'.sessions;
      srams = rw (e, passed e) rest'.srams;
      calls = rw (e, passed e) rest'.calls;
      others = rw (e, passed e) (ap (λ (l : List Call). call_outside item ∷ l) rest'.others);
    }

pub run_alike : (wanted : Item → Bool) (session : Session) (sram : List ℕ) (items : List Item) → Along wanted session sram items
    → Alike wanted session sram items
unfolding ran only
run_alike wanted session sram [] h = record { sessions = refl; srams = refl; calls = refl; others = refl }
run_alike wanted session sram (item ∷ items) h =
    alike_next wanted session sram item items (wanted item) refl h.0
    (run_alike wanted (step session sram item).session (step session sram item).sram items h.1)

-- and an item that is not wanted is passed by wherever it stands.
pub passed_at : (wanted : Item → Bool) (session : Session) (sram : List ℕ) (before : List Item) (item : Item) (later : List Item)
    → Along wanted session sram (before ++ item ∷ later)
    → wanted item ≡ false
    → let sofar : Run = ran session sram before in
    step sofar.session sofar.sram item ≡ unchanged (unheeded item) sofar.session sofar.sram
unfolding ran
passed_at wanted session sram [] item later h e = h.0 e
passed_at wanted session sram (first ∷ before) item later h e =
    passed_at wanted (step session sram first).session (step session sram first).sram before item later h.1 e
