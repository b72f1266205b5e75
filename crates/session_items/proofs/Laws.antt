-- What an item that counts for a role by a port says of its form, its port and its bytes.
use Prim.Native.Nat.{ℕ, ◌≤◌}
use native.Mathlib.Omega.{arith}
use mathlib.Core.Path.{◌≡◌, refl, sym}
use mathlib.Core.Bool.{Bool, true, false, cond, not, ◌&&◌, and-eq-true_iff, false≢true}
use borrow.Author.Tests.{eqb-true, leb-true, le-leb}
use lib.Dec.{leb, eqb}
use lib.ListN.{length}
use Rattle.std.proofs.lemmas.Bool.{cond_both}
use Rattle.session_state.specs.declared.Port.{Port}
use Rattle.session_items.specs.declared.Reaction.{Reaction}
use Rattle.session_items.specs.declared.Role.{Role}
use Rattle.session_items.specs.declared.Source.{Source}
use Rattle.session_items.specs.Items.{Item, well_formed, port_of, bytes_of}
use Rattle.session_items.specs.Reacting.{eight_under, data_fitting, clean_byte, faulty_byte, counts_as, stops_by, heard, heard_opened}

-- an item is taken or ignored by whether it counts
pub by_hearing : (P : Reaction → Type 0) (role : Role) (port : Port) (item : Item)
    → (counts_as role port item ≡ true → P (Reaction.Takes role port))
    → (counts_as role port item ≡ false → P Reaction.Ignores)
    → P (heard role port item)
by_hearing P role port item takes ignores =
    cond_both (counts_as role port item) (Reaction.Takes role port) Reaction.Ignores P takes ignores

-- behind the opening it is taken, stops the session, or is ignored
pub by_hearing-opened : (P : Reaction → Type 0) (role : Role) (port : Port) (item : Item)
    → (counts_as role port item ≡ true → P (Reaction.Takes role port))
    → (stops_by port item ≡ true → counts_as role port item ≡ false → P Reaction.Stops)
    → (stops_by port item ≡ false → counts_as role port item ≡ false → P Reaction.Ignores)
    → P (heard_opened role port item)
by_hearing-opened P role port item takes stops ignores =
    cond_both (counts_as role port item) (Reaction.Takes role port) (cond (stops_by port item) Reaction.Stops Reaction.Ignores) P takes
    (λ e. cond_both (stops_by port item) Reaction.Stops Reaction.Ignores P (λ f. stops f e) (λ f. ignores f e))

-- how many bytes an item has: by CAN all 8 of a password or a header come at once, by serial one comes at a time
abbrev pub EightBy : Port → ℕ → Type 0
EightBy Port.Can count = count ≡ 8
EightBy Port.Serial count = count ≡ 1

-- and data: by CAN no more than are owed
abbrev pub DataBy : Port → ℕ → ℕ → Type 0
DataBy Port.Can owed count = count ≤ owed
DataBy Port.Serial owed count = count ≡ 1

abbrev pub Sized : Role → Port → ℕ → Type 0
Sized Role.Password port count = EightBy port count
Sized Role.Header port count = EightBy port count
Sized (Role.Data load) port count = DataBy port load.owed count

pub record Counted (role : Role) (port : Port) (item : Item) : Type 0 where
  pub formed : well_formed item ≡ true
  pub own : port_of item ≡ port
  pub sized : Sized role port (length (bytes_of item))

-- what stops a session of a port is a whole item of that port
pub stopping_own : (port : Port) (item : Item) → stops_by port item ≡ true → (well_formed item ≡ true) × (port_of item ≡ port)
stopping_own Port.Can item e = absurd (false≢true e)
stopping_own Port.Serial (Item.Of (Source.Can identifier) bytes) e = absurd (false≢true e)
stopping_own Port.Serial (Item.Of (Source.Serial mark) bytes) e =
    (((and-eq-true_iff (eqb (length bytes) 1) (not (eqb mark 0))).0 e).0, refl)

pub serial_not_can : Port.Serial ≡ Port.Can → ⊥
serial_not_can h = cc

-- a whole item of serial is clean or faulty
pub clean_or_faulty : (item : Item) → well_formed item ≡ true → port_of item ≡ Port.Serial → clean_byte item ≡ false → faulty_byte item ≡ true
clean_or_faulty (Item.Of (Source.Can identifier) bytes) formed own e = absurd (serial_not_can (sym own))
clean_or_faulty (Item.Of (Source.Serial mark) bytes) formed own e = either (eqb (length bytes) 1) (eqb mark 0) formed e
  where
    either : (one marked : Bool) → one ≡ true → one && marked ≡ false → one && not marked ≡ true
    either true true formed e = absurd (false≢true (sym e))
    either true false formed e = refl
    either false marked formed e = absurd (false≢true formed)

eight-counted : (role : Role) (wanted : ℕ) (item : Item) → wanted ≤ 2047 → eight_under wanted item ≡ true
    → (length (bytes_of item) ≡ 8 → Sized role Port.Can (length (bytes_of item)))
    → Counted role Port.Can item
eight-counted role wanted (Item.Of (Source.Can identifier) bytes) small e sized =
    let h = (and-eq-true_iff (eqb identifier wanted) (eqb (length bytes) 8)).0 e in
    let i : identifier ≡ wanted = eqb-true identifier wanted h.0 in
    let n : length bytes ≡ 8 = eqb-true (length bytes) 8 h.1 in
    record {
      formed = rw (le-leb identifier 2047 (omega arith), le-leb (length bytes) 8 (omega arith));
      own = refl;
      sized = sized n;
    }
eight-counted role wanted (Item.Of (Source.Serial mark) bytes) small e sized = absurd (false≢true e)

data_counted : (role : Role) (owed : ℕ) (item : Item) → data_fitting owed item ≡ true
    → (length (bytes_of item) ≤ owed → Sized role Port.Can (length (bytes_of item)))
    → Counted role Port.Can item
data_counted role owed (Item.Of (Source.Can identifier) bytes) e sized =
    let n = length bytes in
    let h = (and-eq-true_iff (eqb identifier 0x013 && leb 1 n && leb n 8) (leb n owed)).0 e in
    let i = (and-eq-true_iff (eqb identifier 0x013 && leb 1 n) (leb n 8)).0 h.0 in
    let j = (and-eq-true_iff (eqb identifier 0x013) (leb 1 n)).0 i.0 in
    let under : identifier ≡ 0x013 = eqb-true identifier 0x013 j.0 in
    record {
      formed = rw (le-leb identifier 2047 (omega arith), i.1);
      own = refl;
      sized = sized (leb-true n owed h.1);
    }
data_counted role owed (Item.Of (Source.Serial mark) bytes) e sized = absurd (false≢true e)

clean-counted : (role : Role) (item : Item) → clean_byte item ≡ true
    → (length (bytes_of item) ≡ 1 → Sized role Port.Serial (length (bytes_of item)))
    → Counted role Port.Serial item
clean-counted role (Item.Of (Source.Can identifier) bytes) e sized = absurd (false≢true e)
clean-counted role (Item.Of (Source.Serial mark) bytes) e sized =
    let one = ((and-eq-true_iff (eqb (length bytes) 1) (eqb mark 0)).0 e).0 in
    record { formed = one; own = refl; sized = sized (eqb-true (length bytes) 1 one) }

pub counted : (role : Role) (port : Port) (item : Item) → counts_as role port item ≡ true → Counted role port item
counted Role.Password Port.Can item e = eight-counted Role.Password 0x011 item (omega arith) e (λ n. n)
counted Role.Header Port.Can item e = eight-counted Role.Header 0x012 item (omega arith) e (λ n. n)
counted (Role.Data load) Port.Can item e = data_counted (Role.Data load) load.owed item e (λ few. few)
counted Role.Password Port.Serial item e = clean-counted Role.Password item e (λ n. n)
counted Role.Header Port.Serial item e = clean-counted Role.Header item e (λ n. n)
counted (Role.Data load) Port.Serial item e = clean-counted (Role.Data load) item e (λ n. n)
