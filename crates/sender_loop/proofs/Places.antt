-- Where the items of a load begin.
use Prim.Native.Nat.{ℕ, zero, suc, ◌+◌, ◌-◌, ◌≤◌, ◌<◌, min}
use native.Mathlib.Nat.{zero-add, add-zero, sub-zero, min-eq_left}
use native.Mathlib.Omega.{arith}
use mathlib.Core.Path.{◌≡◌, refl, sym, ap, ◌∙◌}
use mathlib.Core.List.{List, [], ◌∷◌}
use mathlib.Core.Bool.{true, false, cond, ◌&&◌, and-false}
use borrow.Author.Tests.{le-leb, lt-leb, lt-ltb, le-ltb, ne_eqb}
use lib.Dec.{ltb}
use lib.ListN.{length, drop, length-take, length-drop}
use Rattle.session_state.specs.declared.Port.{Port}
use Rattle.session_items.specs.declared.Role.{Role}
use Rattle.session_items.specs.Items.{Item, bytes_of}
use Rattle.sender_load.specs.declared.Sender.{Sender}
use Rattle.sender_load.specs.Items.{width, whole_load, role_at, sent_as, first_place, part, identifier_for, source_by, sent_at, item_of, along, beginning_at, at_item, begins_item}
use Rattle.sender_loop.specs.Loop.{PlaceStands}
use Rattle.sender_loop.proofs.Head.{at, item_at, sent-item}
use Rattle.sender_loop.proofs.Items.{walk, item_of_lem, load_items_lem}
use Rattle.sender_loop.proofs.Turns.{split}
use Rattle.sender_loop.proofs.Load.{Reaches, item_room, next-item}
use Rattle.sender_loop.proofs.Closed.{before_last, at_start_lem}

-- no item begins within one, and a whole item more changes nothing
within : (port : Port) (place : ℕ) → 1 ≤ place → place < width port → at_item port place ≡ false
within Port.Can place some few = grind arith
within Port.Serial place some few = absurd (omega arith)

item_back : (port : Port) (place : ℕ) → width port ≤ place → at_item port (place - width port) ≡ at_item port place
item_back Port.Can place h = grind arith
item_back Port.Serial place h = refl

-- a place within the first item, and one behind it
module _ (item : Item) (items : List Item) (place : ℕ) (some : 1 ≤ place) where
  within_first : place < length (bytes_of item) → beginning_at place (item ∷ items) ≡ []
  unfolding beginning_at
  within_first h = rw (ne_eqb place 0 (λ e. omega (arith, e)), lt-leb (length (bytes_of item)) place h)

  behind_first : length (bytes_of item) ≤ place → beginning_at place (item ∷ items) ≡ beginning_at (place - length (bytes_of item)) items
  unfolding beginning_at
  behind_first h = rw (ne_eqb place 0 (λ e. omega (arith, e)), le-leb (length (bytes_of item)) place h)

behind_all : (place : ℕ) → beginning_at place [] ≡ []
unfolding beginning_at
behind_all place = refl

module _
    (sender : Sender) (image : List ℕ) (eight : length sender.configuration.password ≡ 8) (whole : length image ≡ sender.length) where
  abbrev wide : ℕ
  wide = width sender.port

  abbrev end : ℕ
  end = 16 + sender.length

  -- how many bytes an item has
  role_bytes : (role : Role) (place : ℕ) → role_at (at sender place) ≡ role
      → length (bytes_of (item_at sender image place)) ≡ min wide (length (sent_as role sender image) - (place - first_place role))
  role_bytes role place e =
      let all = sent_as role sender image in
      ap (λ item. length (bytes_of item)) (item_of_lem sender image role place e)
      ∙ length-take wide (drop (place - first_place role) all)
      ∙ ap (min wide) (length-drop (place - first_place role) all)

  bytes_at : (place : ℕ) → at_item sender.port place ≡ true → length (bytes_of (item_at sender image place)) ≡ min wide (end - place)
  bytes_at place e =
      let room = item_room sender.port place e in
      grind (
        arith,
        role_bytes Role.Password place,
        role_bytes Role.Header place,
        role_bytes (Role.Data (whole_load sender)) place,
      )

  -- what begins at a place behind another
  abbrev begun : ℕ → ℕ → List Item
  begun place more = cond (at_item sender.port more && ltb more (end - place)) (item_at sender image (place + more) ∷ []) []

  begun_first : (items : List Item) (place more : ℕ) → place < end → more < 1
      → beginning_at more (item_at sender image place ∷ items) ≡ begun place more
  unfolding beginning_at
  begun_first items place zero h none = rw (at_start_lem sender.port, lt-ltb 0 (end - place) (omega arith), add-zero place)
  begun_first items place (suc more) h none = absurd (omega arith)

  none_within : (place more : ℕ) → 1 ≤ more → more < wide → [] ≡ begun place more
  none_within place more some few = rw (within sender.port more some few)

  none_past : (place more : ℕ) → end - place ≤ more → [] ≡ begun place more
  none_past place more past = rw (le-ltb more (end - place) past, and-false (at_item sender.port more))

  begun-next : (place more : ℕ) → wide ≤ more → begun (place + wide) (more - wide) ≡ begun place more
  begun-next place more h =
      let further : place + wide + (more - wide) ≡ place + more = omega arith in
      let test : ltb (more - wide) (end - (place + wide)) ≡ ltb more (end - place) = grind arith in
      rw (further, test, item_back sender.port more h)

  found : (count place more : ℕ) → Reaches sender.port end count place → at_item sender.port place ≡ true → place < end
      → beginning_at more (walk sender image (suc count) place) ≡ begun place more
  unfolding along
  found zero place more reaches e h =
      let item = item_at sender image place in
      split more 1 (begun_first [] place more h)
      (λ some.
      split more (length (bytes_of item))
      (within_first item [] more some)
      (λ past. behind_first item [] more some past ∙ behind_all (more - length (bytes_of item)))
      ∙ split more wide (none_within place more some) (λ past. none_past place more (omega arith)))
  found (suc count) place more reaches e h =
      let item = item_at sender image place in
      let items = walk sender image (suc count) (place + wide) in
      let bytes : length (bytes_of item) ≡ wide = bytes_at place e ∙ min-eq_left (omega (arith, reaches.0)) in
      split more 1 (begun_first items place more h)
      (λ some.
      split more wide
      (λ few. within_first item items more some (rw bytes few) ∙ none_within place more some few)
      (λ past. behind_first item items more some (rw bytes past)
      ∙ rw bytes (found count (place + wide) (more - wide) reaches.1 (next-item sender.port place e) reaches.0)
      ∙ begun-next place more past))

  -- whether an item is out changes nothing
  own_item : item_at sender image sender.place ≡ item_of (sent_at sender image)
  unfolding part
  own_item =
      item_of_lem sender image (role_at sender) sender.place refl
      ∙ sym (sent-item (source_by sender.port (identifier_for (role_at sender))) (part (role_at sender) sender image))

  pub stands : PlaceStands sender image
  stands =
      let last = before_last sender.port sender.length in
      let items = rw (whole, last.counts) at (load_items_lem sender image eight) in
      ap (beginning_at sender.place) (sym items)
      ∙ found last.before 0 sender.place last.reached (at_start_lem sender.port) (omega arith)
      ∙ rw (sub-zero end, zero-add sender.place) (ap (λ (item : Item). cond (begins_item sender) (item ∷ []) []) own_item)
