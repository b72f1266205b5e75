-- The items at the places of a load are its items.
use Prim.Native.Nat.{ℕ, zero, suc, ◌+◌, ◌-◌, ◌/◌, ◌≤◌}
use native.Mathlib.Nat.{zero-add, suc-add}
use native.Mathlib.Omega.{arith}
use mathlib.Core.Path.{◌≡◌, refl, sym, ap, ◌∙◌}
use mathlib.Core.List.{List, [], ◌∷◌, ◌++◌, map, map-map, append_assoc}
use borrow.Author.Tests.{lt-ltb, le-ltb}
use lib.ListN.{length, take, drop}
use lib.Seq.{take_all, take_at, drop-drop}
use Rattle.std.proofs.lemmas.List.{map-append}
use Rattle.session_state.specs.declared.Port.{Port}
use Rattle.session_items.specs.declared.Role.{Role}
use Rattle.session_items.specs.declared.Source.{Source}
use Rattle.session_items.specs.Items.{Item}
use Rattle.sender_load.specs.declared.Sender.{Sender}
use Rattle.sender_load.specs.Items.{width, whole_load, role_at, sent_as, first_place, part, identifier_for, source_by, sent_at, item_of, along, pieces, item_count, items_of}
use Rattle.sender_loop.proofs.Head.{at, item_at, sent-item}

-- bytes one by one
ones : (list : List ℕ) → pieces (length list) 1 list ≡ map (λ byte. byte ∷ []) list
unfolding pieces
ones [] = refl
ones (byte ∷ list) = ap (λ l. (byte ∷ []) ∷ l) (ones list)

module _ (sender : Sender) (image : List ℕ) where
  abbrev wide : ℕ
  wide = width sender.port

  abbrev pub walk : ℕ → ℕ → List Item
  walk count place = map item_of (along (λ s. sent_at s image) count (at sender place))

  -- so many items of a role from a place on
  abbrev Within : Role → ℕ → ℕ → Type 0
  Within role zero place = Unit {0}
  Within role (suc count) place =
      (role_at (at sender place) ≡ role) × (first_place role ≤ place) × Within role count (place + wide)

  -- what is sent in a role is the same at every place
  sent_same : (role : Role) (place : ℕ) → sent_as role (at sender place) image ≡ sent_as role sender image
  sent_same Role.Password place = refl
  sent_same Role.Header place = refl
  sent_same (Role.Data load) place = refl

  pub item_of_lem : (role : Role) (place : ℕ) → role_at (at sender place) ≡ role
      → item_at sender image place
      ≡ Item.Of (source_by sender.port (identifier_for role)) (take wide (drop (place - first_place role) (sent_as role sender image)))
  unfolding part
  item_of_lem role place e =
      rw (e, sent_same role place)
      (sent-item (source_by sender.port (identifier_for role)) (take wide (drop (place - first_place role) (sent_as role sender image))))

  walk_role : (role : Role) (count place : ℕ) → Within role count place
      → walk count place
      ≡ map (Item.Of (source_by sender.port (identifier_for role)))
      (pieces count wide (drop (place - first_place role) (sent_as role sender image)))
  unfolding along pieces
  walk_role role zero place inside = refl
  walk_role role (suc count) place inside =
      let all = sent_as role sender image in
      let further : place + wide - first_place role ≡ place - first_place role + wide = omega (arith, inside.1) in
      rw (item_of_lem role place inside.0, drop-drop wide (place - first_place role) all, ← further)
      (ap (λ l. Item.Of (source_by sender.port (identifier_for role)) (take wide (drop (place - first_place role) all)) ∷ l)
      (walk_role role count (place + wide) inside.2))

  -- the places in turn, and items from one on and then more
  abbrev far : ℕ → ℕ → ℕ
  far zero place = place
  far (suc count) place = far count (place + wide)

  walk_add : (count more place : ℕ) → walk (count + more) place ≡ walk count place ++ walk more (far count place)
  unfolding along
  walk_add zero more place = rw (zero-add more)
  walk_add (suc count) more place =
      rw (suc-add count more) (ap (λ l. item_at sender image place ∷ l) (walk_add count more (place + wide)))

  walk_length : (count place : ℕ) → length (walk count place) ≡ count
  unfolding along
  walk_length zero place = refl
  walk_length (suc count) place = ap suc (walk_length count (place + wide))

  -- from place 16 on all is data
  data_within : (count place : ℕ) → 16 ≤ place → Within (Role.Data (whole_load sender)) count place
  data_within zero place h = tt
  data_within (suc count) place h =
      (rw (le-ltb place 8 (omega arith), le-ltb place 16 h), h, data_within count (place + wide) (omega arith))

-- Lists of bytes, each of which is an item.

abbrev clean : ℕ → Item
clean byte = Item.Of (Source.Serial 0) (byte ∷ [])

module _ (sender : Sender) (image : List ℕ) (eight : length sender.configuration.password ≡ 8) where
  abbrev password : List ℕ
  password = sender.configuration.password

  -- the sender by a port
  abbrev load : Port → Sender
  load port =
      record {
        going = sender.going;
        configuration = sender.configuration;
        port = port;
        start = sender.start;
        vle = sender.vle;
        length = sender.length;
        place = sender.place;
        out = sender.out;
      }

  -- by CAN
  by_can : walk (load Port.Can) image (item_count Port.Can (length image)) 0 ≡ items_of (load Port.Can) image
  unfolding along
  by_can =
      let own = load Port.Can in
      let count = (length image + 7) / 8 in
      walk_add own image 2 count 0
      ∙ rw (
        item_of_lem own image Role.Password 0 refl,
        item_of_lem own image Role.Header 8 refl,
        walk_role own image (Role.Data (whole_load own)) count 16 (data_within own image count 16 (omega arith)),
        take_all 8 password (omega arith),
      )

  -- by serial
  abbrev own : Sender
  own = load Port.Serial

  password-within : (count place : ℕ) → place + count ≤ 8 → Within own image Role.Password count place
  password-within zero place h = tt
  password-within (suc count) place h =
      (rw (lt-ltb place 8 (omega arith)), omega arith, password-within count (place + 1) (omega arith))

  header-within : (count place : ℕ) → 8 ≤ place → place + count ≤ 16 → Within own image Role.Header count place
  header-within zero place h k = tt
  header-within (suc count) place h k =
      (rw (le-ltb place 8 h, lt-ltb place 16 (omega arith)), h, header-within count (place + 1) (omega arith) (omega arith))

  -- the items of all bytes that are sent in a role
  role_items : (role : Role) (place : ℕ) → Within own image role (length (sent_as role own image)) place → place - first_place role ≡ 0
      → walk own image (length (sent_as role own image)) place ≡ map clean (sent_as role own image)
  role_items role place inside none =
      let all = sent_as role own image in
      walk_role own image role (length all) place inside
      ∙ rw (none, ones all) (map-map (Item.Of (Source.Serial 0)) (λ byte. byte ∷ []) all)

  by_serial_lem : walk own image (item_count Port.Serial (length image)) 0 ≡ items_of own image
  by_serial_lem =
      let header = sent_as Role.Header own image in
      let count : item_count Port.Serial (length image) ≡ 8 + (8 + length image) = omega arith in
      let first : walk own image 8 0 ≡ map clean password =
      rw eight at (role_items Role.Password 0 (password-within (length password) 0 (omega arith)) refl) in
      let second : walk own image 8 8 ≡ map clean header = role_items Role.Header 8 (header-within 8 8 (omega arith) (omega arith)) refl in
      let third : walk own image (length image) 16 ≡ map clean image =
      role_items (Role.Data (whole_load own)) 16 (data_within own image (length image) 16 (omega arith)) refl in
      rw count
      (walk_add own image 8 (8 + length image) 0
      ∙ ap (λ l. walk own image 8 0 ++ l) (walk_add own image 8 (length image) 8)
      ∙ rw (first, second, third, ← map-append clean header image, ← map-append clean password (header ++ image))
      (ap (map clean) (sym (append_assoc password header image))))

  by_port : (port : Port) → walk (load port) image (item_count port (length image)) 0 ≡ items_of (load port) image
  by_port Port.Can = by_can
  by_port Port.Serial = by_serial_lem

  pub load_items_lem : walk sender image (item_count sender.port (length image)) 0 ≡ items_of sender image
  load_items_lem = by_port sender.port

  -- the first of them
  pub first_items : (count more : ℕ) → count + more ≡ item_count sender.port (length image)
      → walk sender image count 0 ≡ take count (items_of sender image)
  first_items count more e =
      let first = walk sender image count 0 in
      let rest = walk sender image more (far sender image count 0) in
      sym (take_at first rest count (walk_length sender image count 0))
      ∙ ap (take count) (sym (walk_add sender image count more 0) ∙ rw e load_items_lem)
