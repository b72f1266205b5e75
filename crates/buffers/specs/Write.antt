-- Items, such as bytes or numbers, written over some places of a list.
use Rattle.std.specs.Prelude.{ℕ, ◌+◌, List, ◌++◌, cond, length, take, drop, leb}

-- over the first places: the items, and behind them the rest of the list as it was
abbrev pub over : {A : Type 0} → List A → List A → List A
over items list = items ++ drop (length items) list

-- over those from a place on
abbrev pub over_from : {A : Type 0} → ℕ → List A → List A → List A
over_from at items list = take at list ++ items ++ drop (at + length items) list

-- over the first places, but if not all of them have room, none is written
unfoldable pub filled : {A : Type 0} → List A → List A → List A
filled items list = cond (leb (length items) (length list)) (over items list) list
