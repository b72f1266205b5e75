-- A lemma, which stands here since a ghost field can name no proof file: that the bytes have their place is one fact.
use Rattle.std.specs.Prelude.{ℕ}
use Rattle.std.proofs.Props.{props}
use Rattle.session_state.specs.declared.Session.{Session}
use Rattle.session_items.specs.declared.Role.{Role}
use Rattle.session.specs.Room.{Room}

pub Room-prop : (role : Role) (session : Session) (count : ℕ) → IsProp (Room role session count)
Room-prop Role.Password session count = Prim.hlevel props
Room-prop Role.Header session count = Prim.hlevel props
Room-prop (Role.Data load) session count = Prim.hlevel props
