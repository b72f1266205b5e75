-- The 8 places that hold password or header bytes, with more bytes behind those held.
use Prim.Native.Nat.{ℕ, ◌+◌, ◌-◌, ◌≤◌}
use native.Mathlib.Omega.{arith}
use mathlib.Core.Path.{◌≡◌, ◌∙◌}
use mathlib.Core.List.{List}
use lib.ListN.{length, take, length-append}
use lib.Seq.{length-take-le}
use borrow.Rule.Slice.PartMut.{mid_of, put_mid}
use Rattle.buffers.specs.Write.{over, filled}
use Rattle.buffers.proofs.Lending.{put_back}
use Rattle.session_state.specs.declared.Session.{Session}
use Rattle.session.specs.Rules.{received}

module _ (session : Session) (bytes : List ℕ) (eight : length session.held ≡ 8) (room : session.count + length bytes ≤ 8) where
  pub received-length : length (received session bytes) ≡ session.count + length bytes
  received-length =
      length-append (take session.count session.held) bytes
      ∙ omega (arith, length-take-le session.count session.held (omega arith))

  -- the places behind those held, lent, filled and given back
  pub held_back
      : put_mid session.count (8 - session.count) session.held
      (filled bytes (mid_of session.count (8 - session.count) session.held))
      ≡ over (received session bytes) session.held
  held_back =
      rw eight at (put_back session.held bytes session.count (omega arith)) ∙ rw received-length
