-- The first eight bytes of a list: of one that has more or fewer, and of eight.
use Prim.Native.Nat.{ℕ, ◌≤◌}
use native.Mathlib.Omega.{arith}
use mathlib.Core.Path.{◌≡◌, refl, ◌∙◌}
use mathlib.Core.List.{List, [], ◌∷◌, append-nil}
use lib.ListN.{length, take, replicate}
use lib.Seq.{take_all, length-take-le}
use Rattle.octets.specs.Read.{first_eight}
use Rattle.buffers.specs.Write.{over}

-- the first eight bytes, with zeroes behind them where there are fewer
pub eight-over : (bytes : List ℕ) → first_eight bytes ≡ over (take 8 bytes) (replicate 8 0)
eight-over [] = refl
eight-over (a ∷ []) = refl
eight-over (a ∷ b ∷ []) = refl
eight-over (a ∷ b ∷ c ∷ []) = refl
eight-over (a ∷ b ∷ c ∷ d ∷ []) = refl
eight-over (a ∷ b ∷ c ∷ d ∷ e ∷ []) = refl
eight-over (a ∷ b ∷ c ∷ d ∷ e ∷ f ∷ []) = refl
eight-over (a ∷ b ∷ c ∷ d ∷ e ∷ f ∷ g ∷ []) = refl
eight-over (a ∷ b ∷ c ∷ d ∷ e ∷ f ∷ g ∷ i ∷ l) = refl

-- of eight or more
pub eight-take : (bytes : List ℕ) → 8 ≤ length bytes → first_eight bytes ≡ take 8 bytes
eight-take bytes e = eight-over bytes ∙ rw (length-take-le 8 bytes e, append-nil)

-- of eight they are all
pub eight-whole : (bytes : List ℕ) → length bytes ≡ 8 → first_eight bytes ≡ bytes
eight-whole bytes e = eight-take bytes (omega arith) ∙ take_all 8 bytes (omega arith)
