-- What the two loops gather: whether each half word so far is allowed, and the bits in which the bytes so far differ.
use Prim.Native.Nat.{ℕ, zero, suc, ◌+◌, ◌*◌, ◌<◌}
use native.Mathlib.Omega.{arith}
use native.Mathlib.Numerals.{add-one}
use mathlib.Core.Path.{◌≡◌, refl}
use mathlib.Core.List.{List}
use mathlib.Core.Bool.{Bool, true, false, ◌&&◌, and_assoc}
use borrow.Author.Tests.{eqb-true, eqb-false, ne_eqb}
use lib.Bits.{bit_or, bit_xor, or_add_and, xor_add_and, and_le_l, and_le_r, xor_self}
use lib.Dec.{eqb}
use lib.ListN.{length, get_or, drop}
use lib.Seq.{drop-cons}
use Rattle.octets.specs.Read.{half_at}
use Rattle.octets.specs.Same.{same}
use Rattle.password.specs.Passing.{allowed_half}

-- the first half words are allowed, as many as asked
abbrev pub allowed_up_to : List ℕ → ℕ → Bool
allowed_up_to password zero = true
allowed_up_to password (suc n) = allowed_up_to password n && allowed_half (half_at password (2 * n))

no_bit-set : (a b : ℕ) → eqb (bit_or a b) 0 ≡ (eqb a 0 && eqb b 0)
no_bit-set zero b = refl
no_bit-set (suc a) b =
    rw (
      ne_eqb (bit_or (suc a) b) 0 (λ e. omega (arith, or_add_and (suc a) b, and_le_r (suc a) b)),
      ne_eqb (suc a) 0 (λ e. omega arith),
    )

no_bit_differs : (a b : ℕ) → eqb (bit_xor a b) 0 ≡ eqb a b
no_bit_differs a b = by_value (eqb a b) refl
  where
    by_value : (t : Bool) → eqb a b ≡ t → eqb (bit_xor a b) 0 ≡ t
    by_value true e = rw (eqb-true a b e, xor_self b)
    by_value false e =
        ne_eqb (bit_xor a b) 0 (λ z. eqb-false a b e (omega (arith, xor_add_and a b, and_le_l a b, and_le_r a b)))

pub gathered
    : (differences : ℕ) (a b : List ℕ) (i : ℕ)
    → i < length a
    → i < length b
    → (eqb differences 0 && same (drop i a) (drop i b))
    ≡ (eqb (bit_or differences (bit_xor (get_or a i 0) (get_or b i 0))) 0 && same (drop (i + 1) a) (drop (i + 1) b))
unfolding same
gathered differences a b i h k =
    rw (
      drop-cons a i 0,
      drop-cons b i 0,
      no_bit-set differences (bit_xor (get_or a i 0) (get_or b i 0)),
      no_bit_differs (get_or a i 0) (get_or b i 0),
      and_assoc,
      add-one,
    )
