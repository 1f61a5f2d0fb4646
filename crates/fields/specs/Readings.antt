-- What is to be read, as a tree of fields; and how it is read from bits.
use Rattle.std.specs.Prelude.{ℕ, ◌*◌, Bool, true, false, cond, List, [], ◌∷◌, leb, ltb, eqb, ℤ, pos, negsuc, length, drop}
use Rattle.octets.specs.Found.{Found, found, nothing, onward}
use Rattle.fields.specs.Bits.{BitString, number_in}
use Rattle.fields.specs.Integers.{within, from_twos}
use Rattle.fields.specs.Fields.{Field, Ranged, Free, width}

-- Give a result; read a constrained whole number (of a range) or an unconstrained one (a free integer), and go on by it; or find nothing.
pub data Reading (A : Type 0) : Type 0 where
  give : A → Reading A
  ranged : ℕ → (ℕ → Reading A) → Reading A
  free : (ℤ → Reading A) → Reading A
  refuse : Reading A

module _ {A B : Type 0} where
  infixl 20 ◌>>=◌
  -- One reading after the other, by what the first gave.
  unfoldable pub ◌>>=◌ : Reading A → (A → Reading B) → Reading B
  give a >>= f = f a
  ranged r k >>= f = ranged r (λ v. k v >>= f)
  free k >>= f = free (λ z. k z >>= f)
  refuse >>= f = refuse

-- A reading of one number of a range.
unfoldable pub a_ranged : ℕ → Reading ℕ
a_ranged r = ranged r give

-- A reading of one free integer.
unfoldable pub a_free : Reading ℤ
a_free = free give

-- A number that is not negative; nothing for a negative one.
unfoldable pub natural : ℤ → Reading ℕ
natural (pos n) = give n
natural (negsuc n) = refuse

-- A reading of one free integer that is not negative.
abbrev pub a_natural : Reading ℕ
a_natural = a_free >>= natural

-- Nothing where the test fails.
unfoldable pub require : {A : Type 0} → Bool → Reading A → Reading A
require true t = t
require false t = refuse

-- The number of the next w bits; nothing where "octets end inside a field".
unfoldable pub read_bits : ℕ → BitString → Found Bool ℕ
read_bits w s = cond (leb w (length s)) (found (number_in w s) (drop w s)) nothing

-- A number of a range; nothing for "a field's bits above its range".
unfoldable pub read_ranged : ℕ → BitString → Found Bool ℕ
read_ranged r s = onward (read_bits (width r) s) (λ v s. cond (ltb v r) (found v s) nothing)

-- A free integer; nothing for "a free integer's length not 1 to 4".
unfoldable pub read_free : BitString → Found Bool ℤ
read_free s =
    onward (read_bits 8 s) (λ n s.
    cond (leb 1 n) (cond (leb n 4) (onward (read_bits (8 * n) s) (λ t s. found (from_twos n t) s)) nothing) nothing)

module _ {A : Type 0} where
  -- A reading from bits. It asks nothing of how a number should have been written.
  unfoldable pub run : Reading A → BitString → Found Bool A
  run (give a) s = found a s
  run (ranged r k) s = onward (read_ranged r s) (λ v. run (k v))
  run (free k) s = onward (read_free s) (λ z. run (k z))
  run refuse s = nothing

  -- A reading from fields: nothing where a field is not of the range that is read, not in it, or of more than four octets.
  unfoldable pub over : Reading A → List Field → Found Field A
  over (give a) fs = found a fs
  over (ranged r k) [] = nothing
  over (ranged r k) (Ranged q v ∷ fs) = cond (eqb q r) (cond (ltb v r) (over (k v) fs) nothing) nothing
  over (ranged r k) (Free z ∷ fs) = nothing
  over (free k) [] = nothing
  over (free k) (Ranged q v ∷ fs) = nothing
  over (free k) (Free z ∷ fs) = cond (within 4 z) (over (k z) fs) nothing
  over refuse fs = nothing
