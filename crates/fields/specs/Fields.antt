-- "Fields follow one another without gaps". Only these definitions and the reading of one field know how a field lies in bits.
use Rattle.std.specs.Prelude.{ℕ, zero, suc, ◌+◌, ◌*◌, ◌-◌, ◌/◌, List, [], ◌∷◌, ◌++◌, ℤ}
use Rattle.fields.specs.Bits.{BitString, bits_of}
use Rattle.fields.specs.Integers.{fewest, twos}

-- A constrained whole number, which is one of an ASN.1 range of r numbers, counted from the lowest of them; or an unconstrained whole number,
-- which is a free integer.
pub data Field : Type 0 where
  Ranged : ℕ → ℕ → Field
  Free : ℤ → Field

-- How many binary digits n has; f bounds them.
unfoldable pub binary_digits : ℕ → ℕ → ℕ
binary_digits zero n = 0
binary_digits (suc f) zero = 0
binary_digits (suc f) (suc n) = suc (binary_digits f (suc n / 2))

-- The width of a range: the fewest bits that its highest number takes.
unfoldable pub width : ℕ → ℕ
width r = binary_digits (r - 1) (r - 1)

-- The bits of a field. The length of a free integer is an octet.
unfoldable pub field_bits : Field → BitString
field_bits (Ranged r v) = bits_of (width r) v
field_bits (Free z) = bits_of 8 (fewest z) ++ bits_of (8 * fewest z) (twos (fewest z) z)

-- The bits of fields, one after the other.
unfoldable pub layout : List Field → BitString
layout [] = []
layout (f ∷ fs) = field_bits f ++ layout fs

-- The width of a field.
unfoldable pub field_width : Field → ℕ
field_width (Ranged r v) = width r
field_width (Free z) = 8 + 8 * fewest z

-- The bit count of fields: "the plain sum of these widths, before the filling".
unfoldable pub bit_count : List Field → ℕ
bit_count [] = 0
bit_count (f ∷ fs) = field_width f + bit_count fs
