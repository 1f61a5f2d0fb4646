-- How fields may be spelled that the lenient reader takes: an integer in more octets than it needs.
use Rattle.std.specs.Prelude.{ℕ, ◌*◌, Bool, true, ◌&&◌, List, [], ◌∷◌, ◌++◌, leb, ℤ}
use Rattle.fields.specs.Bits.{BitString, bits_of}
use Rattle.fields.specs.Integers.{within, twos}
use Rattle.fields.specs.Fields.{Field, Ranged, Free, width}

-- A field as it is spelled: a number of a range, or a free integer (an unconstrained whole number) in n octets.
pub data SpelledField : Type 0 where
  Range : ℕ → ℕ → SpelledField
  Integer : ℕ → ℤ → SpelledField

-- The fields that are spelled.
unfoldable pub spelled_fields : List SpelledField → List Field
spelled_fields [] = []
spelled_fields (Range r v ∷ ws) = Ranged r v ∷ spelled_fields ws
spelled_fields (Integer n z ∷ ws) = Free z ∷ spelled_fields ws

-- Whether each integer stands in 1 to 4 octets that hold it.
unfoldable pub well_spelled : List SpelledField → Bool
well_spelled [] = true
well_spelled (Range r v ∷ ws) = well_spelled ws
well_spelled (Integer n z ∷ ws) = leb 1 n && leb n 4 && within n z && well_spelled ws

-- The bits of fields as they are spelled.
unfoldable pub spelled_bits : List SpelledField → BitString
spelled_bits [] = []
spelled_bits (Range r v ∷ ws) = bits_of (width r) v ++ spelled_bits ws
spelled_bits (Integer n z ∷ ws) = bits_of 8 n ++ (bits_of (8 * n) (twos n z) ++ spelled_bits ws)
