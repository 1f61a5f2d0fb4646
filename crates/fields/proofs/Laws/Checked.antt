-- Checked fields, with the octets that the reference gives, written and read: constrained whole numbers, of the ranges of Table 2's fields, and
-- unconstrained ones, which are free integers.
-- Only a table refuses what writer and reader share, such as an integer counted from the lowest, or a length in bits.
use mathlib.Core.Path.{◌≡◌, refl}
use mathlib.Core.Bool.{Bool}
use mathlib.Core.List.{List, [], ◌∷◌}
use Prim.Native.Nat.{ℕ, ◌*◌}
use Prim.Native.String.{String}
use lib.IntN.{ℤ, pos, negsuc}
use lib.ListN.{length, drop}
use Rattle.octets.specs.Found.{Found, found, nothing, onward}
use Rattle.answers.specs.Counts.{octets_for}
use Rattle.fields.specs.Bits.{bits_of, number_in, packed, octets_of, unpacked}
use Rattle.fields.specs.Integers.{half, within, fewest, twos, from_twos}
use Rattle.fields.specs.Fields.{Field, Ranged, Free, binary_digits, width, field_bits, field_width}
use Rattle.fields.specs.Readings.{read_bits, read_ranged, read_free}
use Rattle.answers.proofs.Laws.Quoted.{hex}

-- a range, a number of it, how many bits it has and the octets that they fill; an integer and its octets, the fewest possible, or more;
-- octets that give no number of a range, or no integer
data Row : Type 0 where
  ranged : ℕ → ℕ → ℕ → String → Row
  integer : ℤ → String → Row
  longer : ℤ → String → Row
  no_ranged : ℕ → String → Row
  no_integer : String → Row

-- The octets of a field with its width, and what octets give; or that alone.
data Coding : Type 0 where
  coding : List ℕ → ℕ → Found Bool ℤ → Coding
  reading : Found Bool ℤ → Coding

-- What rows say: behind the bits of a field all is left.
said : List Row → List Coding
unfolding hex bits_of unpacked
said [] = []
said (ranged r v bits octets ∷ l) = coding (hex octets) bits (found (pos v) (drop bits (unpacked (hex octets)))) ∷ said l
said (integer z octets ∷ l) = coding (hex octets) (8 * length (hex octets)) (found z []) ∷ said l
said (longer z octets ∷ l) = reading (found z []) ∷ said l
said (no_ranged r octets ∷ l) = reading nothing ∷ said l
said (no_integer octets ∷ l) = reading nothing ∷ said l

-- What the definitions make of them.
makes : Field → Found Bool ℤ → Coding
unfolding octets_for bits_of number_in packed octets_of half within fewest twos binary_digits width field_bits field_width
makes field read = coding (octets_of (field_bits field)) (field_width field) read

number_from : ℕ → List ℕ → Found Bool ℤ
unfolding bits_of number_in unpacked binary_digits width read_bits read_ranged
number_from r octets = onward (read_ranged r (unpacked octets)) (λ v s. found (pos v) s)

integer_from : List ℕ → Found Bool ℤ
unfolding bits_of number_in unpacked half from_twos read_bits read_free
integer_from octets = read_free (unpacked octets)

made : List Row → List Coding
unfolding hex makes number_from integer_from
made [] = []
made (ranged r v bits octets ∷ l) = makes (Ranged r v) (number_from r (hex octets)) ∷ made l
made (integer z octets ∷ l) = makes (Free z) (integer_from (hex octets)) ∷ made l
made (longer z octets ∷ l) = reading (integer_from (hex octets)) ∷ made l
made (no_ranged r octets ∷ l) = reading (number_from r (hex octets)) ∷ made l
made (no_integer octets ∷ l) = reading (integer_from (hex octets)) ∷ made l

-- "Month - 1 in 4 bits, day - 1 in 5", and so on: each range that is in Table 2.
numbers : List Row
numbers =
    ranged 7 1 3 "20" ∷
    ranged 7 6 3 "C0" ∷
    ranged 12 5 4 "50" ∷
    ranged 12 11 4 "B0" ∷
    ranged 16 15 4 "F0" ∷
    ranged 25 15 5 "78" ∷
    ranged 25 24 5 "C0" ∷
    ranged 31 12 5 "60" ∷
    ranged 31 30 5 "F0" ∷
    ranged 32 31 5 "F8" ∷
    ranged 53 23 6 "5C" ∷
    ranged 53 52 6 "D0" ∷
    ranged 59 29 6 "74" ∷
    ranged 59 58 6 "E8" ∷
    ranged 60 27 6 "6C" ∷
    ranged 60 59 6 "EC" ∷
    ranged 61 60 6 "F0" ∷
    ranged 256 1 8 "01" ∷
    ranged 256 255 8 "FF" ∷
    ranged 366 163 9 "5180" ∷
    ranged 366 365 9 "B680" ∷
    ranged 1000 500 10 "7D00" ∷
    ranged 1000 999 10 "F9C0" ∷ []

widths_checked : made numbers ≡ said numbers
unfolding numbers said made
widths_checked = refl

-- "Free integer: one octet of length, then that many octets of two's complement, the fewest possible."
integers : List Row
integers =
    integer (pos 0) "0100" ∷
    integer (pos 1) "0101" ∷
    integer (pos 127) "017F" ∷
    integer (pos 128) "020080" ∷
    integer (negsuc 0) "01FF" ∷
    integer (negsuc 127) "0180" ∷
    integer (negsuc 128) "02FF7F" ∷
    integer (pos 255) "0200FF" ∷
    integer (pos 256) "020100" ∷
    integer (pos 32767) "027FFF" ∷
    integer (pos 32768) "03008000" ∷
    integer (negsuc 32767) "028000" ∷
    integer (negsuc 32768) "03FF7FFF" ∷
    integer (pos 99999) "0301869F" ∷
    integer (negsuc 99998) "03FE7961" ∷
    integer (pos 8388607) "037FFFFF" ∷
    integer (pos 8388608) "0400800000" ∷
    integer (negsuc 8388607) "03800000" ∷
    integer (negsuc 8388608) "04FF7FFFFF" ∷
    integer (pos 999999999) "043B9AC9FF" ∷
    integer (pos 2147483647) "047FFFFFFF" ∷
    integer (negsuc 2147483647) "0480000000" ∷ []

integers_checked : made integers ≡ said integers
unfolding integers said made
integers_checked = refl

-- "integer not shortest"
spellings : List Row
spellings =
    longer (negsuc 0) "02FFFF" ∷
    longer (pos 129) "03000081" ∷
    longer (negsuc 128) "04FFFFFF7F" ∷
    longer (pos 0) "0400000000" ∷ []

longer_checked : made spellings ≡ said spellings
unfolding spellings said made
longer_checked = refl

unreadable : List Row
unreadable =
    -- "octets end inside a field"; "a free integer's length not 1 to 4"
    no_integer "" ∷
    no_integer "02FF" ∷
    no_integer "00" ∷
    no_integer "00FF" ∷
    no_integer "0500FFFFFFFF" ∷
    no_integer "80" ∷
    -- "a field's bits above its range"
    no_ranged 12 "" ∷
    no_ranged 12 "C0" ∷
    no_ranged 7 "E0" ∷
    no_ranged 25 "C8" ∷
    no_ranged 31 "F8" ∷
    no_ranged 53 "D4" ∷
    no_ranged 59 "EC" ∷
    no_ranged 60 "F0" ∷
    no_ranged 61 "F4" ∷
    no_ranged 366 "B7" ∷
    no_ranged 366 "B700" ∷
    no_ranged 1000 "FA00" ∷ []

nothing_checked : made unreadable ≡ said unreadable
unfolding unreadable said made
nothing_checked = refl
