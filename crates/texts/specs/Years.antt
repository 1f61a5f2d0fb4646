-- The text of a year.
use Rattle.std.specs.Prelude.{ℕ, zero, suc, ◌+◌, ◌-◌, ◌/◌, ◌^◌, Bool, true, false, ◌&&◌, cond, List, ◌∷◌, leb, ltb, eqb, ℤ, pos, negsuc, drop}
use Rattle.calendar.specs.Years.{astronomical_of, year_at}
use Rattle.calendar.specs.declared.years.Year.{Year}
use Rattle.texts.specs.Octets.{hyphen, plus, first_octet}
use Rattle.octets.specs.Found.{Found, found, nothing, onward}
use Rattle.texts.specs.Digits.{put_digits, get_digits, leading}

-- How many decimal digits a number has, none for 0; at most f are counted.
unfoldable pub size_in : ℕ → ℕ → ℕ
size_in zero n = 0
size_in (suc f) n = cond (eqb n 0) 0 (suc (size_in f (n / 10)))

-- As many digits as a year takes, at least four. A 64-bit number has at most 20.
unfoldable pub year_digits : ℕ → ℕ
year_digits n = 4 + size_in 16 (n / 10000)

-- The canonical text of an astronomical year: "four digits" from 0000 to 9999, "`-` and four digits" or more
-- below, and `+` and as many as it takes above. `negsuc k` is -(k + 1).
unfoldable pub year_text : ℤ → List ℕ
year_text (pos n) = cond (ltb n 10000) (put_digits 4 n) (plus ∷ put_digits (year_digits n) n)
year_text (negsuc k) = hyphen ∷ put_digits (year_digits (suc k)) (suc k)

abbrev pub put_year : Year → List ℕ
put_year y = year_text (astronomical_of y)

-- The most digits of a year that is read: "a sign with six to nine digits" (#103).
abbrev pub longest_year : ℕ
longest_year = 9

-- Whether k digits that give n are a year's after a sign: "`-` and four digits not all 0, or a sign and five digits not beginning with 0", or
-- "a sign with six to nine digits, the first not 0" (#103); the readers below take the most digits, most, as an argument.
unfoldable pub signed_fits : ℕ → Bool → ℕ → ℕ → Bool
signed_fits most below k n =
    cond (leb k 4) (eqb k 4 && (below && ltb 0 n)) (leb k most && leb (10 ^ (k - 1)) n)

-- The astronomical year of a sign and a number.
abbrev pub signed_year : Bool → ℕ → ℤ
signed_year true n = negsuc (n - 1)
signed_year false n = pos n

unfoldable pub get_signed : ℕ → Bool → List ℕ → Found ℕ Year
get_signed most below l =
    onward (get_digits (leading l) l) λ n r. cond (signed_fits most below (leading l) n) (found (year_at (signed_year below n)) r) nothing

-- "A year is read as four digits, .. whichever Year the type names", or after a sign.
unfoldable pub get_year : ℕ → List ℕ → Found ℕ Year
get_year most l =
    cond (eqb (first_octet l) hyphen) (get_signed most true (drop 1 l))
    (cond (eqb (first_octet l) plus) (get_signed most false (drop 1 l))
    (onward (get_digits 4 l) λ n r. found (year_at (pos n)) r))
