-- The text of a duration: 34 bis.3.6 of X.680.
use Rattle.std.specs.Prelude.{ℕ, suc, ◌-◌, ◌/◌, ◌^◌, Bool, false, ◌&&◌, ◌||◌, cond, List, [], ◌∷◌, ◌++◌, eqb, leb, ltb, drop, take, length, Option, Some, None}
use Rattle.texts.specs.Octets.{comma, stop, letter_t, letter_w, first_octet}
use Rattle.octets.specs.Found.{Found, found, nothing, onward}
use Rattle.texts.specs.Digits.{put_digits, get_digits, leading}
use Rattle.texts.specs.Times.{put_fraction, get_fraction}
use Rattle.texts.specs.Years.{size_in}
use Rattle.durations.specs.declared.Duration.{Duration}
use Rattle.durations.specs.Parts.{Part, absent, present, any_present, well_made}
use Rattle.durations.specs.Durations.{spelled_parts, duration_of}

abbrev pub letter_p : ℕ
letter_p = 80

-- The designators: "[Y]", "[M]", "[W]", "[D]", and after "[T]" "[H]", "[M]", "[S]".
abbrev pub date_letters : List ℕ
date_letters = 89 ∷ 77 ∷ letter_w ∷ 68 ∷ []

abbrev pub time_letters : List ℕ
time_letters = 72 ∷ 77 ∷ 83 ∷ []

-- ---- written

-- How many digits a number has.
unfoldable pub number_digits : ℕ → ℕ
number_digits n = suc (size_in 8 (n / 10))

unfoldable pub put_number : ℕ → List ℕ
put_number n = put_digits (number_digits n) n

-- A component: its number, its fraction, its designator.
unfoldable pub put_part : ℕ → Part → List ℕ
put_part letter absent = []
put_part letter (present n d f) = put_number n ++ (put_fraction d f ++ letter ∷ [])

unfoldable pub put_parts : List ℕ → List Part → List ℕ
put_parts [] ps = []
put_parts (l ∷ ls) [] = []
put_parts (l ∷ ls) (p ∷ ps) = put_part l p ++ put_parts ls ps

-- "[T] followed by one or more (in order) of": nothing where there is none.
unfoldable pub put_times : List Part → List ℕ
put_times ts = cond (any_present ts) (letter_t ∷ put_parts time_letters ts) []

unfoldable pub put_duration : List Part → List Part → List ℕ
put_duration ds ts = letter_p ∷ (put_parts date_letters ds ++ put_times ts)

-- ---- read

-- "no needless leading zero": k digits for n, where fewer would do.
unfoldable pub needless : ℕ → ℕ → Bool
needless k n = ltb 1 k && ltb n (10 ^ (k - 1))

-- "each number has at most nine digits and no needless leading zero"
unfoldable pub get_number : List ℕ → Found ℕ ℕ
get_number l =
    cond (leb 1 (leading l) && leb (leading l) 9) (onward (get_digits (leading l) l) λ n r. cond (needless (leading l) n) nothing (found n r)) nothing

-- How many digits stand behind a comma or a full stop; none where there is neither.
unfoldable pub fraction_length : List ℕ → ℕ
fraction_length l = cond (eqb (first_octet l) comma || eqb (first_octet l) stop) (leading (drop 1 l)) 0

-- The fraction, if any, and the designator. "If a designation contains a fractional part, there shall be no following designation": with
-- a fraction it is the end of the text.
unfoldable pub get_end : ℕ → ℕ → ℕ → List ℕ → Found ℕ Part
get_end letter n d l =
    onward (get_fraction d l) λ f q.
    cond (eqb (first_octet q) letter && (eqb d 0 || leb (length q) 1)) (found (present n d f) (drop 1 q)) nothing

unfoldable pub get_present : ℕ → List ℕ → Found ℕ Part
get_present letter l = onward (get_number l) λ n r. cond (leb (fraction_length r) 9) (get_end letter n (fraction_length r) r) nothing

-- A component that is not there leaves the text as it is.
abbrev pub or_absent : List ℕ → Found ℕ Part → Found ℕ Part
or_absent l (found p r) = found p r
or_absent l nothing = found absent l

unfoldable pub get_part : ℕ → List ℕ → Found ℕ Part
get_part letter l = or_absent l (get_present letter l)

unfoldable pub get_parts : List ℕ → List ℕ → Found ℕ (List Part)
get_parts [] l = found [] l
get_parts (c ∷ cs) l = onward (get_part c l) λ p r. onward (get_parts cs r) λ ps q. found (p ∷ ps) q

-- "[T] followed by one or more"
unfoldable pub get_times : List ℕ → Found ℕ (List Part)
get_times l =
    cond (eqb (first_octet l) letter_t)
    (onward (get_parts time_letters (drop 1 l)) λ ts q. cond (any_present ts) (found ts q) nothing)
    (found (absent ∷ absent ∷ absent ∷ []) l)

unfoldable pub get_duration : List ℕ → Found ℕ (List Part)
get_duration l =
    cond (eqb (first_octet l) letter_p)
    (onward (get_parts date_letters (drop 1 l)) λ ds r. onward (get_times r) λ ts q. found (ds ++ ts) q)
    nothing

-- Components that make a duration, where nothing is left of the text.
abbrev pub whole_duration : Found ℕ (List Part) → Option Duration
whole_duration (found ps []) = cond (well_made ps) (Some (duration_of ps)) None
whole_duration (found ps (x ∷ r)) = None
whole_duration nothing = None

-- What a text gives: a duration, its zero components gone; or nothing.
unfoldable pub read_duration : List ℕ → Option Duration
read_duration l = whole_duration (get_duration l)

-- ---- a duration's texts

-- How a text is spelled: with a comma, and which zero components it has.
pub record DurationSpelling : Type 0 where
  pub comma : Bool
  pub zeros : List Bool

-- "Canonical": a full stop, and no zero component but the last.
abbrev pub canonical : DurationSpelling
canonical = record { comma = false; zeros = [] }

-- The text of components, the first four before `T`.
abbrev pub put_all : List Part → List ℕ
put_all ps = put_duration (take 4 ps) (drop 4 ps)

unfoldable pub render_duration : DurationSpelling → Duration → List ℕ
render_duration s d = put_all (spelled_parts s.comma s.zeros d)

-- The canonical text of a duration.
abbrev pub duration_text : Duration → List ℕ
duration_text d = render_duration canonical d

-- The canonical text of what was read; nothing where nothing was.
abbrev pub canonical_of : Option Duration → Option (List ℕ)
canonical_of (Some d) = Some (duration_text d)
canonical_of None = None

-- A text made canonical; nothing where it is no duration's.
abbrev pub made_canonical : List ℕ → Option (List ℕ)
made_canonical l = canonical_of (read_duration l)
