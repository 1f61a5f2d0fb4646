-- "A list is `Property=Setting` pairs": the words of the base settings.
use Rattle.std.specs.Prelude.{ℕ, Bool, suc, ◌+◌, ◌-◌, ◌*◌, ◌&&◌, cond, List, [], ◌∷◌, Option, Some, None, map, leb, length, get_or, take}
use Rattle.std.specs.Option.{option_map, option_or}
use Prim.Native.String.{String}
use Rattle.octets.specs.Octets.{bytes, eq_list}
use Rattle.types.specs.Years.{year_settings, year_word}
use Rattle.lists.specs.declared.words.Pair.{Pair}

-- The place of a text among the octets of words that are counted from k, if it is one of them.
unfoldable pub place_from : ℕ → List (List ℕ) → List ℕ → Option ℕ
place_from k [] l = None
place_from k (w ∷ ws) l = cond (eq_list l w) (Some k) (place_from (suc k) ws l)

-- The place of a text among words that are counted from 1.
abbrev pub place_in : List String → List ℕ → Option ℕ
place_in ws = place_from 1 (map bytes ws)

-- "`Basic`: Date, Time, Date-Time", and "`Basic=Interval`" (#101).
abbrev pub basic_words : List String
basic_words = "Basic=Date" ∷ "Basic=Time" ∷ "Basic=Date-Time" ∷ "Basic=Interval" ∷ []

-- "`Date`: Y, YM, YMD, YD, YW, YWD."
abbrev pub date_words : List String
date_words = "Date=Y" ∷ "Date=YM" ∷ "Date=YMD" ∷ "Date=YD" ∷ "Date=YW" ∷ "Date=YWD" ∷ []

-- "`Year`: Basic, Proleptic, Negative, L5", and "L6 to L9" (#103), each at its number.
abbrev pub year_words : List String
year_words = map year_word year_settings

-- "`Time`: H, HM, HMS, HFn, HMFn, HMSFn, with n from 1 to 9."
abbrev pub clock_words : List String
clock_words = "Time=H" ∷ "Time=HM" ∷ "Time=HMS" ∷ []

-- The words that a digit n follows.
abbrev pub fraction_words : List String
fraction_words = "Time=HF" ∷ "Time=HMF" ∷ "Time=HMSF" ∷ []

-- "`Local-or-UTC`: L, Z, LD."
abbrev pub zone_words : List String
zone_words = "Local-or-UTC=L" ∷ "Local-or-UTC=Z" ∷ "Local-or-UTC=LD" ∷ []

-- "`Interval-type=D`" (#101): the interval is given by its duration alone.
abbrev pub interval_words : List String
interval_words = "Interval-type=D" ∷ []

-- The number of a Time setting with n digits, from that of its word.
abbrev pub with_digits : ℕ → ℕ → ℕ
with_digits n k = n * 10 + k

-- "with n from 1 to 9": whether an octet is such a digit.
abbrev pub is_digit_count : ℕ → Bool
is_digit_count d = leb 49 d && leb d 57

-- The number of a Time setting with a fraction: a fraction word with one digit, 1 to 9, after it.
unfoldable pub fraction_number : List ℕ → Option ℕ
fraction_number l =
    cond (is_digit_count (get_or l (length l - 1) 0))
    (option_map (with_digits (get_or l (length l - 1) 0 - 48)) (place_in fraction_words (take (length l - 1) l)))
    None

-- The number of a Time setting.
abbrev pub time_number : List ℕ → Option ℕ
time_number l = option_or (place_in clock_words l) (fraction_number l)

-- "`Property=Setting`": the property, 0 to 4 in the order of "Base settings" and 5 for Interval-type, and the number of its setting.
abbrev pub pair : ℕ → ℕ → Pair
pair p n = record { property = p; setting = n }

-- The pair of a property with its setting, if it has one.
abbrev pub with_setting : ℕ → Option ℕ → Option Pair
with_setting p n = option_map (pair p) n

-- The pair that a text is, if it is one.
unfoldable pub pair_of : List ℕ → Option Pair
pair_of l =
    option_or (with_setting 0 (place_in basic_words l))
    (option_or (with_setting 1 (place_in date_words l))
    (option_or (with_setting 2 (place_in year_words l))
    (option_or (with_setting 3 (time_number l))
    (option_or (with_setting 4 (place_in zone_words l)) (with_setting 5 (place_in interval_words l))))))
