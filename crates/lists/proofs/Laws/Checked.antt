-- Settings lists as checked values: a text, and the numbers of its Basic, Date, Year, Time, Local-or-UTC and Interval-type settings by their places in
-- "Base settings", with Interval as the fourth Basic (#101), where Fn adds n times 10 and 0 is "not there". A list that is refused has none.
use Rattle.std.specs.Option.{is_some}
use Rattle.lists.specs.Lists.{numbers_in}
use mathlib.Core.Path.{◌≡◌, refl}
use mathlib.Core.Bool.{Bool, true, not, beq, ◌&&◌}
use mathlib.Core.List.{List, [], ◌∷◌}
use Prim.Native.Nat.{ℕ}
use Prim.Native.String.{String}
use lib.Dec.{eqb}
use Rattle.octets.specs.Octets.{bytes, eq_list}
use Rattle.octets.specs.Pieces.{split_on}
use Rattle.lists.specs.Words.{fraction_number, pair_of, place_from}
use Rattle.lists.specs.Lists.{add_pair, add_pairs, complete, completed, dated_list, interval_list, list_of, timed_list}

data Row : Type 0 where
  list : String → ℕ → ℕ → ℕ → ℕ → ℕ → ℕ → Row

rows : List Row
rows =
    -- "in any order"
    list "Basic=Date Date=Y Year=Basic" 1 1 1 0 0 0 ∷
    list "Year=Proleptic Date=YM Basic=Date" 1 2 2 0 0 0 ∷
    list "Date=YMD Basic=Date Year=Negative" 1 3 3 0 0 0 ∷
    list "Basic=Date Date=YD Year=L5" 1 4 4 0 0 0 ∷
    list "Basic=Time Time=H Local-or-UTC=L" 2 0 0 1 1 0 ∷
    list "Local-or-UTC=Z Time=HM Basic=Time" 2 0 0 2 2 0 ∷
    list "Time=HMS Local-or-UTC=LD Basic=Time" 2 0 0 3 3 0 ∷
    list "Basic=Time Time=HMSF9 Local-or-UTC=LD" 2 0 0 93 3 0 ∷
    list "Basic=Date-Time Date=YW Year=Basic Time=HF1 Local-or-UTC=L" 3 5 1 11 1 0 ∷
    list "Time=HMF5 Date=YWD Local-or-UTC=Z Year=L5 Basic=Date-Time" 3 6 4 52 2 0 ∷
    -- "`Year=L6` to `L9`" (#103), and the words nearest to them, which are none
    list "Basic=Date Date=Y Year=L6" 1 1 5 0 0 0 ∷
    list "Basic=Date Date=Y Year=L7" 1 1 6 0 0 0 ∷
    list "Basic=Date Date=Y Year=L8" 1 1 7 0 0 0 ∷
    list "Year=L9 Basic=Date Date=Y" 1 1 8 0 0 0 ∷
    list "Basic=Date Date=Y Year=L4" 0 0 0 0 0 0 ∷
    list "Basic=Date Date=Y Year=L10" 0 0 0 0 0 0 ∷
    list "Basic=Date Date=Y Year=L06" 0 0 0 0 0 0 ∷
    list "Basic=Date Date=Y Year=l9" 0 0 0 0 0 0 ∷
    list "Basic=Date Date=Y Year=L" 0 0 0 0 0 0 ∷
    list "Basic=Date Date=Y Year=L6 Year=L7" 0 0 0 0 0 0 ∷
    -- "missing"
    list "Date=Y Year=Basic" 0 0 0 0 0 0 ∷
    list "Basic=Date Year=Basic" 0 0 0 0 0 0 ∷
    list "Basic=Date Date=Y" 0 0 0 0 0 0 ∷
    list "Basic=Time Local-or-UTC=L" 0 0 0 0 0 0 ∷
    list "Basic=Time Time=H" 0 0 0 0 0 0 ∷
    list "Basic=Date-Time Date=Y Time=H Local-or-UTC=L" 0 0 0 0 0 0 ∷
    list "Basic=Date-Time Date=Y Year=Basic Time=H" 0 0 0 0 0 0 ∷
    -- where the value has no date, or no time
    list "Basic=Date Date=Y Year=Basic Time=H" 0 0 0 0 0 0 ∷
    list "Basic=Date Date=Y Year=Basic Local-or-UTC=L" 0 0 0 0 0 0 ∷
    list "Basic=Time Time=H Local-or-UTC=L Date=Y" 0 0 0 0 0 0 ∷
    list "Basic=Time Time=H Local-or-UTC=L Year=Basic" 0 0 0 0 0 0 ∷
    -- "each property at most once"
    list "Basic=Date Date=Y Year=Basic Date=Y" 0 0 0 0 0 0 ∷
    list "Basic=Date Date=Y Year=Basic Year=L5" 0 0 0 0 0 0 ∷
    list "Basic=Date Basic=Date-Time Date=Y Year=Basic Time=H Local-or-UTC=L" 0 0 0 0 0 0 ∷
    -- "one space between"
    list "Basic=Date  Date=Y Year=Basic" 0 0 0 0 0 0 ∷
    list " Basic=Date Date=Y Year=Basic" 0 0 0 0 0 0 ∷
    list "Basic=Date Date=Y Year=Basic " 0 0 0 0 0 0 ∷
    list "Basic=Date,Date=Y,Year=Basic" 0 0 0 0 0 0 ∷
    list "" 0 0 0 0 0 0 ∷
    -- "with n from 1 to 9"
    list "Basic=Time Time=HF Local-or-UTC=L" 0 0 0 0 0 0 ∷
    list "Basic=Time Time=HF0 Local-or-UTC=L" 0 0 0 0 0 0 ∷
    list "Basic=Time Time=HF10 Local-or-UTC=L" 0 0 0 0 0 0 ∷
    -- "Centuries and intervals are no base types"
    list "Basic=Date Date=C Year=Basic" 0 0 0 0 0 0 ∷
    list "Basic=Interval Interval-type=SE SE-point=Date Date=Y Year=Basic" 0 0 0 0 0 0 ∷
    -- the words nearest to Basic=Interval and Interval-type=D, which are none
    list "Basic=Interval Interval-type=SE" 0 0 0 0 0 0 ∷
    list "Basic=Interval Interval-type=SD" 0 0 0 0 0 0 ∷
    list "Basic=Interval Interval-type=DE" 0 0 0 0 0 0 ∷
    list "Basic=Interval interval-type=D" 0 0 0 0 0 0 ∷
    list "Basic=Interval Interval-type=d" 0 0 0 0 0 0 ∷
    list "Basic=Interval Interval-type=" 0 0 0 0 0 0 ∷
    list "Basic=Interval Interval-type=DD" 0 0 0 0 0 0 ∷
    list "Basic=Rec-Interval Interval-type=D" 0 0 0 0 0 0 ∷
    list "Basic=interval Interval-type=D" 0 0 0 0 0 0 ∷
    list "Basic=Intervals Interval-type=D" 0 0 0 0 0 0 ∷
    list "Basic=Interval Interval-type=D SE-point=Date" 0 0 0 0 0 0 ∷
    []

-- "`Basic=Interval`" with "`Interval-type=D`" (#101)
durations : List Row
durations =
    -- in either order
    list "Basic=Interval Interval-type=D" 4 0 0 0 0 1 ∷
    list "Interval-type=D Basic=Interval" 4 0 0 0 0 1 ∷
    -- one of the two twice
    list "Basic=Interval Interval-type=D Interval-type=D" 0 0 0 0 0 0 ∷
    list "Basic=Interval Basic=Interval Interval-type=D" 0 0 0 0 0 0 ∷
    -- another property beside them
    list "Basic=Interval Interval-type=D Date=Y" 0 0 0 0 0 0 ∷
    list "Basic=Interval Interval-type=D Year=Basic" 0 0 0 0 0 0 ∷
    list "Basic=Interval Interval-type=D Time=H" 0 0 0 0 0 0 ∷
    list "Basic=Interval Interval-type=D Local-or-UTC=L" 0 0 0 0 0 0 ∷
    list "Basic=Interval Interval-type=D Date=Y Year=Basic" 0 0 0 0 0 0 ∷
    list "Basic=Interval Interval-type=D Time=H Local-or-UTC=L" 0 0 0 0 0 0 ∷
    []

-- one of the two without the other
alone : List Row
alone =
    list "Basic=Interval" 0 0 0 0 0 0 ∷
    list "Interval-type=D" 0 0 0 0 0 0 ∷
    list "Basic=Date Interval-type=D" 0 0 0 0 0 0 ∷
    list "Basic=Date Date=Y Year=Basic Interval-type=D" 0 0 0 0 0 0 ∷
    list "Basic=Time Time=H Local-or-UTC=L Interval-type=D" 0 0 0 0 0 0 ∷
    list "Basic=Date-Time Date=Y Year=Basic Time=H Local-or-UTC=L Interval-type=D" 0 0 0 0 0 0 ∷
    []

all_right : List Row → Bool
all_right [] = true
all_right (list s b d y t z i ∷ l) =
    eq_list (numbers_in (list_of (bytes s))) (b ∷ d ∷ y ∷ t ∷ z ∷ i ∷ []) && beq (is_some (list_of (bytes s))) (not (eqb b 0)) && all_right l

lists_checked : all_right rows ≡ true
unfolding rows all_right list_of completed complete timed_list dated_list interval_list add_pairs add_pair split_on pair_of fraction_number place_from eq_list
lists_checked = refl

durations_checked : all_right durations ≡ true
unfolding durations all_right list_of completed complete timed_list dated_list interval_list add_pairs add_pair split_on pair_of fraction_number place_from eq_list
durations_checked = refl

alone_checked : all_right alone ≡ true
unfolding alone all_right list_of completed complete timed_list dated_list interval_list add_pairs add_pair split_on pair_of fraction_number place_from eq_list
alone_checked = refl

-- a text and its octets, by their numbers
data TextRow : Type 0 where
  octets : (s : String) (l : List ℕ) → bytes s ≡ l → TextRow

-- The octets of a text are ASCII's: each letter, digit and mark that the names, the properties and the settings have.
quoted : List TextRow
quoted =
    octets "Basic=Date" (66 ∷ 97 ∷ 115 ∷ 105 ∷ 99 ∷ 61 ∷ 68 ∷ 97 ∷ 116 ∷ 101 ∷ []) refl ∷
    octets "Year=Proleptic" (89 ∷ 101 ∷ 97 ∷ 114 ∷ 61 ∷ 80 ∷ 114 ∷ 111 ∷ 108 ∷ 101 ∷ 112 ∷ 116 ∷ 105 ∷ 99 ∷ []) refl ∷
    octets "Year=Negative" (89 ∷ 101 ∷ 97 ∷ 114 ∷ 61 ∷ 78 ∷ 101 ∷ 103 ∷ 97 ∷ 116 ∷ 105 ∷ 118 ∷ 101 ∷ []) refl ∷
    octets "Year=L5" (89 ∷ 101 ∷ 97 ∷ 114 ∷ 61 ∷ 76 ∷ 53 ∷ []) refl ∷
    octets "Time=HMSF9" (84 ∷ 105 ∷ 109 ∷ 101 ∷ 61 ∷ 72 ∷ 77 ∷ 83 ∷ 70 ∷ 57 ∷ []) refl ∷
    octets "Local-or-UTC=Z" (76 ∷ 111 ∷ 99 ∷ 97 ∷ 108 ∷ 45 ∷ 111 ∷ 114 ∷ 45 ∷ 85 ∷ 84 ∷ 67 ∷ 61 ∷ 90 ∷ []) refl ∷
    octets "Date=YWD" (68 ∷ 97 ∷ 116 ∷ 101 ∷ 61 ∷ 89 ∷ 87 ∷ 68 ∷ []) refl ∷
    octets "Interval-type=D" (73 ∷ 110 ∷ 116 ∷ 101 ∷ 114 ∷ 118 ∷ 97 ∷ 108 ∷ 45 ∷ 116 ∷ 121 ∷ 112 ∷ 101 ∷ 61 ∷ 68 ∷ []) refl ∷
    octets "DURATION" (68 ∷ 85 ∷ 82 ∷ 65 ∷ 84 ∷ 73 ∷ 79 ∷ 78 ∷ []) refl ∷
    octets "DATE|TIME-OF-DAY" (68 ∷ 65 ∷ 84 ∷ 69 ∷ 124 ∷ 84 ∷ 73 ∷ 77 ∷ 69 ∷ 45 ∷ 79 ∷ 70 ∷ 45 ∷ 68 ∷ 65 ∷ 89 ∷ []) refl ∷
    octets "0123456789 " (48 ∷ 49 ∷ 50 ∷ 51 ∷ 52 ∷ 53 ∷ 54 ∷ 55 ∷ 56 ∷ 57 ∷ 32 ∷ []) refl ∷
    []
