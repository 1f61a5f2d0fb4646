-- "A list is `Property=Setting` pairs with one space between, in any order, each property at most once (47.10)."
use Rattle.std.specs.Prelude.{ℕ, Bool, true, false, not, ◌&&◌, ◌||◌, cond, List, [], ◌∷◌, Option, Some, None, eqb, get_or, set}
use Rattle.octets.specs.Pieces.{split_on}
use Rattle.lists.specs.Words.{pair_of}
use Rattle.lists.specs.declared.words.Pair.{Pair}
use Rattle.lists.specs.declared.lists.Settings.{Settings}

-- The settings of a list: for each of the six properties the number of its setting, 0 where it is missing.
abbrev pub settings : List ℕ → Option Settings
settings ns = Some (record { numbers = ns })

-- No property has a setting.
abbrev pub none_yet : List ℕ
none_yet = 0 ∷ 0 ∷ 0 ∷ 0 ∷ 0 ∷ 0 ∷ []

-- Any list that is refused: it has no settings.
abbrev pub refused_list : Option Settings
refused_list = None

-- The numbers of a list's settings: of one that is refused all are missing.
abbrev pub numbers_in : Option Settings → List ℕ
numbers_in None = none_yet
numbers_in (Some s) = s.numbers

-- "each property at most once": one pair more, refused where it is none, or where its property has a setting already.
unfoldable pub add_pair : Option Settings → Option Pair → Option Settings
add_pair None p = refused_list
add_pair (Some s) None = refused_list
add_pair (Some s) (Some p) = cond (eqb (get_or s.numbers p.property 0) 0) (settings (set s.numbers p.property p.setting)) refused_list

-- All the pairs that these texts are.
unfoldable pub add_pairs : Option Settings → List (List ℕ) → Option Settings
add_pairs s [] = s
add_pairs s (w ∷ ws) = add_pairs (add_pair s (pair_of w)) ws

-- The number of a list's Basic setting.
abbrev pub basic_in : Option Settings → ℕ
basic_in s = get_or (numbers_in s) 0 0

-- The number of a list's Date setting.
abbrev pub date_in : Option Settings → ℕ
date_in s = get_or (numbers_in s) 1 0

-- The number of a list's Year setting.
abbrev pub year_in : Option Settings → ℕ
year_in s = get_or (numbers_in s) 2 0

-- The number of a list's Time setting.
abbrev pub time_in : Option Settings → ℕ
time_in s = get_or (numbers_in s) 3 0

-- The number of a list's Local-or-UTC setting.
abbrev pub zone_in : Option Settings → ℕ
zone_in s = get_or (numbers_in s) 4 0

-- The number of a list's Interval-type setting.
abbrev pub interval_in : Option Settings → ℕ
interval_in s = get_or (numbers_in s) 5 0

-- A list has a date where its Basic is Date or Date-Time.
unfoldable pub dated_list : Option Settings → Bool
dated_list s = eqb (basic_in s) 1 || eqb (basic_in s) 3

-- A list has a time where its Basic is Time or Date-Time.
unfoldable pub timed_list : Option Settings → Bool
timed_list s = eqb (basic_in s) 2 || eqb (basic_in s) 3

-- A list is of an interval where its Basic is Interval.
unfoldable pub interval_list : Option Settings → Bool
interval_list s = eqb (basic_in s) 4

-- "present exactly when".
abbrev pub present_if : Bool → ℕ → Bool
present_if true n = not (eqb n 0)
present_if false n = eqb n 0

-- Basic "always present"; Date and Year "present exactly when the value has a date"; Time and Local-or-UTC "present exactly when the value has a time";
-- Interval-type exactly where Basic is Interval (X.680 47.10.6, Table 9 ter).
unfoldable pub complete : Option Settings → Bool
complete s =
    not (eqb (basic_in s) 0)
    && present_if (dated_list s) (date_in s)
    && present_if (dated_list s) (year_in s)
    && present_if (timed_list s) (time_in s)
    && present_if (timed_list s) (zone_in s)
    && present_if (interval_list s) (interval_in s)

-- A list with something missing, or out of place, is refused.
unfoldable pub completed : Option Settings → Option Settings
completed s = cond (complete s) s refused_list

-- The list that a text is.
unfoldable pub list_of : List ℕ → Option Settings
list_of l = completed (add_pairs (settings none_yet) (split_on 32 l))

-- "A type may be up to six lists" (#103).
abbrev pub most_lists : ℕ
most_lists = 6
