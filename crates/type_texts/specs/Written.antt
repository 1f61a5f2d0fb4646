-- How a type is written as settings: a list for each Year that it names. Restrictions have no notation.
use Rattle.std.specs.Prelude.{ℕ, ◌+◌, Bool, cond, eqb}
use mathlib.Core.List.{List, [], ◌∷◌, ◌++◌, map, Permᴰ}
use Rattle.octets.specs.Octets.{bytes}
use Rattle.texts.specs.declared.forms.DateForm.{DateForm}
use Rattle.texts.specs.declared.forms.ClockForm.{ClockForm}
use Rattle.texts.specs.declared.forms.ZoneForm.{ZoneForm}
use Rattle.texts.specs.declared.forms.TimeForm.{TimeForm}
use Rattle.types.specs.Types.{listed, parts_of}
use Rattle.types.specs.declared.types.AnyType.{AnyType}
use Rattle.types.specs.Years.{names, year_settings, year_word}
use Rattle.types.specs.declared.years.YearSetting.{YearSetting}
use Rattle.types.specs.declared.years.Years.{Years}
use Rattle.types.specs.declared.types.Parts.{Parts}

-- "`Date`: Y, YM, YMD, YD, YW, YWD."
abbrev pub date_word : DateForm → List ℕ
date_word DateForm.Y = bytes "Date=Y"
date_word DateForm.YM = bytes "Date=YM"
date_word DateForm.YMD = bytes "Date=YMD"
date_word DateForm.YD = bytes "Date=YD"
date_word DateForm.YW = bytes "Date=YW"
date_word DateForm.YWD = bytes "Date=YWD"

-- "`Time`: H, HM, HMS", its fraction aside.
abbrev pub clock_word : ClockForm → List ℕ
clock_word ClockForm.H = bytes "Time=H"
clock_word ClockForm.HM = bytes "Time=HM"
clock_word ClockForm.HMS = bytes "Time=HMS"

-- "`Time`: H, HM, HMS, HFn, HMFn, HMSFn": F and the digit n where there is a fraction.
abbrev pub time_word : ClockForm → ℕ → List ℕ
time_word c n = cond (eqb n 0) (clock_word c) (clock_word c ++ bytes "F" ++ (48 + n) ∷ [])

-- "`Local-or-UTC`: L, Z, LD."
abbrev pub zone_word : ZoneForm → List ℕ
zone_word ZoneForm.L = bytes "Local-or-UTC=L"
zone_word ZoneForm.Z = bytes "Local-or-UTC=Z"
zone_word ZoneForm.LD = bytes "Local-or-UTC=LD"

-- The pairs of a list with a date.
abbrev pub date_pairs : DateForm → YearSetting → List (List ℕ)
date_pairs f y = bytes "Basic=Date" ∷ date_word f ∷ bytes (year_word y) ∷ []

-- The pairs of a list with a time.
abbrev pub time_pairs : TimeForm → List (List ℕ)
time_pairs t = bytes "Basic=Time" ∷ time_word t.clock t.digits ∷ zone_word t.zone ∷ []

-- The pairs of a list with a date and a time.
abbrev pub date_time_pairs : DateForm → TimeForm → YearSetting → List (List ℕ)
date_time_pairs f t y =
    bytes "Basic=Date-Time" ∷ date_word f ∷ bytes (year_word y) ∷ time_word t.clock t.digits ∷ zone_word t.zone ∷ []

-- The pairs of a list of durations.
abbrev pub duration_pairs : List (List ℕ)
duration_pairs = bytes "Basic=Interval" ∷ bytes "Interval-type=D" ∷ []

-- Those that pass a test.
unfoldable pub keep : {A : Type 0} → (A → Bool) → List A → List A
keep p [] = []
keep p (x ∷ l) = cond (p x) (x ∷ keep p l) (keep p l)

-- The Years that a type names.
abbrev pub named_years : Years → List YearSetting
named_years years = keep (names years) year_settings

-- The pairs of each list of a type.
abbrev pub lists_for : Parts → List (List (List ℕ))
lists_for (Parts.Date d) = map (date_pairs d.form) (named_years d.years)
lists_for (Parts.Time t) = time_pairs t.form ∷ []
lists_for (Parts.DateTime d t) = map (date_time_pairs d.form t.form) (named_years d.years)

-- The pairs of each list of a type: of its own settings, or of those that its name stands for.
abbrev pub lists_for_type : AnyType → List (List (List ℕ))
lists_for_type (AnyType.Point t) = lists_for (parts_of t)
lists_for_type AnyType.Duration = duration_pairs ∷ []
lists_for_type AnyType.ListedDuration = duration_pairs ∷ []

-- A type whose settings are listed in place of its name.
abbrev pub listed_type : AnyType → AnyType
listed_type (AnyType.Point t) = AnyType.Point (listed (parts_of t))
listed_type AnyType.Duration = AnyType.ListedDuration
listed_type AnyType.ListedDuration = AnyType.ListedDuration

-- Pieces with the octet c between them.
unfoldable pub join_with : ℕ → List (List ℕ) → List ℕ
join_with c [] = []
join_with c (w ∷ []) = w
join_with c (w ∷ v ∷ ws) = w ++ c ∷ join_with c (v ∷ ws)

-- "pairs with one space between", and lists "with `|` between them".
unfoldable pub type_text : List (List (List ℕ)) → List ℕ
type_text wss = join_with 124 (map (join_with 32) wss)

-- "in any order": the same lists, the pairs of each in an order of its own.
pub data Arranged : List (List (List ℕ)) → List (List (List ℕ)) → Type 0 where
  end : Arranged [] []
  more : {ws vs : List (List ℕ)} {wss vss : List (List (List ℕ))} → Permᴰ ws vs → Arranged wss vss → Arranged (ws ∷ wss) (vs ∷ vss)

-- "up to six lists" (#103), the lists in any order too.
pub record InAnyOrder (wss vss : List (List (List ℕ))) : Type 0 where
  pub lists : List (List (List ℕ))
  pub of_lists : Permᴰ lists vss
  pub of_pairs : Arranged wss lists
