-- A type's text: the name of a useful time type (34 bis.4), or settings lists with `|` between them.
use Rattle.std.specs.Prelude.{ℕ, ◌/◌, ◌%◌, Bool, true, false, not, ◌&&◌, ◌||◌, cond, List, [], ◌∷◌, Option, map, eqb, leb, length}
use Rattle.std.specs.Option.{is_some}
use Rattle.octets.specs.Octets.{bytes, eq_list}
use Rattle.octets.specs.Pieces.{split_on}
use Rattle.types.specs.Numbers.{date_at, clock_at, zone_at}
use Rattle.types.specs.AnyTypes.{DURATION, limited_to}
use Rattle.types.specs.Types.{listed, unlimited_date, unlimited_time, DATE, TIME-OF-DAY, DATE-TIME, placed}
use Rattle.lists.specs.Lists.{basic_in, date_in, year_in, time_in, zone_in, interval_in, dated_list, timed_list, list_of, most_lists}
use Rattle.texts.specs.declared.forms.TimeForm.{TimeForm}
use Rattle.types.specs.Years.{row_number, row_of_year, year_setting_at, year_number}
use Rattle.types.specs.declared.years.YearRow.{YearRow}
use Rattle.types.specs.declared.years.YearSetting.{YearSetting}
use Rattle.types.specs.declared.years.Years.{Years}
use Rattle.types.specs.declared.types.Parts.{Parts}
use Rattle.types.specs.declared.types.AnyType.{AnyType}
use Rattle.types.specs.declared.types.«Type».{«Type»}
use Rattle.types.specs.declared.types.Limits.{Limits}
use Rattle.types.specs.declared.types.TypeRead.{TypeRead}
use Rattle.lists.specs.declared.lists.Settings.{Settings}

-- The lists of a text, split at its bars.
unfoldable pub lists_of : List ℕ → List (Option Settings)
lists_of l = map list_of (split_on 124 l)

-- "lists that differ only in Year" (#103): whether two have the same settings besides.
unfoldable pub same_but_year : Option Settings → Option Settings → Bool
same_but_year s t =
    eqb (basic_in s) (basic_in t) && eqb (date_in s) (date_in t) && eqb (time_in s) (time_in t) && eqb (zone_in s) (zone_in t)
    && eqb (interval_in s) (interval_in t)

-- The row of a list's Year: "Basic with Proleptic", or Negative with L5 to L9 ("all of one row", #103). A list without a date has no Year.
abbrev pub row_in : Option Settings → YearRow
row_in s = row_of_year (year_setting_at (year_in s))

-- Two lists of one row.
unfoldable pub one_row : Option Settings → Option Settings → Bool
one_row s t = same_but_year s t && eqb (row_number (row_in s)) (row_number (row_in t))

-- "a Year twice in otherwise equal lists" (#103), and two equal lists: the same settings, in whatever order.
unfoldable pub equal_lists : Option Settings → Option Settings → Bool
equal_lists s t = same_but_year s t && eqb (year_in s) (year_in t)

-- Whether all members pass a test.
unfoldable pub all_of : {A : Type 0} → (A → Bool) → List A → Bool
all_of p [] = true
all_of p (x ∷ l) = p x && all_of p l

-- Whether no list comes twice.
unfoldable pub distinct : List (Option Settings) → Bool
distinct [] = true
distinct (s ∷ r) = all_of (λ t. not (equal_lists s t)) r && distinct r

-- A list that can be read, and in which the limits have their place.
unfoldable pub usable : Limits → Option Settings → Bool
usable limits s = is_some s && placed limits (dated_list s) (timed_list s)

-- Whether a number is among others.
unfoldable pub member : ℕ → List ℕ → Bool
member n [] = false
member n (x ∷ l) = eqb x n || member n l

-- The Years that lists of one row name, by their numbers.
unfoldable pub years_of : YearRow → List ℕ → Years
years_of YearRow.Year ys =
    Years.Plain (record { basic = member (year_number YearSetting.Basic) ys; proleptic = member (year_number YearSetting.Proleptic) ys })
years_of YearRow.AnyYear ys =
    Years.Signed (record {
      negative = member (year_number YearSetting.Negative) ys;
      five = member (year_number YearSetting.L5) ys;
      six = member (year_number YearSetting.L6) ys;
      seven = member (year_number YearSetting.L7) ys;
      eight = member (year_number YearSetting.L8) ys;
      nine = member (year_number YearSetting.L9) ys;
    })

-- The form of a time with these settings: of Time, the tens are n and the ones H, HM or HMS.
unfoldable pub time_at : ℕ → ℕ → TimeForm
time_at t z = record { clock = clock_at (t % 10); digits = t / 10; zone = zone_at z }

-- The type of a point's list, with the Years of all lists that share its row: the last one of a date-time.
unfoldable pub point_type : Option Settings → Years → «Type»
point_type s years =
    cond (eqb (basic_in s) 1) (listed (Parts.Date (unlimited_date (date_at (date_in s)) years)))
    (cond (eqb (basic_in s) 2) (listed (Parts.Time (unlimited_time (time_at (time_in s) (zone_in s)))))
    (listed (Parts.DateTime (unlimited_date (date_at (date_in s)) years) (unlimited_time (time_at (time_in s) (zone_in s))))))

-- The type of a list, with the Years of all lists that share its row: a point's where it has a date or a time.
unfoldable pub list_type : Option Settings → Years → AnyType
list_type s years = cond (dated_list s || timed_list s) (AnyType.Point (point_type s years)) AnyType.ListedDuration

-- The type of lists. "1 for more than six lists or a Year twice in otherwise equal lists" (#103), for one that is unreadable and for one in which
-- a limit has no place; "2 for any other difference".
unfoldable pub joined : Limits → List (Option Settings) → TypeRead
joined limits [] = TypeRead.Unreadable
joined limits (s ∷ r) =
    cond (leb (length (s ∷ r)) most_lists && all_of (usable limits) (s ∷ r) && distinct (s ∷ r))
    (cond (all_of (one_row s) r) (limited_to limits (list_type s (years_of (row_in s) (map year_in (s ∷ r))))) TypeRead.NoRow)
    TypeRead.Unreadable

-- The type of a text that names no point's type: DURATION, or what is listed.
abbrev pub type_of_other : Limits → List ℕ → TypeRead
type_of_other limits l = cond (eq_list l (bytes "DURATION")) (limited_to limits DURATION) (joined limits (lists_of l))

-- "A name stands alone; beside a bar it is refusal 1": there it is an unreadable list.
unfoldable pub type_of : Limits → List ℕ → TypeRead
type_of limits l =
    cond (eq_list l (bytes "DATE")) (limited_to limits (AnyType.Point DATE))
    (cond (eq_list l (bytes "TIME-OF-DAY")) (limited_to limits (AnyType.Point TIME-OF-DAY))
    (cond (eq_list l (bytes "DATE-TIME")) (limited_to limits (AnyType.Point DATE-TIME))
    (type_of_other limits l)))
