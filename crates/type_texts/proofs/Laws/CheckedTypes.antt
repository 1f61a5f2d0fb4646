-- Checked values of the definitions of types: one table of type texts with their numbers, one of types that select the
-- same rows or not, and one of fraction digits, each closed by computation. The paper gives their rows.
use Rattle.std.specs.Prelude.{None, Some}
use mathlib.Core.Path.{◌≡◌, refl}
use Rattle.calendar.specs.declared.years.Year.{Year}
use mathlib.Core.Bool.{Bool, true, false, beq, ◌&&◌}
use mathlib.Core.List.{List, [], ◌∷◌}
use Prim.Native.Nat.{ℕ}
use Prim.Native.String.{String}
use lib.Dec.{eqb}
use lib.IntN.{pos}
use Rattle.octets.specs.Octets.{bytes, eq_list}
use Rattle.octets.specs.Pieces.{split_on}
use Rattle.calendar.specs.Years.{year_at}
use Rattle.types.specs.Numbers.{date_at, clock_at, zone_at}
use Rattle.types.specs.Years.{year_setting_at}
use Rattle.types.specs.AnyTypes.{fraction_digits, limited_to}
use Rattle.types.specs.Types.{type_number, placed, no_limits}
use Rattle.types.specs.Rows.{same_rows}
use Rattle.lists.specs.Words.{place_from, fraction_number, pair_of}
use Rattle.lists.specs.Lists.{add_pair, add_pairs, dated_list, timed_list, interval_list, complete, completed, list_of}
use Rattle.type_texts.specs.TypeTexts.{lists_of, same_but_year, one_row, equal_lists, all_of, distinct, usable, member, years_of, time_at, list_type}
use Rattle.type_texts.specs.TypeTexts.{point_type, joined, type_of}
use Rattle.types.specs.declared.types.Limits.{Limits}
use Rattle.types.specs.declared.types.TypeRead.{TypeRead}

abbrev pub from2000 : Limits
from2000 = record { window = Some ((year_at (pos 2000)), (year_at (pos 2099))); hour24 = true }

-- a lowest year above the highest
abbrev pub no_years : Limits
no_years = record { window = Some ((year_at (pos 2001)), (year_at (pos 2000))); hour24 = true }

abbrev pub no_hour24 : Limits
no_hour24 = record { window = None; hour24 = false }

abbrev pub both_limits : Limits
both_limits = record { window = Some ((year_at (pos 2000)), (year_at (pos 2099))); hour24 = false }

-- a type's text, its limits, and the number that they give
data TextRow : Type 0 where
  text : String → Limits → ℕ → TextRow

texts : List TextRow
texts =
    -- the names, and settings in any order
    text "DATE" no_limits 0 ∷
    text "TIME-OF-DAY" no_limits 0 ∷
    text "DATE-TIME" no_limits 0 ∷
    text "Basic=Date Date=YMD Year=Basic" no_limits 0 ∷
    text "Year=Proleptic Date=Y Basic=Date" no_limits 0 ∷
    text "Date=YW Basic=Date Year=Negative" no_limits 0 ∷
    text "Basic=Time Time=HF1 Local-or-UTC=L" no_limits 0 ∷
    text "Local-or-UTC=Z Basic=Time Time=HMF9" no_limits 0 ∷
    text "Basic=Time Time=HMSF3 Local-or-UTC=LD" no_limits 0 ∷
    text "Basic=Date-Time Date=YWD Year=L5 Time=HM Local-or-UTC=Z" no_limits 0 ∷
    -- two lists of one row
    text "Basic=Date Date=Y Year=Basic|Basic=Date Date=Y Year=Proleptic" no_limits 0 ∷
    text "Basic=Date Date=YD Year=L5|Year=Negative Date=YD Basic=Date" no_limits 0 ∷
    text "Basic=Date-Time Date=YM Year=Negative Time=HMS Local-or-UTC=LD|Basic=Date-Time Date=YM Year=L5 Time=HMS Local-or-UTC=LD" no_limits 0 ∷
    -- unreadable: empty, a space too many, lower case, unknown
    text "" no_limits 1 ∷
    text "|" no_limits 1 ∷
    text " " no_limits 1 ∷
    text "Basic=Date Date=Y Year=Basic|" no_limits 1 ∷
    text "|Basic=Date Date=Y Year=Basic" no_limits 1 ∷
    text "Basic=Date  Date=Y Year=Basic" no_limits 1 ∷
    text " Basic=Date Date=Y Year=Basic" no_limits 1 ∷
    text "Basic=Date Date=Y Year=Basic " no_limits 1 ∷
    text "Basic=Date Date=Y Year=Basic |Basic=Date Date=Y Year=Proleptic" no_limits 1 ∷
    text "Basic=Date Date=Y Year=Basic| Basic=Date Date=Y Year=Proleptic" no_limits 1 ∷
    text "date" no_limits 1 ∷
    text "basic=Date Date=Y Year=Basic" no_limits 1 ∷
    text "Basic=Date Date=Y Year=Basic Midnight=Start" no_limits 1 ∷
    text "Basic=Date Date=DMY Year=Basic" no_limits 1 ∷
    text "Basic=Time Time=HS Local-or-UTC=L" no_limits 1 ∷
    text "Basic=Time Time=HF Local-or-UTC=L" no_limits 1 ∷
    text "Basic=Time Time=HF0 Local-or-UTC=L" no_limits 1 ∷
    text "Basic=Time Time=HF10 Local-or-UTC=L" no_limits 1 ∷
    text "Basic=Time Time=H3 Local-or-UTC=L" no_limits 1 ∷
    -- not in the base: centuries and intervals
    text "Basic=Date Date=C Year=Basic" no_limits 1 ∷
    text "Basic=Interval Interval-type=D Duration" no_limits 1 ∷
    -- missing, or where it has no place
    text "Date=Y Year=Basic" no_limits 1 ∷
    text "Basic=Date Date=Y" no_limits 1 ∷
    text "Basic=Date Year=Basic" no_limits 1 ∷
    text "Basic=Time Time=H" no_limits 1 ∷
    text "Basic=Time Local-or-UTC=L" no_limits 1 ∷
    text "Basic=Date-Time Date=Y Year=Basic" no_limits 1 ∷
    text "Basic=Date Date=Y Year=Basic Time=H Local-or-UTC=L" no_limits 1 ∷
    text "Basic=Time Date=Y Year=Basic Time=H Local-or-UTC=L" no_limits 1 ∷
    -- repeated: a property, a list, its Year, a list in another order
    text "Basic=Date Date=Y Year=Basic Year=Basic" no_limits 1 ∷
    text "Basic=Date Date=Y Date=YM Year=Basic" no_limits 1 ∷
    text "Basic=Date Date=Y Year=Basic|Basic=Date Date=Y Year=Basic" no_limits 1 ∷
    text "Basic=Date Date=Y Year=Basic|Year=Basic Date=Y Basic=Date" no_limits 1 ∷
    text "Basic=Time Time=H Local-or-UTC=L|Basic=Time Time=H Local-or-UTC=L" no_limits 1 ∷
    text "Basic=Date-Time Date=YMD Year=Basic Time=HMSF3 Local-or-UTC=L|Basic=Date-Time Date=YMD Year=Basic Time=HMSF3 Local-or-UTC=L" no_limits 1 ∷
    text "Basic=Date-Time Date=YMD Year=Basic Time=HMSF3 Local-or-UTC=L|Local-or-UTC=L Time=HMSF3 Year=Basic Date=YMD Basic=Date-Time" no_limits 1 ∷
    -- a name beside a bar
    text "DATE|DATE" no_limits 1 ∷
    text "DATE|TIME-OF-DAY" no_limits 1 ∷
    text "Basic=Date Date=YMD Year=Proleptic|DATE" no_limits 1 ∷
    text "DATE Year=Proleptic" no_limits 1 ∷
    -- two lists of two rows
    text "Basic=Date Date=Y Year=Basic|Basic=Date Date=Y Year=Negative" no_limits 2 ∷
    text "Basic=Date Date=Y Year=L5|Basic=Date Date=Y Year=Proleptic" no_limits 2 ∷
    text "Basic=Date Date=Y Year=Basic|Basic=Date Date=YM Year=Basic" no_limits 2 ∷
    text "Basic=Date Date=Y Year=Basic|Basic=Date Date=YM Year=Proleptic" no_limits 2 ∷
    text "Basic=Time Time=H Local-or-UTC=L|Basic=Time Time=HM Local-or-UTC=L" no_limits 2 ∷
    text "Basic=Time Time=HMSF3 Local-or-UTC=L|Basic=Time Time=HMSF4 Local-or-UTC=L" no_limits 2 ∷
    text "Basic=Time Time=H Local-or-UTC=L|Basic=Time Time=H Local-or-UTC=Z" no_limits 2 ∷
    text "Basic=Date Date=Y Year=Basic|Basic=Time Time=H Local-or-UTC=L" no_limits 2 ∷
    text "Basic=Date Date=Y Year=Basic|Basic=Date-Time Date=Y Year=Proleptic Time=H Local-or-UTC=L" no_limits 2 ∷
    text "Basic=Date-Time Date=Y Year=Basic Time=H Local-or-UTC=L|Basic=Date-Time Date=Y Year=Proleptic Time=H Local-or-UTC=LD" no_limits 2 ∷
    -- date-times with one Year that differ in Date alone, in Time alone, in n alone and in Local-or-UTC alone, and those of two rows' Years
    text "Basic=Date-Time Date=YMD Year=Basic Time=HMSF3 Local-or-UTC=L|Basic=Date-Time Date=YD Year=Basic Time=HMSF3 Local-or-UTC=L" no_limits 2 ∷
    text "Basic=Date-Time Date=YMD Year=Basic Time=HMSF3 Local-or-UTC=L|Basic=Date-Time Date=YMD Year=Basic Time=HMF3 Local-or-UTC=L" no_limits 2 ∷
    text "Basic=Date-Time Date=YMD Year=Basic Time=HMSF3 Local-or-UTC=L|Basic=Date-Time Date=YMD Year=Basic Time=HMS Local-or-UTC=L" no_limits 2 ∷
    text "Basic=Date-Time Date=YMD Year=Basic Time=HMSF3 Local-or-UTC=L|Basic=Date-Time Date=YMD Year=Basic Time=HMSF4 Local-or-UTC=L" no_limits 2 ∷
    text "Basic=Date-Time Date=YMD Year=Basic Time=HMSF3 Local-or-UTC=L|Basic=Date-Time Date=YMD Year=Basic Time=HMSF3 Local-or-UTC=Z" no_limits 2 ∷
    text "Basic=Date-Time Date=YMD Year=Basic Time=HMSF3 Local-or-UTC=L|Basic=Date-Time Date=YMD Year=Negative Time=HMSF3 Local-or-UTC=L" no_limits 2 ∷
    text "Basic=Date-Time Date=YMD Year=L5 Time=HMSF3 Local-or-UTC=L|Basic=Date-Time Date=YMD Year=Proleptic Time=HMSF3 Local-or-UTC=L" no_limits 2 ∷
    -- a date or a time beside both, with one Year
    text "Basic=Time Time=HMSF3 Local-or-UTC=L|Basic=Date-Time Date=YMD Year=Basic Time=HMSF3 Local-or-UTC=L" no_limits 2 ∷
    text "Basic=Date Date=YMD Year=Basic|Basic=Date-Time Date=YMD Year=Basic Time=HMSF3 Local-or-UTC=L" no_limits 2 ∷
    -- 1 before 2
    text "Basic=Date Date=Y Year=Basic|Basic=Time Time=H" no_limits 1 ∷
    text "Basic=Date Date=Y Year=Basic|Basic=Date Date=YM Year=L5|Basic=Time Time=H" no_limits 1 ∷
    -- restrictions, with their place and without it, and before 2
    text "DATE" from2000 0 ∷
    text "DATE" no_hour24 1 ∷
    text "DATE" both_limits 1 ∷
    text "TIME-OF-DAY" from2000 1 ∷
    text "TIME-OF-DAY" no_hour24 0 ∷
    text "DATE-TIME" both_limits 0 ∷
    text "DATE" no_years 0 ∷
    text "Basic=Date Date=Y Year=Basic|Basic=Date Date=Y Year=Proleptic" from2000 0 ∷
    text "Basic=Time Time=H Local-or-UTC=L" from2000 1 ∷
    text "Basic=Date Date=Y Year=L5" no_hour24 1 ∷
    text "Basic=Date Date=Y Year=Basic|Basic=Time Time=H Local-or-UTC=L" from2000 1 ∷
    text "Basic=Time Time=H Local-or-UTC=L|Basic=Date Date=Y Year=Basic" no_hour24 1 ∷
    text "Basic=Date-Time Date=YMD Year=Basic Time=HMSF3 Local-or-UTC=L|Basic=Date Date=YMD Year=Basic" no_hour24 1 ∷
    text "Basic=Date-Time Date=YMD Year=Basic Time=HMSF3 Local-or-UTC=L|Basic=Time Time=HMSF3 Local-or-UTC=L" from2000 1 ∷
    text "Basic=Date Date=YMD Year=Basic|Basic=Time Time=HMSF3 Local-or-UTC=L" both_limits 1 ∷
    text "Basic=Date Date=Y Year=Basic|Basic=Date Date=YM Year=Basic" from2000 2 ∷
    -- "`Year=L6` to `L9`" (#103), and the words nearest to them
    text "Basic=Date Date=Y Year=L6" no_limits 0 ∷
    text "Basic=Date Date=Y Year=L7" no_limits 0 ∷
    text "Basic=Date Date=Y Year=L8" no_limits 0 ∷
    text "Basic=Date Date=Y Year=L9" no_limits 0 ∷
    text "Basic=Date-Time Date=YWD Year=L9 Time=HMSF9 Local-or-UTC=LD" no_limits 0 ∷
    text "Basic=Date Date=Y Year=L4" no_limits 1 ∷
    text "Basic=Date Date=Y Year=L10" no_limits 1 ∷
    text "Basic=Date Date=Y Year=L05" no_limits 1 ∷
    text "Basic=Date Date=Y Year=L66" no_limits 1 ∷
    text "Basic=Date Date=Y Year=L" no_limits 1 ∷
    text "Basic=Date Date=Y Year=L6L" no_limits 1 ∷
    text "Basic=Date Date=Y Year=l6" no_limits 1 ∷
    text "Basic=Date Date=Y Year=LL6" no_limits 1 ∷
    text "Basic=Date Date=Y Year=L 6" no_limits 1 ∷
    text "Basic=Date Date=Y Year=6" no_limits 1 ∷
    text "Basic=Date Date=Y Year=-6" no_limits 1 ∷
    text "Basic=Date Date=Y Year=N6" no_limits 1 ∷
    -- "up to six lists that differ only in Year, all of one row", in any order of lists and pairs
    text "Basic=Date Date=Y Year=Negative|Basic=Date Date=Y Year=L9" no_limits 0 ∷
    text "Basic=Date Date=Y Year=L9|Basic=Date Date=Y Year=Negative" no_limits 0 ∷
    text "Basic=Date Date=Y Year=L6|Basic=Date Date=Y Year=L7" no_limits 0 ∷
    text "Basic=Date Date=Y Year=L8|Basic=Date Date=Y Year=L5" no_limits 0 ∷
    text "Basic=Date Date=Y Year=L7|Year=Negative Date=Y Basic=Date|Basic=Date Date=Y Year=L5" no_limits 0 ∷
    text "Basic=Date Date=Y Year=L6|Basic=Date Date=Y Year=L9|Basic=Date Date=Y Year=L5|Basic=Date Date=Y Year=L7" no_limits 0 ∷
    text "Basic=Date Date=Y Year=L9|Basic=Date Date=Y Year=L8|Basic=Date Date=Y Year=L7|Basic=Date Date=Y Year=L6|Basic=Date Date=Y Year=L5" no_limits 0 ∷
    text "Basic=Date Date=Y Year=Negative|Basic=Date Date=Y Year=L5|Basic=Date Date=Y Year=L6|Basic=Date Date=Y Year=L7|Basic=Date Date=Y Year=L8|Basic=Date Date=Y Year=L9"
    no_limits 0 ∷
    text "Basic=Date Date=Y Year=L9|Basic=Date Date=Y Year=L8|Basic=Date Date=Y Year=L7|Basic=Date Date=Y Year=L6|Basic=Date Date=Y Year=L5|Basic=Date Date=Y Year=Negative"
    no_limits 0 ∷
    text "Basic=Date Date=Y Year=L8|Date=Y Year=L5 Basic=Date|Basic=Date Date=Y Year=Negative|Basic=Date Date=Y Year=L9|Basic=Date Date=Y Year=L6|Year=L7 Basic=Date Date=Y"
    no_limits 0 ∷
    text "Basic=Date-Time Date=YD Year=Negative Time=HMSF3 Local-or-UTC=Z|Basic=Date-Time Date=YD Year=L5 Time=HMSF3 Local-or-UTC=Z|Basic=Date-Time Date=YD Year=L6 Time=HMSF3 Local-or-UTC=Z|Basic=Date-Time Date=YD Year=L7 Time=HMSF3 Local-or-UTC=Z|Basic=Date-Time Date=YD Year=L8 Time=HMSF3 Local-or-UTC=Z|Basic=Date-Time Date=YD Year=L9 Time=HMSF3 Local-or-UTC=Z"
    both_limits 0 ∷
    text "Basic=Date Date=Y Year=Negative|Basic=Date Date=Y Year=L5|Basic=Date Date=Y Year=L6|Basic=Date Date=Y Year=L7|Basic=Date Date=Y Year=L8|Basic=Date Date=Y Year=L9"
    from2000 0 ∷
    -- "more than six lists", whatever the seventh: of another row, a repeat, unreadable, empty
    text "Basic=Date Date=Y Year=Negative|Basic=Date Date=Y Year=L5|Basic=Date Date=Y Year=L6|Basic=Date Date=Y Year=L7|Basic=Date Date=Y Year=L8|Basic=Date Date=Y Year=L9|Basic=Date Date=Y Year=Basic"
    no_limits 1 ∷
    text "Basic=Date Date=Y Year=Negative|Basic=Date Date=Y Year=L5|Basic=Date Date=Y Year=L6|Basic=Date Date=Y Year=L7|Basic=Date Date=Y Year=L8|Basic=Date Date=Y Year=L9|Basic=Date Date=Y Year=L6"
    no_limits 1 ∷
    text "Basic=Date Date=Y Year=Negative|Basic=Date Date=Y Year=L5|Basic=Date Date=Y Year=L6|Basic=Date Date=Y Year=L7|Basic=Date Date=Y Year=L8|Basic=Date Date=Y Year=L9|Basic=Date Date=Y Year=L10"
    no_limits 1 ∷
    text "Basic=Date Date=Y Year=Negative|Basic=Date Date=Y Year=L5|Basic=Date Date=Y Year=L6|Basic=Date Date=Y Year=L7|Basic=Date Date=Y Year=L8|Basic=Date Date=Y Year=L9|"
    no_limits 1 ∷
    text "Basic=Date Date=Y Year=Negative|Basic=Date Date=Y Year=L5|Basic=Date Date=Y Year=L6|Basic=Date Date=Y Year=L7|Basic=Date Date=Y Year=L8|Basic=Date Date=Y Year=L9|Basic=Date Date=YM Year=L9"
    no_limits 1 ∷
    text "Basic=Date Date=Y Year=Negative|Basic=Date Date=Y Year=L5|Basic=Date Date=Y Year=L6|Basic=Date Date=Y Year=L7|Basic=Date Date=Y Year=L8|Basic=Date Date=Y Year=L9|DATE"
    no_limits 1 ∷
    text "Basic=Date Date=Y Year=Basic|Basic=Date Date=Y Year=Negative|Basic=Date Date=Y Year=L5|Basic=Date Date=Y Year=L6|Basic=Date Date=Y Year=L7|Basic=Date Date=Y Year=L8|Basic=Date Date=Y Year=L9"
    no_limits 1 ∷
    text "Basic=Date Date=Y Year=Negative|Basic=Date Date=Y Year=L5|Basic=Date Date=Y Year=L6|Basic=Date Date=Y Year=L7|Basic=Date Date=Y Year=L8|Basic=Date Date=Y Year=L9|Basic=Date Date=Y Year=Basic|Basic=Date Date=Y Year=Proleptic"
    no_limits 1 ∷
    -- "a Year twice in otherwise equal lists": every two lists are compared, and before any other difference
    text "Basic=Date Date=Y Year=L6|Basic=Date Date=Y Year=L7|Basic=Date Date=Y Year=L7" no_limits 1 ∷
    text "Basic=Date Date=Y Year=L6|Basic=Date Date=Y Year=L7|Basic=Date Date=Y Year=L6" no_limits 1 ∷
    text "Basic=Date Date=Y Year=L6|Basic=Date Date=Y Year=L6|Basic=Date Date=Y Year=L7" no_limits 1 ∷
    text "Basic=Date Date=Y Year=Basic|Basic=Date Date=Y Year=Proleptic|Basic=Date Date=Y Year=Basic" no_limits 1 ∷
    text "Basic=Date Date=Y Year=Basic|Basic=Date Date=Y Year=L9|Basic=Date Date=Y Year=L9" no_limits 1 ∷
    text "Basic=Date Date=Y Year=Basic|Basic=Date Date=YM Year=L9|Basic=Date Date=YM Year=L9" no_limits 1 ∷
    text "Basic=Date Date=Y Year=Basic|Basic=Date Date=YM Year=L9|Basic=Date Date=Y Year=Basic" no_limits 1 ∷
    text "Basic=Date Date=Y Year=Basic|Basic=Date Date=YM Year=L9|Basic=Date Date=Y Year=Basic|Basic=Date Date=YM Year=L9" no_limits 1 ∷
    text "Basic=Date Date=Y Year=L5|Basic=Date Date=Y Year=L6|Basic=Date Date=Y Year=L7|Basic=Date Date=Y Year=L8|Basic=Date Date=Y Year=L9|Basic=Date Date=Y Year=L5"
    no_limits 1 ∷
    text "Basic=Time Time=H Local-or-UTC=L|Basic=Date Date=Y Year=L5|Basic=Time Time=H Local-or-UTC=L" no_limits 1 ∷
    -- "2 for any other difference"
    text "Basic=Date Date=Y Year=L5|Basic=Date Date=Y Year=L6|Basic=Date Date=Y Year=Basic" no_limits 2 ∷
    text "Basic=Date Date=Y Year=Basic|Basic=Date Date=Y Year=Proleptic|Basic=Date Date=Y Year=L9" no_limits 2 ∷
    text "Basic=Date Date=Y Year=Basic|Basic=Date Date=Y Year=Proleptic|Basic=Date Date=Y Year=Negative" no_limits 2 ∷
    text "Basic=Date Date=Y Year=Proleptic|Basic=Date Date=Y Year=L6" no_limits 2 ∷
    text "Basic=Date Date=Y Year=L9|Basic=Date Date=Y Year=Basic" no_limits 2 ∷
    text "Basic=Date Date=Y Year=L6|Basic=Date Date=Y Year=L7|Basic=Date Date=YM Year=L6" no_limits 2 ∷
    text "Basic=Date Date=Y Year=L6|Basic=Date Date=YM Year=L6" no_limits 2 ∷
    text "Basic=Date Date=Y Year=L6|Basic=Date Date=YM Year=L7" no_limits 2 ∷
    text "Basic=Date Date=Y Year=Negative|Basic=Date Date=Y Year=L5|Basic=Date Date=Y Year=L6|Basic=Date Date=Y Year=L7|Basic=Date Date=Y Year=L8|Basic=Date Date=Y Year=Basic"
    no_limits 2 ∷
    text "Basic=Date Date=Y Year=Basic|Basic=Date Date=YM Year=Basic|Basic=Date Date=YD Year=Basic" no_limits 2 ∷
    text "Basic=Date Date=Y Year=L5|Basic=Date-Time Date=Y Year=L6 Time=H Local-or-UTC=L" no_limits 2 ∷
    text "Basic=Date Date=Y Year=L5|Basic=Date Date=Y Year=L6|Basic=Time Time=H Local-or-UTC=L" no_limits 2 ∷
    text "Basic=Time Time=H Local-or-UTC=L|Basic=Time Time=HM Local-or-UTC=L|Basic=Time Time=HMS Local-or-UTC=L" no_limits 2 ∷
    -- a limit out of place in any list, and an unreadable list, before it
    text "Basic=Date Date=Y Year=L5|Basic=Date Date=Y Year=L6|Basic=Time Time=H Local-or-UTC=L" from2000 1 ∷
    text "Basic=Date Date=Y Year=L5|Basic=Date Date=Y Year=L6|Basic=Time Time=H Local-or-UTC=L" no_hour24 1 ∷
    text "Basic=Time Time=H Local-or-UTC=L|Basic=Time Time=HM Local-or-UTC=L|Basic=Date Date=Y Year=L5" no_hour24 1 ∷
    text "Basic=Date Date=Y Year=L5|Basic=Date Date=Y Year=Basic|Basic=Date Date=Y Year=L10" no_limits 1 ∷
    text "Basic=Date Date=Y Year=L5|Basic=Date Date=Y Year=Basic|" no_limits 1 ∷
    text "Basic=Date Date=Y Year=L5|Basic=Date Date=Y Year=L6|Basic=Date Date=Y Year=Basic" from2000 2 ∷
    -- durations: the name, and the settings in either order
    text "DURATION" no_limits 0 ∷
    text "Basic=Interval Interval-type=D" no_limits 0 ∷
    text "Interval-type=D Basic=Interval" no_limits 0 ∷
    -- one of the two settings missing, twice, or with another that has no place
    text "Basic=Interval" no_limits 1 ∷
    text "Interval-type=D" no_limits 1 ∷
    text "Basic=Interval Interval-type=D Interval-type=D" no_limits 1 ∷
    text "Basic=Interval Basic=Interval Interval-type=D" no_limits 1 ∷
    text "Basic=Interval Interval-type=D Date=Y" no_limits 1 ∷
    text "Basic=Interval Interval-type=D Year=Basic" no_limits 1 ∷
    text "Basic=Interval Interval-type=D Time=H" no_limits 1 ∷
    text "Basic=Interval Interval-type=D Local-or-UTC=L" no_limits 1 ∷
    text "Basic=Interval Interval-type=D Date=Y Year=Basic" no_limits 1 ∷
    text "Basic=Interval Interval-type=D Time=H Local-or-UTC=L" no_limits 1 ∷
    text "Basic=Date Date=Y Year=Basic Interval-type=D" no_limits 1 ∷
    text "Basic=Time Time=H Local-or-UTC=L Interval-type=D" no_limits 1 ∷
    text "Basic=Date-Time Date=Y Year=Basic Time=H Local-or-UTC=L Interval-type=D" no_limits 1 ∷
    text "Basic=Date Interval-type=D" no_limits 1 ∷
    text "Basic=Time Interval-type=D" no_limits 1 ∷
    text "Basic=Date-Time Interval-type=D" no_limits 1 ∷
    -- other intervals, and the words nearest to these
    text "Basic=Interval Interval-type=SE" no_limits 1 ∷
    text "Basic=Interval Interval-type=SD" no_limits 1 ∷
    text "Basic=Interval Interval-type=DE" no_limits 1 ∷
    text "Basic=Interval Interval-type=SE SE-point=Date Date=Y Year=Basic" no_limits 1 ∷
    text "Basic=Rec-Interval Interval-type=D" no_limits 1 ∷
    text "Basic=interval Interval-type=D" no_limits 1 ∷
    text "Basic=Interval interval-type=D" no_limits 1 ∷
    text "Basic=Interval Interval-type=d" no_limits 1 ∷
    text "Basic=Interval Interval-type=" no_limits 1 ∷
    text "Basic=Interval  Interval-type=D" no_limits 1 ∷
    text "Basic=Interval,Interval-type=D" no_limits 1 ∷
    text " Basic=Interval Interval-type=D" no_limits 1 ∷
    text "Basic=Interval Interval-type=D " no_limits 1 ∷
    text "Duration" no_limits 1 ∷
    text "duration" no_limits 1 ∷
    text "DURATION " no_limits 1 ∷
    text " DURATION" no_limits 1 ∷
    text "DURATIONS" no_limits 1 ∷
    text "DURATION Interval-type=D" no_limits 1 ∷
    -- two lists of durations, and the name beside a bar
    text "Basic=Interval Interval-type=D|Basic=Interval Interval-type=D" no_limits 1 ∷
    text "Basic=Interval Interval-type=D|Interval-type=D Basic=Interval" no_limits 1 ∷
    text "Interval-type=D Basic=Interval|Basic=Interval Interval-type=D" no_limits 1 ∷
    text "Interval-type=D Basic=Interval|Interval-type=D Basic=Interval" no_limits 1 ∷
    text "DURATION|DURATION" no_limits 1 ∷
    text "DURATION|Basic=Interval Interval-type=D" no_limits 1 ∷
    text "Basic=Interval Interval-type=D|DURATION" no_limits 1 ∷
    text "DURATION|Basic=Date Date=Y Year=Basic" no_limits 1 ∷
    text "DATE|Basic=Interval Interval-type=D" no_limits 1 ∷
    text "DATE|DURATION" no_limits 1 ∷
    text "DURATION|" no_limits 1 ∷
    text "|DURATION" no_limits 1 ∷
    text "Basic=Interval Interval-type=D|" no_limits 1 ∷
    text "|Basic=Interval Interval-type=D" no_limits 1 ∷
    text "Basic=Interval Interval-type=D|Basic=Interval Interval-type=D|Basic=Interval Interval-type=D" no_limits 1 ∷
    -- a list of durations beside one of points, which is 2, and 1 where something else is wrong
    text "Basic=Interval Interval-type=D|Basic=Date Date=Y Year=Basic" no_limits 2 ∷
    text "Basic=Date Date=Y Year=Basic|Basic=Interval Interval-type=D" no_limits 2 ∷
    text "Basic=Interval Interval-type=D|Basic=Time Time=H Local-or-UTC=L" no_limits 2 ∷
    text "Basic=Time Time=H Local-or-UTC=L|Basic=Interval Interval-type=D" no_limits 2 ∷
    text "Basic=Interval Interval-type=D|Basic=Date-Time Date=Y Year=Basic Time=H Local-or-UTC=L" no_limits 2 ∷
    text "Basic=Date-Time Date=Y Year=Basic Time=H Local-or-UTC=L|Basic=Interval Interval-type=D" no_limits 2 ∷
    text "Interval-type=D Basic=Interval|Basic=Date Date=Y Year=Basic" no_limits 2 ∷
    text "Basic=Interval Interval-type=D|Basic=Date Date=Y" no_limits 1 ∷
    text "Basic=Date Date=Y|Basic=Interval Interval-type=D" no_limits 1 ∷
    text "Basic=Interval Interval-type=D|Basic=Time Time=H" no_limits 1 ∷
    text "Basic=Time Time=H|Basic=Interval Interval-type=D" no_limits 1 ∷
    text "Basic=Interval Interval-type=D|Basic=Interval" no_limits 1 ∷
    text "Basic=Interval|Basic=Interval Interval-type=D" no_limits 1 ∷
    text "Basic=Interval Interval-type=D|Basic=Date Date=Y Year=Basic|Basic=Time Time=H Local-or-UTC=L" no_limits 2 ∷
    text "Basic=Interval Interval-type=D|Basic=Date Date=Y Year=Basic" from2000 1 ∷
    text "Basic=Date Date=Y Year=Basic|Basic=Interval Interval-type=D" from2000 1 ∷
    text "Basic=Interval Interval-type=D|Basic=Time Time=H Local-or-UTC=L" from2000 1 ∷
    text "Basic=Time Time=H Local-or-UTC=L|Basic=Interval Interval-type=D" from2000 1 ∷
    text "Basic=Interval Interval-type=D|Basic=Date-Time Date=Y Year=Basic Time=H Local-or-UTC=L" from2000 1 ∷
    text "Basic=Date-Time Date=Y Year=Basic Time=H Local-or-UTC=L|Basic=Interval Interval-type=D" from2000 1 ∷
    text "Basic=Interval Interval-type=D|Basic=Date Date=Y Year=Basic" no_hour24 1 ∷
    text "Basic=Date Date=Y Year=Basic|Basic=Interval Interval-type=D" no_hour24 1 ∷
    text "Basic=Interval Interval-type=D|Basic=Time Time=H Local-or-UTC=L" no_hour24 1 ∷
    text "Basic=Time Time=H Local-or-UTC=L|Basic=Interval Interval-type=D" no_hour24 1 ∷
    text "Basic=Interval Interval-type=D|Basic=Date-Time Date=Y Year=Basic Time=H Local-or-UTC=L" no_hour24 1 ∷
    text "Basic=Date-Time Date=Y Year=Basic Time=H Local-or-UTC=L|Basic=Interval Interval-type=D" no_hour24 1 ∷
    text "Basic=Interval Interval-type=D|Basic=Date Date=Y Year=Basic" both_limits 1 ∷
    text "Basic=Date Date=Y Year=Basic|Basic=Interval Interval-type=D" both_limits 1 ∷
    text "Basic=Interval Interval-type=D|Basic=Time Time=H Local-or-UTC=L" both_limits 1 ∷
    text "Basic=Time Time=H Local-or-UTC=L|Basic=Interval Interval-type=D" both_limits 1 ∷
    text "Basic=Interval Interval-type=D|Basic=Date-Time Date=Y Year=Basic Time=H Local-or-UTC=L" both_limits 1 ∷
    text "Basic=Date-Time Date=Y Year=Basic Time=H Local-or-UTC=L|Basic=Interval Interval-type=D" both_limits 1 ∷
    text "Basic=Interval Interval-type=D|Basic=Date Date=Y Year=Basic" no_years 1 ∷
    text "Basic=Date Date=Y Year=Basic|Basic=Interval Interval-type=D" no_years 1 ∷
    text "Basic=Interval Interval-type=D|Basic=Time Time=H Local-or-UTC=L" no_years 1 ∷
    text "Basic=Time Time=H Local-or-UTC=L|Basic=Interval Interval-type=D" no_years 1 ∷
    text "Basic=Interval Interval-type=D|Basic=Date-Time Date=Y Year=Basic Time=H Local-or-UTC=L" no_years 1 ∷
    text "Basic=Date-Time Date=Y Year=Basic Time=H Local-or-UTC=L|Basic=Interval Interval-type=D" no_years 1 ∷
    -- restrictions, which have no place at a duration
    text "DURATION" from2000 1 ∷
    text "Basic=Interval Interval-type=D" from2000 1 ∷
    text "Interval-type=D Basic=Interval" from2000 1 ∷
    text "DURATION" no_years 1 ∷
    text "Basic=Interval Interval-type=D" no_years 1 ∷
    text "Interval-type=D Basic=Interval" no_years 1 ∷
    text "DURATION" no_hour24 1 ∷
    text "Basic=Interval Interval-type=D" no_hour24 1 ∷
    text "Interval-type=D Basic=Interval" no_hour24 1 ∷
    text "DURATION" both_limits 1 ∷
    text "Basic=Interval Interval-type=D" both_limits 1 ∷
    text "Interval-type=D Basic=Interval" both_limits 1 ∷
    []

texts_right : List TextRow → Bool
texts_right [] = true
texts_right (text s limits number ∷ l) = eqb (type_number (type_of limits (bytes s))) number && texts_right l

texts_checked : texts_right texts ≡ true
unfolding texts texts_right type_of joined list_type point_type time_at years_of member usable distinct all_of equal_lists one_row same_but_year lists_of list_of
    completed complete timed_list dated_list interval_list add_pairs add_pair split_on pair_of fraction_number place_from limited_to placed zone_at clock_at date_at year_setting_at eq_list
texts_checked = refl

-- two types, with limits or without, and whether they select the same rows
data PairRow : Type 0 where
  pair : String → String → Bool → PairRow
  limited : String → Limits → String → Limits → Bool → PairRow

pairs : List PairRow
pairs =
    pair "DATE" "Basic=Date Date=YMD Year=Basic" true ∷
    pair "DATE" "Basic=Date Date=YMD Year=Proleptic" true ∷
    pair "DATE" "Basic=Date Date=YMD Year=Basic|Basic=Date Date=YMD Year=Proleptic" true ∷
    pair "DATE" "Basic=Date Date=YMD Year=L5" false ∷
    pair "Basic=Date Date=Y Year=Negative" "Basic=Date Date=Y Year=L5" true ∷
    pair "Basic=Date Date=Y Year=Negative|Basic=Date Date=Y Year=L5" "Basic=Date Date=Y Year=Proleptic" false ∷
    pair "DATE" "Basic=Date Date=YD Year=Basic" false ∷
    -- all Years with a sign are of one row (#103)
    pair "Basic=Date Date=Y Year=Negative" "Basic=Date Date=Y Year=L5" true ∷
    pair "Basic=Date Date=Y Year=Negative" "Basic=Date Date=Y Year=Proleptic" false ∷
    pair "Basic=Date Date=Y Year=L5" "Basic=Date Date=Y Year=L6" true ∷
    pair "Basic=Date Date=Y Year=L5" "Basic=Date Date=Y Year=Proleptic" false ∷
    pair "Basic=Date Date=Y Year=L6" "Basic=Date Date=Y Year=L7" true ∷
    pair "Basic=Date Date=Y Year=L6" "Basic=Date Date=Y Year=Proleptic" false ∷
    pair "Basic=Date Date=Y Year=L7" "Basic=Date Date=Y Year=L8" true ∷
    pair "Basic=Date Date=Y Year=L7" "Basic=Date Date=Y Year=Proleptic" false ∷
    pair "Basic=Date Date=Y Year=L8" "Basic=Date Date=Y Year=L9" true ∷
    pair "Basic=Date Date=Y Year=L8" "Basic=Date Date=Y Year=Proleptic" false ∷
    pair "Basic=Date Date=Y Year=L9" "Basic=Date Date=Y Year=Negative" true ∷
    pair "Basic=Date Date=Y Year=L9" "Basic=Date Date=Y Year=Proleptic" false ∷
    pair "Basic=Date Date=Y Year=Negative|Basic=Date Date=Y Year=L5|Basic=Date Date=Y Year=L6|Basic=Date Date=Y Year=L7|Basic=Date Date=Y Year=L8|Basic=Date Date=Y Year=L9"
    "Basic=Date Date=Y Year=L7" true ∷
    pair "Basic=Date Date=Y Year=Negative" "Basic=Date Date=Y Year=L9|Basic=Date Date=Y Year=L6|Basic=Date Date=Y Year=L8" true ∷
    pair "Basic=Date Date=Y Year=Negative|Basic=Date Date=Y Year=L5|Basic=Date Date=Y Year=L6|Basic=Date Date=Y Year=L7|Basic=Date Date=Y Year=L8|Basic=Date Date=Y Year=L9"
    "Basic=Date Date=Y Year=Basic|Basic=Date Date=Y Year=Proleptic" false ∷
    pair "Basic=Date Date=Y Year=Negative|Basic=Date Date=Y Year=L5|Basic=Date Date=Y Year=L6|Basic=Date Date=Y Year=L7|Basic=Date Date=Y Year=L8|Basic=Date Date=Y Year=L9"
    "Basic=Date Date=YM Year=L7" false ∷
    pair "DATE" "Basic=Date Date=YMD Year=L9" false ∷
    pair "TIME-OF-DAY" "Basic=Time Time=HMS Local-or-UTC=L" true ∷
    pair "Basic=Time Time=HMSF3 Local-or-UTC=L" "Basic=Time Time=HMSF5 Local-or-UTC=L" true ∷
    pair "TIME-OF-DAY" "Basic=Time Time=HMSF3 Local-or-UTC=L" false ∷
    pair "Basic=Time Time=HF1 Local-or-UTC=L" "Basic=Time Time=HMF1 Local-or-UTC=L" false ∷
    pair "TIME-OF-DAY" "Basic=Time Time=HMS Local-or-UTC=Z" false ∷
    pair "Basic=Time Time=H Local-or-UTC=LD" "Basic=Time Time=H Local-or-UTC=L" false ∷
    pair "DATE" "TIME-OF-DAY" false ∷
    pair "DATE" "DATE-TIME" false ∷
    pair "TIME-OF-DAY" "DATE-TIME" false ∷
    pair "DATE-TIME" "Basic=Date-Time Date=YMD Year=Proleptic Time=HMS Local-or-UTC=L" true ∷
    pair "DATE-TIME" "Basic=Date-Time Date=YMD Year=Negative Time=HMS Local-or-UTC=L" false ∷
    pair "Basic=Date-Time Date=YW Year=L5 Time=HMF2 Local-or-UTC=LD" "Basic=Date-Time Date=YW Year=L5 Time=HMF9 Local-or-UTC=LD" true ∷
    pair "Basic=Date-Time Date=YW Year=L5 Time=HMF2 Local-or-UTC=LD" "Basic=Date-Time Date=YWD Year=L5 Time=HMF2 Local-or-UTC=LD" false ∷
    pair "Basic=Date-Time Date=YW Year=L5 Time=HMF2 Local-or-UTC=LD" "Basic=Date-Time Date=YW Year=L5 Time=HMF2 Local-or-UTC=Z" false ∷
    -- "restrictions don't count"
    limited "DATE" from2000 "Basic=Date Date=YMD Year=Basic" no_limits true ∷
    limited "DATE" no_limits "DATE" no_years true ∷
    limited "Basic=Date Date=Y Year=Negative" no_years "Basic=Date Date=Y Year=L5" from2000 true ∷
    limited "TIME-OF-DAY" no_hour24 "TIME-OF-DAY" no_limits true ∷
    limited "Basic=Time Time=HF1 Local-or-UTC=Z" no_limits "Basic=Time Time=HF2 Local-or-UTC=Z" no_hour24 true ∷
    limited "DATE-TIME" both_limits "DATE-TIME" no_hour24 true ∷
    limited "DATE" from2000 "Basic=Date Date=YMD Year=L5" from2000 false ∷
    limited "TIME-OF-DAY" no_hour24 "Basic=Time Time=HM Local-or-UTC=L" no_hour24 false ∷
    limited "DATE" from2000 "DATE-TIME" from2000 false ∷
    -- "with row 37 as one row" (#101)
    pair "DURATION" "DURATION" true ∷
    pair "DURATION" "Basic=Interval Interval-type=D" true ∷
    pair "Basic=Interval Interval-type=D" "DURATION" true ∷
    pair "Basic=Interval Interval-type=D" "Basic=Interval Interval-type=D" true ∷
    pair "Basic=Interval Interval-type=D" "Interval-type=D Basic=Interval" true ∷
    pair "DURATION" "Interval-type=D Basic=Interval" true ∷
    pair "DURATION" "DATE" false ∷
    pair "DATE" "DURATION" false ∷
    pair "DURATION" "TIME-OF-DAY" false ∷
    pair "TIME-OF-DAY" "DURATION" false ∷
    pair "DURATION" "DATE-TIME" false ∷
    pair "DATE-TIME" "DURATION" false ∷
    pair "DURATION" "Basic=Date Date=Y Year=Basic" false ∷
    pair "Basic=Date Date=Y Year=Basic" "DURATION" false ∷
    pair "DURATION" "Basic=Time Time=H Local-or-UTC=L" false ∷
    pair "Basic=Time Time=H Local-or-UTC=L" "DURATION" false ∷
    pair "DURATION" "Basic=Date-Time Date=Y Year=Basic Time=H Local-or-UTC=L" false ∷
    pair "Basic=Date-Time Date=Y Year=Basic Time=H Local-or-UTC=L" "DURATION" false ∷
    pair "Basic=Interval Interval-type=D" "DATE" false ∷
    pair "DATE" "Basic=Interval Interval-type=D" false ∷
    pair "Basic=Interval Interval-type=D" "TIME-OF-DAY" false ∷
    pair "TIME-OF-DAY" "Basic=Interval Interval-type=D" false ∷
    pair "Basic=Interval Interval-type=D" "DATE-TIME" false ∷
    pair "DATE-TIME" "Basic=Interval Interval-type=D" false ∷
    pair "Basic=Interval Interval-type=D" "Basic=Date Date=Y Year=Basic" false ∷
    pair "Basic=Date Date=Y Year=Basic" "Basic=Interval Interval-type=D" false ∷
    pair "Basic=Interval Interval-type=D" "Basic=Time Time=H Local-or-UTC=L" false ∷
    pair "Basic=Time Time=H Local-or-UTC=L" "Basic=Interval Interval-type=D" false ∷
    pair "Basic=Interval Interval-type=D" "Basic=Date-Time Date=Y Year=Basic Time=H Local-or-UTC=L" false ∷
    pair "Basic=Date-Time Date=Y Year=Basic Time=H Local-or-UTC=L" "Basic=Interval Interval-type=D" false ∷
    pair "DURATION" "Basic=Time Time=HMSF3 Local-or-UTC=L" false ∷
    limited "DURATION" no_limits "DATE" from2000 false ∷
    limited "TIME-OF-DAY" no_hour24 "Basic=Interval Interval-type=D" no_limits false ∷
    []

alike : TypeRead → TypeRead → Bool → Bool
alike (TypeRead.«Type» a) (TypeRead.«Type» b) expected = beq (same_rows a b) expected
alike (TypeRead.«Type» a) TypeRead.Unreadable expected = false
alike (TypeRead.«Type» a) TypeRead.NoRow expected = false
alike TypeRead.Unreadable r expected = false
alike TypeRead.NoRow r expected = false

pairs_right : List PairRow → Bool
pairs_right [] = true
pairs_right (pair s t expected ∷ l) = alike (type_of no_limits (bytes s)) (type_of no_limits (bytes t)) expected && pairs_right l
pairs_right (limited s m t n expected ∷ l) = alike (type_of m (bytes s)) (type_of n (bytes t)) expected && pairs_right l

pairs_checked : pairs_right pairs ≡ true
unfolding pairs pairs_right alike same_rows type_of joined list_type time_at years_of member usable distinct all_of equal_lists one_row
    point_type same_but_year lists_of list_of completed complete timed_list dated_list interval_list add_pairs add_pair split_on pair_of fraction_number place_from
    limited_to placed zone_at clock_at date_at year_setting_at eq_list
pairs_checked = refl

-- a type, and the number of its fraction digits
data DigitsRow : Type 0 where
  count : String → ℕ → DigitsRow

digits : List DigitsRow
digits =
    count "DATE" 0 ∷
    count "TIME-OF-DAY" 0 ∷
    count "DATE-TIME" 0 ∷
    count "DURATION" 0 ∷
    count "Basic=Interval Interval-type=D" 0 ∷
    count "Interval-type=D Basic=Interval" 0 ∷
    count "Basic=Time Time=HF1 Local-or-UTC=L" 1 ∷
    count "Basic=Time Time=HMSF3 Local-or-UTC=Z" 3 ∷
    count "Basic=Time Time=HMF9 Local-or-UTC=LD" 9 ∷
    count "Basic=Date-Time Date=YD Year=L5 Time=HMSF6 Local-or-UTC=L" 6 ∷
    []

has : TypeRead → ℕ → Bool
has (TypeRead.«Type» t) n = eqb (fraction_digits t) n
has TypeRead.Unreadable n = false
has TypeRead.NoRow n = false

digits_right : List DigitsRow → Bool
digits_right [] = true
digits_right (count s n ∷ l) = has (type_of no_limits (bytes s)) n && digits_right l

digits_checked : digits_right digits ≡ true
unfolding digits digits_right has type_of joined list_type time_at years_of member usable distinct all_of equal_lists one_row same_but_year lists_of list_of
    point_type completed complete timed_list dated_list interval_list add_pairs add_pair split_on pair_of fraction_number place_from limited_to placed zone_at clock_at
    date_at year_setting_at eq_list
digits_checked = refl
