-- Texts under types as checked values: a type's text, without limits or with them, a text, the number that it gives, and after 0 the canonical
-- text.
use Rattle.std.specs.Prelude.{Option, Some, None, Result, Ok, Err}
use Rattle.calendar.specs.declared.years.Year.{Year}
use Rattle.answers.specs.declared.refusals.Refusal.{Refusal}
use Rattle.texts.specs.declared.values.Value.{Value}
use mathlib.Core.Path.{◌≡◌, refl}
use mathlib.Core.Bool.{◌&&◌, Bool, true}
use mathlib.Core.List.{◌∷◌, List, []}
use Prim.Native.Nat.{ℕ}
use Prim.Native.String.{String}
use lib.Dec.{eqb}
use lib.IntN.{negsuc, pos}
use Rattle.octets.specs.Octets.{bytes, eq_list}
use Rattle.octets.specs.Pieces.{split_on}
use Rattle.calendar.specs.Dates.{up_to}
use Rattle.calendar.specs.Integers.{divisible, quotient, remainder}
use Rattle.calendar.specs.Months.{month_length_of}
use Rattle.calendar.specs.Weeks.{days_of_years, new_year, week_of, week_one_of, weeks_of}
use Rattle.calendar.specs.Years.{astronomical_of, leap_of, year_at, year_length_of}
use Rattle.lists.specs.Lists.{add_pair, add_pairs, complete, completed, dated_list, interval_list, list_of, timed_list}
use Rattle.lists.specs.Words.{fraction_number, pair_of, place_from}
use Rattle.types.specs.Numbers.{clock_at, date_at, zone_at}
use Rattle.type_texts.proofs.Laws.CheckedTypes.{both_limits, from2000, no_hour24, no_years}
use Rattle.type_texts.specs.TypeTexts.{all_of, distinct, equal_lists, joined, list_type, point_type, lists_of, member, one_row, same_but_year, time_at, type_of, usable}
use Rattle.type_texts.specs.TypeTexts.{years_of}
use Rattle.types.specs.AnyTypes.{limited_to}
use Rattle.types.specs.Types.{no_limits, placed, type_number}
use Rattle.types.specs.declared.types.AnyType.{AnyType}
use Rattle.types.specs.declared.types.Limits.{Limits}
use Rattle.types.specs.declared.types.TypeRead.{TypeRead}
use Rattle.texts.specs.Dates.{get_after, get_date, get_week, put_after, put_date}
use Rattle.texts.specs.Digits.{get_digits, get_field, leading, put_digits}
use Rattle.texts.specs.Texts.{get_value, read_up_to, render, text_of}
use Rattle.texts.specs.Times.{get_after_hours, get_clock, get_difference, get_fraction, get_minutes, get_time, get_zone, put_clock, put_fraction, put_time, put_zone}
use Rattle.texts.specs.Years.{get_signed, get_year, signed_fits, size_in, year_digits, year_text}
use Rattle.durations.specs.Answers.{duration_number}
use Rattle.durations.specs.Durations.{duration_of, shown, spellable}
use Rattle.durations.specs.Parts.{any_present, count, last_in, numbers, of_last, part_at, well_made}
use Rattle.durations.specs.Texts.{fraction_length, get_duration, get_end, get_number, get_part, get_parts, get_present, get_times, made_canonical, needless}
use Rattle.durations.specs.Texts.{number_digits, put_duration, put_number, put_part, put_parts, put_times, read_duration, render_duration}
use Rattle.held_values.specs.Admission.{admission_number, admitted, judged}
use Rattle.held_values.specs.Existence.{exists_clock, exists_difference, exists_fraction, exists_leap, exists_time, less_difference}
use Rattle.held_values.specs.Forms.{same_date_form, same_time_form}
use Rattle.held_values.specs.Holding.{admits_date, admits_time, holds_of, in_type}
use Rattle.types.specs.Years.{between, in_long, in_years, some_year, year_setting_at}

data Row : Type 0 where
  row : String → String → ℕ → String → Row
  under : String → Limits → String → ℕ → String → Row

rows : List Row
rows =
    -- dates, and the paper's own
    row "DATE" "2006-06-13" 0 "2006-06-13" ∷
    row "DATE" "2004-02-29" 0 "2004-02-29" ∷
    row "DATE" "2006-02-29" 4 "" ∷
    row "DATE" "1500-02-30" 4 "" ∷
    row "DATE" "1581-12-31" 5 "" ∷
    row "DATE" "" 3 "" ∷
    -- "a field of the right digit count is of the form at any number"
    row "DATE" "2006-13-01" 4 "" ∷
    row "DATE" "2006-00-01" 4 "" ∷
    row "DATE" "2006-6-13" 3 "" ∷
    row "DATE" "2006-06-131" 3 "" ∷
    row "DATE" "2006-06-13Z" 3 "" ∷
    row "DATE" "2006/06/13" 3 "" ∷
    -- no space, no quotation mark, no small letter
    row "DATE" " 2006-06-13" 3 "" ∷
    row "DATE" "2006-06-13 " 3 "" ∷
    row "DATE" "\"2006-06-13\"" 3 "" ∷
    row "Basic=Date Date=YW Year=Basic" "2006-w24" 3 "" ∷
    row "Basic=Time Time=H Local-or-UTC=Z" "10z" 3 "" ∷
    row "DATE-TIME" "2006-06-13t15:27:46" 3 "" ∷
    -- "whichever Year the type names; a year of another setting than the type's is refusal 5"
    row "DATE" "+12006-06-13" 5 "" ∷
    row "DATE" "-0044-03-15" 5 "" ∷
    row "DATE" "20060-06-13" 3 "" ∷
    row "DATE" "+2006-06-13" 3 "" ∷
    row "Basic=Date Date=Y Year=Negative" "-0128" 0 "-0128" ∷
    row "Basic=Date Date=Y Year=Negative" "-0000" 3 "" ∷
    row "Basic=Date Date=Y Year=Negative" "0128" 5 "" ∷
    row "Basic=Date Date=Y Year=Negative" "-12345" 5 "" ∷
    row "Basic=Date Date=Y Year=L5" "+32767" 0 "+32767" ∷
    row "Basic=Date Date=Y Year=L5" "-99999" 0 "-99999" ∷
    row "Basic=Date Date=Y Year=L5" "+02006" 3 "" ∷
    row "Basic=Date Date=Y Year=L5" "+100000" 5 "" ∷
    row "Basic=Date Date=Y Year=L5" "+1000000000" 3 "" ∷
    row "Basic=Date Date=Y Year=Basic|Basic=Date Date=Y Year=Proleptic" "0000" 0 "0000" ∷
    row "Basic=Date Date=Y Year=Basic|Basic=Date Date=Y Year=Proleptic" "9999" 0 "9999" ∷
    row "Basic=Date Date=Y Year=Basic|Basic=Date Date=Y Year=Proleptic" "-0001" 5 "" ∷
    row "Basic=Date Date=YM Year=Basic" "2006-06" 0 "2006-06" ∷
    row "Basic=Date Date=YM Year=Basic" "2006-06-13" 3 "" ∷
    row "Basic=Date Date=YD Year=Basic" "2004-366" 0 "2004-366" ∷
    row "Basic=Date Date=YD Year=Basic" "2006-366" 4 "" ∷
    row "Basic=Date Date=YW Year=Basic" "2020-W53" 0 "2020-W53" ∷
    row "Basic=Date Date=YW Year=Basic" "2021-W53" 4 "" ∷
    row "Basic=Date Date=YW Year=Basic" "2020-53" 3 "" ∷
    row "Basic=Date Date=YWD Year=Basic" "2020-W53-7" 0 "2020-W53-7" ∷
    row "Basic=Date Date=YWD Year=Basic" "2020-W53-8" 4 "" ∷
    -- times
    row "TIME-OF-DAY" "24:00:00" 0 "24:00:00" ∷
    row "TIME-OF-DAY" "24:00:01" 4 "" ∷
    row "TIME-OF-DAY" "23:59:60" 0 "23:59:60" ∷
    row "TIME-OF-DAY" "12:34:60" 0 "12:34:60" ∷
    row "TIME-OF-DAY" "12:34:61" 4 "" ∷
    row "TIME-OF-DAY" "25:00:00" 4 "" ∷
    row "TIME-OF-DAY" "15:27" 3 "" ∷
    -- "The fraction's trailing zeros dropped, so that .500 and .5 meet"
    row "Basic=Time Time=HMSF3 Local-or-UTC=L" "15:27:46.500" 0 "15:27:46.500" ∷
    row "Basic=Time Time=HMSF3 Local-or-UTC=L" "15:27:46,500" 0 "15:27:46.500" ∷
    row "Basic=Time Time=HMF2 Local-or-UTC=Z" "15:27,50Z" 0 "15:27.50Z" ∷
    row "Basic=Time Time=HF1 Local-or-UTC=LD" "15,5+01:00" 0 "15.5+01" ∷
    row "Basic=Time Time=HMSF3 Local-or-UTC=L" "15:27:46.5" 3 "" ∷
    row "Basic=Time Time=HMSF3 Local-or-UTC=L" "24:00:00.001" 4 "" ∷
    -- differences
    row "Basic=Time Time=H Local-or-UTC=LD" "10+01:00" 0 "10+01" ∷
    row "Basic=Time Time=H Local-or-UTC=LD" "10-01:30" 0 "10-01:30" ∷
    row "Basic=Time Time=H Local-or-UTC=LD" "10+00" 0 "10+00" ∷
    row "Basic=Time Time=H Local-or-UTC=LD" "10+00:00" 0 "10+00" ∷
    row "Basic=Time Time=H Local-or-UTC=LD" "10+00:30" 0 "10+00:30" ∷
    row "Basic=Time Time=H Local-or-UTC=LD" "10-00" 4 "" ∷
    row "Basic=Time Time=H Local-or-UTC=LD" "10-00:00" 4 "" ∷
    row "Basic=Time Time=H Local-or-UTC=LD" "10-00:30" 4 "" ∷
    row "Basic=Time Time=H Local-or-UTC=LD" "10+15:59" 0 "10+15:59" ∷
    row "Basic=Time Time=H Local-or-UTC=LD" "10+16" 4 "" ∷
    row "Basic=Time Time=H Local-or-UTC=LD" "10+01:60" 4 "" ∷
    row "Basic=Time Time=H Local-or-UTC=LD" "10Z" 3 "" ∷
    row "Basic=Time Time=H Local-or-UTC=LD" "10" 3 "" ∷
    row "Basic=Time Time=H Local-or-UTC=Z" "10Z" 0 "10Z" ∷
    row "Basic=Time Time=H Local-or-UTC=Z" "10+00" 3 "" ∷
    -- dates with times, and the lowest number where several hold
    row "DATE-TIME" "2006-06-13T15:27:46" 0 "2006-06-13T15:27:46" ∷
    row "DATE-TIME" "2006-06-13 15:27:46" 3 "" ∷
    row "Basic=Date-Time Date=YMD Year=Basic Time=HM Local-or-UTC=LD" "2006-06-13T15:27+01:00" 0 "2006-06-13T15:27+01" ∷
    row "DATE-TIME" "1500-02-30T25:00:00" 4 "" ∷
    row "DATE-TIME" "1500-02-30T25:00" 3 "" ∷
    row "DATE-TIME" "1500-02-28T24:00:00" 5 "" ∷
    -- durations beside points: #101's own, and a text of the other kind
    row "DURATION" "P1Y6M" 0 "P1Y6M" ∷
    row "DURATION" "PT0.5S" 0 "PT0.5S" ∷
    row "DURATION" "P0Y0M1D" 0 "P1D" ∷
    row "Basic=Interval Interval-type=D" "P0Y0M" 0 "P0M" ∷
    row "Interval-type=D Basic=Interval" "P1Y0M" 0 "P1Y0M" ∷
    row "DURATION" "2006-06-13" 3 "" ∷
    row "DATE" "P1Y6M" 3 "" ∷
    row "TIME-OF-DAY" "PT15H27M46S" 3 "" ∷
    row "Basic=Interval Interval-type=D|Basic=Interval Interval-type=D" "P1D" 1 "" ∷
    row "Basic=Interval Interval-type=D|Basic=Date Date=Y Year=Basic" "P1D" 2 "" ∷
    row "Basic=Time Time=H" "25" 1 "" ∷
    row "DATE|DATE" "2006-02-30" 1 "" ∷
    row "Basic=Date Date=Y Year=Basic|Basic=Date Date=Y Year=L5" "206" 2 "" ∷
    []

-- from -0044 to -0001, and from 1500 to 1600
early : Limits
early = record { window = Some ((year_at (negsuc 43)), (year_at (negsuc 0))); hour24 = true }

from1500 : Limits
from1500 = record { window = Some ((year_at (pos 1500)), (year_at (pos 1600))); hour24 = true }

limited : List Row
limited =
    -- a lowest and a highest year, both ends
    under "DATE" from2000 "1999-12-31" 5 "" ∷
    under "DATE" from2000 "2000-01-01" 0 "2000-01-01" ∷
    under "DATE" from2000 "2099-12-31" 0 "2099-12-31" ∷
    under "DATE" from2000 "2100-01-01" 5 "" ∷
    under "DATE" from2000 "2100-02-29" 4 "" ∷
    under "DATE" from2000 "2100-1-1" 3 "" ∷
    under "Basic=Date Date=Y Year=Negative|Basic=Date Date=Y Year=L5" early "-10044" 5 "" ∷
    under "Basic=Date Date=Y Year=Negative|Basic=Date Date=Y Year=L5" early "-0045" 5 "" ∷
    under "Basic=Date Date=Y Year=Negative|Basic=Date Date=Y Year=L5" early "-0044" 0 "-0044" ∷
    under "Basic=Date Date=Y Year=Negative|Basic=Date Date=Y Year=L5" early "-0001" 0 "-0001" ∷
    under "Basic=Date Date=Y Year=Negative|Basic=Date Date=Y Year=L5" early "+10000" 5 "" ∷
    under "Basic=Date Date=YM Year=Basic|Basic=Date Date=YM Year=Proleptic" from1500 "1499-12" 5 "" ∷
    under "Basic=Date Date=YM Year=Basic|Basic=Date Date=YM Year=Proleptic" from1500 "1500-01" 0 "1500-01" ∷
    under "Basic=Date Date=YM Year=Basic|Basic=Date Date=YM Year=Proleptic" from1500 "1600-12" 0 "1600-12" ∷
    under "Basic=Date Date=YM Year=Basic|Basic=Date Date=YM Year=Proleptic" from1500 "1601-01" 5 "" ∷
    -- a window doesn't name a Year
    under "Basic=Date Date=YM Year=Basic" from1500 "1500-01" 5 "" ∷
    -- "A lowest year above the highest makes a type with no values."
    under "DATE" no_years "2000-06-13" 5 "" ∷
    under "DATE" no_years "2001-06-13" 5 "" ∷
    -- hour 24, and "no hour 24"
    under "TIME-OF-DAY" no_limits "24:00:00" 0 "24:00:00" ∷
    under "TIME-OF-DAY" no_hour24 "24:00:00" 5 "" ∷
    under "TIME-OF-DAY" no_hour24 "24:00:01" 4 "" ∷
    under "TIME-OF-DAY" no_hour24 "23:59:60" 0 "23:59:60" ∷
    under "TIME-OF-DAY" no_hour24 "00:00:00" 0 "00:00:00" ∷
    under "Basic=Time Time=HF1 Local-or-UTC=Z" no_hour24 "24,0Z" 5 "" ∷
    under "Basic=Time Time=HF1 Local-or-UTC=Z" no_hour24 "23,9Z" 0 "23.9Z" ∷
    -- both
    under "DATE-TIME" from2000 "2099-12-31T24:00:00" 0 "2099-12-31T24:00:00" ∷
    under "DATE-TIME" no_hour24 "1999-12-31T24:00:00" 5 "" ∷
    under "DATE-TIME" no_hour24 "1999-12-31T23:59:59" 0 "1999-12-31T23:59:59" ∷
    under "DATE-TIME" both_limits "1999-12-31T23:59:59" 5 "" ∷
    under "DATE-TIME" both_limits "2000-01-01T00:00:00" 0 "2000-01-01T00:00:00" ∷
    under "DATE-TIME" both_limits "2099-12-31T24:00:00" 5 "" ∷
    -- "a restriction where it has no place"
    under "DATE" no_hour24 "2006-06-13" 1 "" ∷
    under "TIME-OF-DAY" from2000 "15:27:46" 1 "" ∷
    under "DURATION" from2000 "P1Y6M" 1 "" ∷
    under "DURATION" no_hour24 "P1Y6M" 1 "" ∷
    under "DURATION" no_years "P1Y6M" 1 "" ∷
    under "Basic=Interval Interval-type=D" from2000 "P1Y6M" 1 "" ∷
    under "Basic=Interval Interval-type=D" no_hour24 "P01Y" 1 "" ∷
    under "Basic=Interval Interval-type=D" both_limits "P1Y6M" 1 "" ∷
    []

number_in : TypeRead → List ℕ → ℕ
number_in (TypeRead.«Type» (AnyType.Point t)) l = admission_number (admitted t l)
number_in (TypeRead.«Type» AnyType.Duration) l = duration_number (read_duration l)
number_in (TypeRead.«Type» AnyType.ListedDuration) l = duration_number (read_duration l)
number_in TypeRead.Unreadable l = type_number TypeRead.Unreadable
number_in TypeRead.NoRow l = type_number TypeRead.NoRow

text_after : Result Value Refusal → List ℕ
text_after (Ok v) = text_of v
text_after (Err why) = []

text_read : Option (List ℕ) → List ℕ
text_read (Some l) = l
text_read None = []

text_in : TypeRead → List ℕ → List ℕ
text_in (TypeRead.«Type» (AnyType.Point t)) l = text_after (admitted t l)
text_in (TypeRead.«Type» AnyType.Duration) l = text_read (made_canonical l)
text_in (TypeRead.«Type» AnyType.ListedDuration) l = text_read (made_canonical l)
text_in TypeRead.Unreadable l = []
text_in TypeRead.NoRow l = []

is_right : TypeRead → List ℕ → ℕ → String → Bool
is_right t l number canonical = eqb (number_in t l) number && eq_list (text_in t l) (bytes canonical)

all_right : List Row → Bool
all_right [] = true
all_right (row s text number canonical ∷ l) = is_right (type_of no_limits (bytes s)) (bytes text) number canonical && all_right l
all_right (under s limits text number canonical ∷ l) = is_right (type_of limits (bytes s)) (bytes text) number canonical && all_right l

texts_checked : all_right rows ≡ true
unfolding rows number_in text_after text_read text_in is_right all_right up_to quotient remainder divisible month_length_of days_of_years new_year week_of
    week_one_of weeks_of astronomical_of year_at leap_of year_length_of put_after put_date get_week get_after get_date put_digits get_digits get_field leading render
    get_value read_up_to put_clock get_after_hours get_clock put_fraction get_fraction put_zone get_minutes get_difference get_zone put_time get_time size_in
    year_digits year_text signed_fits get_signed get_year split_on add_pair add_pairs dated_list timed_list complete completed list_of eq_list place_from
    fraction_number pair_of date_at clock_at zone_at lists_of same_but_year year_setting_at one_row equal_lists all_of distinct usable member years_of time_at
    list_type joined type_of placed limited_to judged admitted exists_clock point_type exists_fraction exists_difference less_difference exists_leap exists_time
    same_date_form same_time_form between in_long in_years some_year admits_date admits_time in_type holds_of interval_list duration_of shown spellable any_present
    count last_in numbers of_last part_at well_made fraction_length get_duration get_end get_number get_part get_parts get_present get_times needless number_digits
    put_duration put_number put_part put_parts put_times read_duration render_duration
texts_checked = refl

limits_checked : all_right limited ≡ true
unfolding limited early from1500 number_in text_after text_read text_in is_right all_right up_to quotient remainder divisible month_length_of days_of_years
    new_year week_of week_one_of weeks_of astronomical_of year_at leap_of year_length_of put_after put_date get_week get_after get_date put_digits get_digits get_field
    leading render get_value read_up_to put_clock get_after_hours get_clock put_fraction get_fraction put_zone get_minutes get_difference get_zone put_time get_time
    size_in year_digits year_text signed_fits get_signed get_year split_on add_pair add_pairs dated_list timed_list complete completed list_of eq_list place_from
    fraction_number pair_of date_at clock_at zone_at lists_of same_but_year year_setting_at one_row equal_lists all_of distinct usable member years_of time_at
    list_type point_type joined type_of placed limited_to judged admitted exists_clock exists_fraction exists_difference less_difference exists_leap exists_time
    same_date_form same_time_form between in_long in_years some_year admits_date admits_time in_type holds_of interval_list duration_of shown spellable any_present
    count last_in numbers of_last part_at well_made fraction_length get_duration get_end get_number get_part get_parts get_present get_times needless number_digits
    put_duration put_number put_part put_parts put_times read_duration render_duration
limits_checked = refl
