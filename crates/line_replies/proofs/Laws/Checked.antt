-- Checked lines: the paper's three and what they print, and a line for each cause of `?`.
use mathlib.Core.Path.{◌≡◌, refl}
use mathlib.Core.Bool.{◌&&◌, Bool, true}
use mathlib.Core.List.{◌∷◌, ◌++◌, List, []}
use Prim.Native.Nat.{ℕ}
use Prim.Native.String.{String}
use lib.ListN.{replicate}
use Rattle.octets.specs.Octets.{bytes, eq_list}
use Rattle.octets.specs.Pieces.{span_to, split_on}
use Rattle.calendar.specs.Dates.{up_to}
use Rattle.calendar.specs.Integers.{divisible, quotient, remainder}
use Rattle.calendar.specs.Months.{month_length_of}
use Rattle.calendar.specs.Weeks.{days_of_years, new_year, week_of, week_one_of, weeks_of}
use Rattle.calendar.specs.Years.{astronomical_of, leap_of, year_at, year_length_of}
use Rattle.texts.specs.Dates.{get_after, get_date, get_week, put_after, put_date}
use Rattle.texts.specs.Digits.{get_digits, get_field, leading, put_digits}
use Rattle.texts.specs.Texts.{get_value, read_up_to, render}
use Rattle.texts.specs.Times.{get_after_hours, get_clock, get_difference, get_fraction, get_minutes, get_time, get_zone, put_clock, put_fraction, put_time, put_zone}
use Rattle.texts.specs.Years.{get_signed, get_year, signed_fits, size_in, year_digits, year_text}
use Rattle.lists.specs.Lists.{add_pair, add_pairs, complete, completed, dated_list, interval_list, list_of, timed_list}
use Rattle.lists.specs.Words.{fraction_number, pair_of, place_from}
use Rattle.types.specs.Numbers.{clock_at, date_at, zone_at}
use Rattle.type_texts.specs.TypeTexts.{all_of, distinct, equal_lists, joined, list_type, point_type, lists_of, member, one_row, same_but_year, time_at, type_of, usable}
use Rattle.type_texts.specs.TypeTexts.{years_of}
use Rattle.types.specs.AnyTypes.{limited_to}
use Rattle.types.specs.Types.{placed}
use Rattle.held_values.specs.Existence.{exists_clock, exists_difference, exists_fraction, exists_leap, exists_time, less_difference}
use Rattle.held_values.specs.Forms.{same_date_form, same_time_form}
use Rattle.held_values.specs.Holding.{admits_date, admits_time, in_type}
use Rattle.types.specs.Years.{between, in_long, in_years, some_year, year_setting_at}
use Rattle.fields.specs.Bits.{bits_of, number_in, octets_of, packed, unpacked}
use Rattle.fields.specs.Integers.{fewest, from_twos, half, twos, within}
use Rattle.fields.specs.Fields.{binary_digits, bit_count, field_bits, field_width, layout, width}
use Rattle.fields.specs.Readings.{◌>>=◌, a_free, a_ranged, read_bits, read_free, read_ranged, require, run, natural}
use Rattle.rows.specs.Fields.{choice_of_year, clock_fields, date_fields, day_fields, difference_fields, fields_of, fraction_fields, hours_field, long_fraction}
use Rattle.rows.specs.Fields.{other_year, time_fields, year_fields, zone_fields}
use Rattle.rows.specs.Readings.{difference_at, read_choice, read_clock, read_date, read_day, read_extended, read_fraction, read_minutes, read_octets}
use Rattle.rows.specs.Readings.{read_time, read_value, read_year, read_zone}
use Rattle.durations.specs.Durations.{all_small, all_zero, duration_of, ends_at, exists_duration, shown, spellable, weeks_alone}
use Rattle.durations.specs.Fields.{duration_fields, extended, fraction_part, long_number, number_fields, presences}
use Rattle.durations.specs.Parts.{any_present, count, last_in, numbers, of_last, part_at, well_made}
use Rattle.durations.specs.Readings as Durations
use Rattle.durations.specs.Readings.{duration_in_octets, ended_by, read_after, read_fields, read_numbers, read_presences, read_tail}
use Rattle.durations.specs.Texts.{fraction_length, get_duration, get_end, get_number, get_part, get_parts, get_present, get_times, needless, number_digits}
use Rattle.durations.specs.Texts.{put_duration, put_number, put_part, put_parts, put_times, read_duration, render_duration}
use Rattle.kinds.specs.Coding.{compared, decoded, encoded, judged_as, judged_octets, judged_text}
use Rattle.per.specs.AnyPer.{count_of, encoding_of}
use Rattle.answers.specs.Counts.{octets_for}
use Rattle.exchanges.specs.Coding.{answer_of}
use Rattle.der_elements.specs.AnyDer.{element_of}
use Rattle.der_elements.specs.Elements.{contents_of, element, without}
use Rattle.der_elements.specs.Readings.{all_digits, digits_only, read_duration_element, read_element, separated}
use Rattle.line_replies.specs.Lines.{cut_again, entry_named, from_hex, hex_digit, hex_number, reply_of, to_hex, worked}

-- a line with so many zeros behind it, and its reply
data Row : Type 0 where
  line : String → ℕ → String → Row

rows : List Row
rows =
    -- "Input: .. Whole output: .."
    line "per;DATE;2006-06-13" 0 "0 0558" ∷
    line "der;DATE;2006-06-13" 0 "0 1F1F083230303630363133" ∷
    line "per;DATE;2006-02-29" 0 "4" ∷
    -- #102's own
    line "per;Basic=Time Time=HMS Local-or-UTC=Z;12:34:60Z" 0 "4" ∷
    line "der;Basic=Time Time=HMS Local-or-UTC=LD;05:29:60+05:30" 0 "0 0E0E30353A32393A36302B30353A3330" ∷
    -- hex input, of either case
    line "unper;DATE;0558" 0 "0 2006-06-13" ∷
    line "unper;DATE;bfC780" 0 "0 2004-02-29" ∷
    line "unper;DATE;" 0 "3" ∷
    line "under;DATE;1F1F083230303630363133" 0 "0 2006-06-13" ∷
    line "under;TIME-OF-DAY;1f2006323430303030" 0 "0 24:00:00" ∷
    line "under;Basic=Date Date=YW Year=Basic;0E08323032302D573533" 0 "0 2020-W53" ∷
    line "under;DATE;0558" 0 "3" ∷
    line "under;DATE;" 0 "3" ∷
    -- "fewer than two semicolons"; a third is the input's
    line "" 0 "?" ∷
    line "per" 0 "?" ∷
    line "per;DATE" 0 "?" ∷
    line "per;DATE;" 0 "3" ∷
    line "per;DATE;2006-06-13;" 0 "3" ∷
    line "unper;DATE;0558;" 0 "?" ∷
    line "under;DATE" 0 "?" ∷
    -- "the number": of lists of two rows
    line "der;Basic=Date Date=Y Year=Basic|Basic=Date Date=Y Year=L5;2006" 0 "2" ∷
    -- a carriage return is the input's, and a space is that of the part where it stands
    line "per;DATE;2006-06-13\r" 0 "3" ∷
    line "unper;DATE;0558\r" 0 "?" ∷
    line " per;DATE;2006-06-13" 0 "?" ∷
    line "per;DATE; 2006-06-13" 0 "3" ∷
    -- "an unknown work"
    line "PER;DATE;2006-06-13" 0 "?" ∷
    line "DER;DATE;2006-06-13" 0 "?" ∷
    line "perr;DATE;2006-06-13" 0 "?" ∷
    line "Under;DATE;1F1F083230303630363133" 0 "?" ∷
    line ";DATE;2006-06-13" 0 "?" ∷
    -- "hex input that isn't whole pairs of hex digits"
    line "unper;DATE;055" 0 "?" ∷
    line "unper;DATE;055G" 0 "?" ∷
    line "unper;DATE;05 58" 0 "?" ∷
    line "under;DATE;1F1F08323030363036313" 0 "?" ∷
    line "under;DATE;2006-06-13" 0 "?" ∷
    -- "or more than 1,024 octets"
    line "per;DATE;" 1015 "3" ∷
    line "per;DATE;" 1016 "?" ∷
    []

all_right : List Row → Bool
unfolding up_to quotient remainder divisible month_length_of days_of_years new_year week_of week_one_of weeks_of astronomical_of year_at leap_of year_length_of
    put_after put_date get_week get_after get_date put_digits get_digits get_field leading render get_value read_up_to put_clock get_after_hours get_clock
    put_fraction get_fraction put_zone get_minutes get_difference get_zone put_time get_time size_in year_digits year_text signed_fits get_signed get_year split_on
    add_pair add_pairs dated_list timed_list complete completed list_of eq_list place_from fraction_number pair_of date_at clock_at zone_at lists_of same_but_year
    year_setting_at one_row equal_lists all_of distinct usable member years_of time_at list_type point_type joined type_of placed limited_to exists_clock
    exists_fraction exists_difference less_difference exists_leap exists_time same_date_form same_time_form between in_long in_years some_year admits_date
    admits_time in_type bits_of number_in packed octets_of unpacked half within fewest twos
    from_twos binary_digits width field_bits layout field_width bit_count ◌>>=◌ a_ranged a_free require read_bits read_ranged read_free run other_year choice_of_year
    year_fields day_fields date_fields clock_fields long_fraction fraction_fields hours_field difference_fields zone_fields time_fields fields_of read_choice read_year
    read_day read_date read_clock natural read_extended read_fraction read_minutes difference_at read_zone read_time read_value read_octets judged_as judged_text encoded
    compared judged_octets decoded encoding_of count_of octets_for span_to without contents_of element element_of all_digits digits_only separated read_element hex_digit
    to_hex hex_number from_hex worked cut_again reply_of answer_of entry_named interval_list all_small all_zero duration_of ends_at exists_duration shown spellable
    weeks_alone duration_fields extended fraction_part long_number number_fields presences count any_present last_in numbers of_last part_at well_made
    Durations.read_extended duration_in_octets ended_by read_after read_fields read_numbers read_presences read_tail fraction_length get_duration get_end get_number
    get_part get_parts get_present get_times needless number_digits put_duration put_number put_part put_parts put_times read_duration render_duration read_duration_element
all_right [] = true
all_right (line text zeros reply ∷ l) =
    eq_list (reply_of (bytes text ++ replicate zeros 48)) (bytes reply ++ bytes "\n") && all_right l

-- Each line gives its reply, newline included.
checked_lines : all_right rows ≡ true
unfolding rows all_right
checked_lines = refl

-- "the number"
numbered : List Row
numbered =
    -- 1, of a type that cannot be read; but hex digits are asked for first
    line "per;date;2006-06-13" 0 "1" ∷
    line "per;;2006-06-13" 0 "1" ∷
    line "per; DATE;2006-06-13" 0 "1" ∷
    line "unper;date;0558" 0 "1" ∷
    line "unper;date;055" 0 "?" ∷
    -- 5, of a year of another setting, and 6, of octets behind an encoding
    line "per;DATE;1581-12-31" 0 "5" ∷
    line "unper;DATE;055800" 0 "6" ∷
    []

-- Each line gives its number.
numbers_checked : all_right numbered ≡ true
unfolding numbered all_right
numbers_checked = refl

-- The octets of a newline and of a carriage return.
ends_checked : (bytes "\n" ≡ 10 ∷ []) × (bytes "\r" ≡ 13 ∷ [])
ends_checked = (refl, refl)

-- "whole pairs of hex digits"
digits : List Row
digits =
    -- each digit is written, in capitals, and read, in either case
    line "per;DATE-TIME;1753-10-07T15:27:46" 0 "0 8124CF6EE0" ∷
    line "per;DATE-TIME;1826-05-22T15:27:46" 0 "0 9352AF6EE0" ∷
    line "per;DATE-TIME;1780-07-25T15:27:46" 0 "0 87DB0F6EE0" ∷
    line "unper;DATE-TIME;8124CF6EE0" 0 "0 1753-10-07T15:27:46" ∷
    line "unper;DATE-TIME;9352AF6EE0" 0 "0 1826-05-22T15:27:46" ∷
    line "unper;DATE-TIME;87DB0F6EE0" 0 "0 1780-07-25T15:27:46" ∷
    line "unper;DATE-TIME;8124cf6ee0" 0 "0 1753-10-07T15:27:46" ∷
    line "unper;DATE-TIME;9352af6ee0" 0 "0 1826-05-22T15:27:46" ∷
    line "unper;DATE-TIME;87db0f6ee0" 0 "0 1780-07-25T15:27:46" ∷
    -- what stands before and behind the digits is none
    line "unper;DATE;0/58" 0 "?" ∷
    line "unper;DATE;0:58" 0 "?" ∷
    line "unper;DATE;0@58" 0 "?" ∷
    line "unper;DATE;0G58" 0 "?" ∷
    line "unper;DATE;0`58" 0 "?" ∷
    line "unper;DATE;0g58" 0 "?" ∷ []

hex_checked : all_right digits ≡ true
unfolding digits all_right
hex_checked = refl

-- "The name DURATION" and "`Basic=Interval Interval-type=D`" in each work (#101)
durations : List Row
durations =
    -- the texts of the request and their octets, "and, after 0, the hex or text"
    line "per;DURATION;P1Y6M" 0 "0 C004C0" ∷
    line "der;DURATION;P1Y6M" 0 "0 1F22043159364D" ∷
    line "unper;DURATION;C004C0" 0 "0 P1Y6M" ∷
    line "under;DURATION;1F22043159364D" 0 "0 P1Y6M" ∷
    line "per;Basic=Interval Interval-type=D;PT0.5S" 0 "0 03000020" ∷
    line "der;Basic=Interval Interval-type=D;PT0,5S" 0 "0 0E065054302E3553" ∷
    line "unper;Interval-type=D Basic=Interval;03000020" 0 "0 PT0.5S" ∷
    line "under;Basic=Interval Interval-type=D;0e065054302e3553" 0 "0 PT0.5S" ∷
    line "per;DURATION;P0Y0M1D" 0 "0 1004" ∷
    line "der;DURATION;P0Y0M" 0 "0 1F2202304D" ∷
    line "der;DURATION;P1Y0M" 0 "0 1F22043159304D" ∷
    -- 3: "a needless leading zero", "weeks beside another one", "no component at all", `P` in the contents, the other tag, a point's text
    line "per;DURATION;P01Y" 0 "3" ∷
    line "der;DURATION;P1W2D" 0 "3" ∷
    line "unper;DURATION;0000" 0 "3" ∷
    line "under;DURATION;1F2205503159364D" 0 "3" ∷
    line "under;Basic=Interval Interval-type=D;1F22043159364D" 0 "3" ∷
    line "per;DURATION;" 0 "3" ∷
    line "per;DATE;P1Y6M" 0 "3" ∷
    line "per;DURATION;2006-06-13" 0 "3" ∷
    -- a third semicolon is the input's
    line "per;DURATION;P1;5Y" 0 "3" ∷
    line "per;DURATION;P1Y6M;" 0 "3" ∷
    -- 6: "a zero component that should be gone", "a number after a 1 bit that fits without it", a comma
    line "unper;DURATION;C00000" 0 "6" ∷
    line "unper;DURATION;80808F80" 0 "6" ∷
    line "under;DURATION;1F220430593144" 0 "6" ∷
    line "under;DURATION;1F220554302C3553" 0 "6" ∷
    -- 1 and 2, of the type; but hex digits are asked for first
    line "per;Duration;P1Y6M" 0 "1" ∷
    line "unper;DURATION|DURATION;C004C0" 0 "1" ∷
    line "der;Basic=Interval Interval-type=D|Basic=Date Date=Y Year=Basic;P1D" 0 "2" ∷
    line "unper;DURATION;C004C" 0 "?" ∷
    line "under;Duration;P1" 0 "?" ∷
    -- the longest text
    line "der;DURATION;P999999999Y999999999M999999999DT999999999H999999999M999999999.999999999S" 0
    "0 1F2247393939393939393939593939393939393939394D3939393939393939394454393939393939393939483939393939393939394D3939393939393939392E39393939393939393953" ∷
    line "unper;DURATION;DF821DCD64FFC10EE6B27FE08773593FF043B9AC9FF821DCD64FFC10EE6B27FE0213043B9AC9FF" 0
    "0 P999999999Y999999999M999999999DT999999999H999999999M999999999.999999999S" ∷
    []

durations_checked : all_right durations ≡ true
unfolding durations all_right
durations_checked = refl
