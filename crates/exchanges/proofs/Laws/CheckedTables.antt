-- The entry points' definitions, computed, and three forms of table over them: values in both encodings and back, texts that are refused, and the
-- number of each cause that octets meet.
use mathlib.Core.Bool.{◌&&◌, Bool, true, false}
use mathlib.Core.List.{◌∷◌, List, []}
use Prim.Native.Nat.{ℕ}
use Prim.Native.String.{String}
use lib.Dec.{eqb}
use lib.ListN.{replicate}
use Rattle.octets.specs.Octets.{bytes, eq_list}
use Rattle.octets.specs.Pieces.{split_on}
use Rattle.answers.proofs.Laws.Quoted.{hex}
use Rattle.answers.specs.Counts.{octets_for}
use Rattle.answers.specs.Outcomes.{Answer, done, refused, fits, outcome_of}
use Rattle.answers.specs.Refusals.{number_of}
use Rattle.calendar.specs.Dates.{up_to}
use Rattle.calendar.specs.Integers.{divisible, quotient, remainder}
use Rattle.calendar.specs.Months.{month_length_of}
use Rattle.calendar.specs.Weeks.{days_of_years, new_year, week_of, week_one_of, weeks_of}
use Rattle.calendar.specs.Years.{astronomical_of, leap_of, year_at, year_length_of}
use Rattle.lists.specs.Lists.{add_pair, add_pairs, complete, completed, dated_list, interval_list, list_of, timed_list}
use Rattle.lists.specs.Words.{fraction_number, pair_of, place_from}
use Rattle.types.specs.Numbers.{clock_at, date_at, zone_at}
use Rattle.types.specs.AnyTypes.{limited_to}
use Rattle.types.specs.Types.{no_limits, placed}
use Rattle.types.specs.declared.types.Limits.{Limits}
use Rattle.type_texts.specs.TypeTexts.{all_of, distinct, equal_lists, joined, list_type, point_type, lists_of, member, one_row, same_but_year, time_at, type_of, usable}
use Rattle.type_texts.specs.TypeTexts.{years_of}
use Rattle.texts.specs.Dates.{get_after, get_date, get_week, put_after, put_date}
use Rattle.texts.specs.Digits.{get_digits, get_field, leading, put_digits}
use Rattle.texts.specs.Texts.{get_value, read_up_to, render}
use Rattle.texts.specs.Times.{get_after_hours, get_clock, get_difference, get_fraction, get_minutes, get_time, get_zone, put_clock, put_fraction, put_time, put_zone}
use Rattle.texts.specs.Years.{get_signed, get_year, signed_fits, size_in, year_digits, year_text}
use Rattle.held_values.specs.Existence.{exists_clock, exists_difference, exists_fraction, exists_leap, exists_time, less_difference}
use Rattle.held_values.specs.Forms.{same_date_form, same_time_form}
use Rattle.held_values.specs.Holding.{admits_date, admits_time, in_type}
use Rattle.types.specs.Years.{between, in_long, in_years, some_year, year_setting_at}
use Rattle.fields.specs.Bits.{bits_of, number_in, packed, octets_of, unpacked}
use Rattle.fields.specs.Integers.{half, within, fewest, twos, from_twos}
use Rattle.fields.specs.Fields.{binary_digits, width, field_bits, layout, field_width, bit_count}
use Rattle.fields.specs.Readings.{◌>>=◌, a_ranged, a_free, require, read_bits, read_ranged, read_free, run, natural}
use Rattle.rows.specs.Fields.{other_year, choice_of_year, year_fields, day_fields, date_fields, clock_fields, long_fraction, fraction_fields, hours_field}
use Rattle.rows.specs.Fields.{difference_fields, zone_fields, time_fields, fields_of}
use Rattle.rows.specs.Readings.{read_choice, read_year, read_day, read_date, read_clock, read_extended, read_fraction, read_minutes, difference_at, read_zone}
use Rattle.rows.specs.Readings.{read_time, read_value, read_octets}
use Rattle.durations.specs.Durations.{all_small, all_zero, duration_of, ends_at, exists_duration, shown, spellable, weeks_alone}
use Rattle.durations.specs.Fields.{duration_fields, extended, fraction_part, long_number, number_fields, presences}
use Rattle.durations.specs.Parts as Parts
use Rattle.durations.specs.Parts.{any_present, last_in, numbers, of_last, part_at, well_made}
use Rattle.durations.specs.Readings as Durations
use Rattle.durations.specs.Readings.{duration_in_octets, ended_by, read_after, read_fields, read_numbers, read_presences, read_tail}
use Rattle.durations.specs.Texts.{fraction_length, get_duration, get_end, get_number, get_part, get_parts, get_present, get_times, needless, number_digits}
use Rattle.durations.specs.Texts.{put_duration, put_number, put_part, put_parts, put_times, read_duration, render_duration}
use Rattle.kinds.specs.Coding.{judged_as, judged_text, encoded, compared, judged_octets, decoded}
use Rattle.per.specs.AnyPer.{count_of, encoding_of}
use Rattle.der_elements.specs.AnyDer.{element_of}
use Rattle.der_elements.specs.Elements as Elements
use Rattle.der_elements.specs.Elements.{contents_of, without}
use Rattle.der_elements.specs.Readings.{all_digits, digits_only, read_duration_element, read_element, separated}
use Rattle.exchanges.specs.Coding.{answer_of}
use Rattle.exchanges.specs.declared.entries.Entry.{Entry}

-- ---- the entry points, computed

unfoldable pub computed : Entry → List ℕ → Limits → List ℕ → Answer
unfolding up_to quotient remainder divisible month_length_of days_of_years new_year week_of week_one_of weeks_of astronomical_of year_at leap_of year_length_of
    put_after put_date get_week get_after get_date put_digits get_digits get_field leading render get_value read_up_to put_clock get_after_hours get_clock
    put_fraction get_fraction put_zone get_minutes get_difference get_zone put_time get_time size_in year_digits year_text signed_fits get_signed get_year split_on
    add_pair add_pairs dated_list timed_list complete completed list_of eq_list place_from fraction_number pair_of date_at clock_at zone_at lists_of same_but_year
    year_setting_at one_row equal_lists all_of distinct usable member years_of time_at list_type point_type joined type_of placed limited_to exists_clock
    exists_fraction exists_difference less_difference exists_leap exists_time same_date_form same_time_form between in_long in_years some_year admits_date
    admits_time in_type bits_of number_in packed octets_of unpacked half within fewest twos
    from_twos binary_digits width field_bits layout field_width bit_count ◌>>=◌ a_ranged a_free require read_bits read_ranged read_free run other_year choice_of_year
    year_fields day_fields date_fields clock_fields long_fraction fraction_fields hours_field difference_fields zone_fields time_fields fields_of read_choice read_year
    read_day read_date read_clock natural read_extended read_fraction read_minutes difference_at read_zone read_time read_value read_octets judged_as judged_text encoded
    compared judged_octets decoded encoding_of count_of octets_for fits outcome_of without contents_of Elements.element element_of all_digits digits_only separated
    read_element answer_of interval_list all_small all_zero duration_of ends_at exists_duration shown spellable weeks_alone duration_fields extended fraction_part
    long_number number_fields presences Parts.count any_present last_in numbers of_last part_at well_made Durations.read_extended duration_in_octets ended_by read_after
    read_fields read_numbers read_presences read_tail fraction_length get_duration get_end get_number get_part get_parts get_present get_times needless number_digits
    put_duration put_number put_part put_parts put_times read_duration render_duration read_duration_element
computed e settings limits input = answer_of e settings limits input

-- Whether an answer has this number, and after 0 this result and this bit count.
unfoldable pub answers : ℕ → List ℕ → ℕ → Answer → Bool
answers number octets count (done result bits) = eqb number 0 && eq_list octets result && eqb count bits.count
answers number octets count (refused why) = eqb number (number_of why)

-- ---- values

-- a type's text, a value's text, its canonical text, the octets in PER, their bit count, and the octets in DER
pub data Row : Type 0 where
  value : String → String → String → String → ℕ → String → Row

-- Whether a text gives these octets under a type's text, and they give the canonical text.
unfoldable pub both_ways : Entry → Entry → String → String → String → String → ℕ → Bool
both_ways write read s text canonical octets count =
    answers 0 (hex octets) count (computed write (bytes s) no_limits (bytes text))
    && answers 0 (bytes canonical) count (computed read (bytes s) no_limits (hex octets))

unfoldable pub all_right : List Row → Bool
all_right [] = true
all_right (value s text canonical octets count element ∷ l) =
    both_ways Entry.PerEncode Entry.PerDecode s text canonical octets count
    && both_ways Entry.DerEncode Entry.DerDecode s text canonical element 0
    && all_right l

-- ---- texts that are refused

-- a type's text with its limits, a text, and the number that encoding it in PER and in DER gives
pub data Refused : Type 0 where
  refuses : String → Limits → String → ℕ → Refused

-- Whether an answer is this refusal.
unfoldable pub refused_by : ℕ → Answer → Bool
refused_by number (done result bits) = false
refused_by number (refused why) = eqb number (number_of why)

unfoldable pub all_refused : List Refused → Bool
all_refused [] = true
all_refused (refuses s limits text number ∷ l) =
    refused_by number (computed Entry.PerEncode (bytes s) limits (bytes text))
    && refused_by number (computed Entry.DerEncode (bytes s) limits (bytes text))
    && all_refused l

-- ---- causes

-- a type's text with its limits, octets, the length of the lent room, and the number that decoding them from PER or from DER gives
pub data Cause : Type 0 where
  per_cause : String → Limits → String → ℕ → ℕ → Cause
  der_cause : String → Limits → String → ℕ → ℕ → Cause

-- The number of what an entry point makes of octets, with so much room.
unfoldable pub number_given : Entry → String → Limits → String → ℕ → ℕ
number_given read s limits octets room = (outcome_of (computed read (bytes s) limits (hex octets)) (replicate room 0)).number

unfoldable pub all_caused : List Cause → Bool
all_caused [] = true
all_caused (per_cause s limits octets room number ∷ l) = eqb (number_given Entry.PerDecode s limits octets room) number && all_caused l
all_caused (der_cause s limits octets room number ∷ l) = eqb (number_given Entry.DerDecode s limits octets room) number && all_caused l
