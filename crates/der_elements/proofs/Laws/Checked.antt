-- Checked elements have the octets that the reference gives: some of each tag, written and read; spellings that are read besides; and octets
-- that give nothing. Those of durations follow. Only a table refuses a tag or a length that writer and reader share.
use Rattle.std.specs.Prelude.{Option, Some, None}
use mathlib.Core.Path.{◌≡◌, refl}
use mathlib.Core.Bool.{true, false}
use mathlib.Core.List.{List, [], ◌∷◌}
use Prim.Native.Nat.{ℕ}
use Prim.Native.String.{String}
use lib.IntN.{pos, negsuc}
use Rattle.octets.specs.Octets.{eq_list}
use Rattle.answers.proofs.Laws.Quoted.{hex}
use Rattle.calendar.specs.Years.{astronomical_of, year_at}
use Rattle.calendar.specs.declared.dates.Date.{Date}
use Rattle.texts.specs.Dates.{get_after, get_date, get_week, put_after, put_date}
use Rattle.texts.specs.Digits.{get_digits, get_field, leading, put_digits}
use Rattle.texts.specs.Forms.{value_form}
use Rattle.texts.specs.Texts.{get_value, read_up_to, render}
use Rattle.texts.specs.Times.{get_after_hours, get_clock, get_difference, get_fraction, get_minutes, get_time, get_zone, put_clock, put_fraction, put_time, put_zone}
use Rattle.texts.specs.Years.{get_signed, get_year, signed_fits, size_in, year_digits, year_text}
use Rattle.texts.specs.declared.forms.ClockForm.{ClockForm}
use Rattle.texts.specs.declared.forms.DateForm.{DateForm}
use Rattle.texts.specs.declared.forms.Form.{Form}
use Rattle.texts.specs.declared.forms.TimeForm.{TimeForm}
use Rattle.texts.specs.declared.forms.ZoneForm.{ZoneForm}
use Rattle.texts.specs.declared.values.Clock.{Clock}
use Rattle.texts.specs.declared.values.Time.{Time}
use Rattle.texts.specs.declared.values.Value.{Value}
use Rattle.texts.specs.declared.values.Zone.{Zone}
use Rattle.types.specs.declared.types.Name.{Name}
use Rattle.durations.specs.Durations.{duration_of, shown, spellable}
use Rattle.durations.specs.Parts.{any_present, count, last_in, numbers, of_last, part_at, well_made}
use Rattle.durations.specs.Texts.{duration_text, fraction_length, get_duration, get_end, get_number, get_part, get_parts, get_present, get_times, needless}
use Rattle.durations.specs.Texts.{number_digits, put_duration, put_number, put_part, put_parts, put_times, read_duration, render_duration}
use Rattle.durations.specs.declared.Duration.{Duration}
use Rattle.der_elements.specs.Elements.{contents_of, element, element_of, without}
use Rattle.der_elements.specs.Readings.{all_digits, digits_only, read_duration_element, read_element, separated}

-- Local time is so far ahead of UTC, or so far behind it.
abbrev ahead : ℕ → ℕ → Zone
ahead hours minutes = Zone.LD (record { behind = false; hours = hours; minutes = minutes })

abbrev behind : ℕ → ℕ → Zone
behind hours minutes = Zone.LD (record { behind = true; hours = hours; minutes = minutes })

-- A time has the digits and the number of its fraction.
abbrev at : Clock → ℕ → ℕ → Zone → Time
at clock digits fraction zone = record { clock = clock; digits = digits; fraction = fraction; zone = zone }

-- The form of a local time of hours, minutes and seconds.
abbrev local_time : TimeForm
local_time = record { clock = ClockForm.HMS; digits = 0; zone = ZoneForm.L }

-- A row has a name and a value with its element, or with one that is read and not written, or octets that give nothing at the form of DATE, of
-- TIME-OF-DAY or of DATE-TIME, which are the useful time types (X.680 34 bis.4).
data Row : Type 0 where
  date : Name → Date → String → Row
  time : Name → Clock → ℕ → ℕ → Zone → String → Row
  both : Name → Date → Clock → ℕ → ℕ → Zone → String → Row
  loose_date : Name → Date → String → Row
  loose_time : Name → Clock → ℕ → ℕ → Zone → String → Row
  loose_both : Name → Date → Clock → ℕ → ℕ → Zone → String → Row
  no_date : Name → String → Row
  no_time : Name → String → Row
  no_both : Name → String → Row

-- The element of a value, and what octets give; or that alone.
data Coding : Type 0 where
  coding : List ℕ → Option Value → Coding
  reading : Option Value → Coding

-- What rows say.
said : List Row → List Coding
unfolding hex
said [] = []
said (date name d octets ∷ l) = coding (hex octets) (Some (Value.Date d)) ∷ said l
said (time name c n f z octets ∷ l) = coding (hex octets) (Some (Value.Time (at c n f z))) ∷ said l
said (both name d c n f z octets ∷ l) = coding (hex octets) (Some (Value.DateTime d (at c n f z))) ∷ said l
said (loose_date name d octets ∷ l) = reading (Some (Value.Date d)) ∷ said l
said (loose_time name c n f z octets ∷ l) = reading (Some (Value.Time (at c n f z))) ∷ said l
said (loose_both name d c n f z octets ∷ l) = reading (Some (Value.DateTime d (at c n f z))) ∷ said l
said (no_date name octets ∷ l) = reading None ∷ said l
said (no_time name octets ∷ l) = reading None ∷ said l
said (no_both name octets ∷ l) = reading None ∷ said l

-- What the definitions make of them.
reads : Name → Form → String → Option Value
unfolding hex astronomical_of year_at eq_list get_week get_after get_date get_digits get_field leading get_value read_up_to get_after_hours get_clock
    get_fraction get_minutes get_difference get_zone get_time size_in year_digits signed_fits get_signed get_year all_digits digits_only separated read_element
reads name form octets = read_element name form (hex octets)

makes : Name → Value → String → Coding
unfolding reads put_after put_date put_digits render put_clock put_fraction put_zone put_time size_in year_digits year_text without contents_of element element_of
makes name v octets = coding (element_of name v) (reads name (value_form v) octets)

made : List Row → List Coding
unfolding reads makes
made [] = []
made (date name d octets ∷ l) = makes name (Value.Date d) octets ∷ made l
made (time name c n f z octets ∷ l) = makes name (Value.Time (at c n f z)) octets ∷ made l
made (both name d c n f z octets ∷ l) = makes name (Value.DateTime d (at c n f z)) octets ∷ made l
made (loose_date name d octets ∷ l) = reading (reads name (value_form (Value.Date d)) octets) ∷ made l
made (loose_time name c n f z octets ∷ l) = reading (reads name (value_form (Value.Time (at c n f z))) octets) ∷ made l
made (loose_both name d c n f z octets ∷ l) = reading (reads name (value_form (Value.DateTime d (at c n f z))) octets) ∷ made l
made (no_date name octets ∷ l) = reading (reads name (Form.Date DateForm.YMD) octets) ∷ made l
made (no_time name octets ∷ l) = reading (reads name (Form.Time local_time) octets) ∷ made l
made (no_both name octets ∷ l) = reading (reads name (Form.DateTime DateForm.YMD local_time) octets) ∷ made l

tags : List Row
tags =
    -- "Any settings list: tag 0E, contents the canonical text."
    date Name.Listed (Date.YMD (year_at (pos 2006)) 6 13) "0E0A323030362D30362D3133" ∷
    date Name.Listed (Date.Y (year_at (negsuc 0))) "0E052D30303031" ∷
    date Name.Listed (Date.YWD (year_at (pos 12006)) 24 2) "0E0C2B31323030362D5732342D32" ∷
    time Name.Listed (Clock.HMS 15 27 46) 0 0 Zone.L "0E0831353A32373A3436" ∷
    time Name.Listed (Clock.HMS 15 27 46) 3 500 (ahead 1 0) "0E0F31353A32373A34362E3530302B3031" ∷
    time Name.Listed (Clock.HM 15 27) 0 0 (behind 9 30) "0E0B31353A32372D30393A3330" ∷
    both Name.Listed (Date.YD (year_at (pos 0)) 366) (Clock.H 23) 1 9 Zone.Z "0E0E303030302D3336365432332E395A" ∷
    both Name.Listed (Date.YMD (year_at (pos 2006)) 6 13) (Clock.HMS 15 27 46) 0 0 Zone.L "0E13323030362D30362D31335431353A32373A3436" ∷
    -- "DATE: 1F 1F, without `-`. TIME-OF-DAY: 1F 20, without `:`. DATE-TIME: 1F 21, without `-`, `:` and `T`."
    date Name.Date (Date.YMD (year_at (pos 2006)) 6 13) "1F1F083230303630363133" ∷
    date Name.Date (Date.YMD (year_at (pos 1582)) 1 1) "1F1F083135383230313031" ∷
    time Name.TimeOfDay (Clock.HMS 15 27 46) 0 0 Zone.L "1F2006313532373436" ∷
    time Name.TimeOfDay (Clock.HMS 24 0 0) 0 0 Zone.L "1F2006323430303030" ∷
    both Name.DateTime (Date.YMD (year_at (pos 2006)) 6 13) (Clock.HMS 15 27 46) 0 0 Zone.L "1F210E3230303630363133313532373436" ∷
    -- "a field of the right digit count is of the form at any number": month 13, weekday 8, hour 25
    date Name.Listed (Date.YM (year_at (pos 2006)) 13) "0E07323030362D3133" ∷
    date Name.Listed (Date.YWD (year_at (pos 2006)) 24 8) "0E0A323030362D5732342D38" ∷
    date Name.Date (Date.YMD (year_at (pos 2006)) 13 1) "1F1F083230303631333031" ∷
    time Name.TimeOfDay (Clock.HMS 25 0 0) 0 0 Zone.L "1F2006323530303030" ∷
    -- "octets left over"
    loose_date Name.Date (Date.YMD (year_at (pos 2006)) 6 13) "1F1F08323030363036313300" ∷
    loose_time Name.TimeOfDay (Clock.HMS 15 27 46) 0 0 Zone.L "1F2006313532373436FF" ∷ []

tags_checked : made tags ≡ said tags
unfolding tags said made
tags_checked = refl

spellings : List Row
spellings =
    -- "DER contents with a comma or `:00` count as of the form"
    loose_time Name.Listed (Clock.HMS 15 27 46) 3 500 Zone.L "0E0C31353A32373A34362C353030" ∷
    loose_time Name.Listed (Clock.H 15) 1 5 Zone.Z "0E0531352C355A" ∷
    loose_time Name.Listed (Clock.HM 15 27) 0 0 (ahead 1 0) "0E0B31353A32372B30313A3030" ∷
    loose_time Name.Listed (Clock.HMS 15 27 46) 3 500 (behind 9 0) "0E1231353A32373A34362C3530302D30393A3030" ∷
    loose_both Name.Listed (Date.YD (year_at (pos 0)) 366) (Clock.H 23) 1 9 Zone.Z "0E0E303030302D3336365432332C395A" ∷ []

spellings_checked : made spellings ≡ said spellings
unfolding spellings said made
spellings_checked = refl

left_over : List Row
left_over =
    -- "octets left over"
    loose_both Name.DateTime (Date.YMD (year_at (pos 2006)) 6 13) (Clock.HMS 15 27 46) 0 0 Zone.L "1F210E32303036303631333135323734360E00" ∷
    loose_date Name.Listed (Date.Y (year_at (pos 2006))) "0E04323030362D3036" ∷ []

left_over_checked : made left_over ≡ said left_over
unfolding left_over said made
left_over_checked = refl

unreadable : List Row
unreadable =
    -- "tag wrong"
    no_date Name.Listed "1F1F0A323030362D30362D3133" ∷
    no_date Name.Date "0E083230303630363133" ∷
    no_date Name.Date "1F20083230303630363133" ∷
    no_time Name.TimeOfDay "1F1F06313532373436" ∷
    no_both Name.DateTime "1F220E3230303630363133313532373436" ∷
    no_date Name.Date "1F" ∷
    no_date Name.Listed "" ∷
    -- "the DER length above 127, missing, or above the octets that follow"
    no_date Name.Date "1F1F" ∷
    no_date Name.Listed "0E" ∷
    no_date Name.Date "1F1F0832303036303631" ∷
    no_date Name.Listed "0E810A323030362D30362D3133" ∷
    -- "the contents are 8, 6 or 14 digits; any other octet or count is refusal 3"
    no_date Name.Date "1F1F0A323030362D30362D3133" ∷
    no_date Name.Date "1F1F0732303036363133" ∷
    no_date Name.Date "1F1F09323030363036313330" ∷
    no_date Name.Date "1F1F083230303630363154" ∷
    no_time Name.TimeOfDay "1F200831353A32373A3436" ∷
    no_time Name.TimeOfDay "1F200731353237343630" ∷
    no_time Name.TimeOfDay "1F200631353237343A" ∷
    no_both Name.DateTime "1F210F323030363036313354313532373436" ∷
    no_both Name.DateTime "1F210D32303036303631333135323734" ∷
    -- These contents are not of the form in full.
    no_date Name.Listed "0E083230303630363133" ∷
    no_date Name.Listed "0E0B323030362D30362D31335A" ∷
    no_time Name.Listed "0E06313532373436" ∷ []

nothing_checked : made unreadable ≡ said unreadable
unfolding unreadable said made
nothing_checked = refl

-- ---- durations

-- A duration's `last` place from 0, its seven numbers from years to seconds, the count of its fraction digits, and the number that they give.
abbrev of : ℕ → ℕ → ℕ → ℕ → ℕ → ℕ → ℕ → ℕ → ℕ → ℕ → Duration
of last years months weeks days hours minutes seconds digits fraction = record {
  last = last;
  years = years;
  months = months;
  weeks = weeks;
  days = days;
  hours = hours;
  minutes = minutes;
  seconds = seconds;
  digits = digits;
  fraction = fraction;
}

-- A row has a name and a duration with its element, or with one that is read and not written, or octets that give no duration.
data DurationRow : Type 0 where
  duration : Name → Duration → String → DurationRow
  loose_duration : Name → Duration → String → DurationRow
  no_duration : Name → String → DurationRow

-- The element of a duration, and what octets give; or that alone.
data DurationCoding : Type 0 where
  writing : List ℕ → Option Duration → DurationCoding
  given : Option Duration → DurationCoding

-- What rows say.
said_durations : List DurationRow → List DurationCoding
unfolding hex
said_durations [] = []
said_durations (duration name d octets ∷ l) = writing (hex octets) (Some d) ∷ said_durations l
said_durations (loose_duration name d octets ∷ l) = given (Some d) ∷ said_durations l
said_durations (no_duration name octets ∷ l) = given None ∷ said_durations l

-- What the definitions make of them.
reads_duration : Name → String → Option Duration
unfolding hex eq_list get_digits get_field leading get_fraction any_present count last_in numbers of_last part_at well_made duration_of needless get_number fraction_length
    get_end get_present get_part get_parts get_times get_duration read_duration read_duration_element
reads_duration name octets = read_duration_element name (hex octets)

made_durations : List DurationRow → List DurationCoding
unfolding reads_duration put_digits put_fraction size_in shown spellable number_digits put_number put_part put_parts put_times put_duration render_duration without
    contents_of element
made_durations [] = []
made_durations (duration name d octets ∷ l) = writing (element name (contents_of name (duration_text d))) (reads_duration name octets) ∷ made_durations l
made_durations (loose_duration name d octets ∷ l) = given (reads_duration name octets) ∷ made_durations l
made_durations (no_duration name octets ∷ l) = given (reads_duration name octets) ∷ made_durations l

durations : List DurationRow
durations =
    -- "the name DURATION, DER tag 1F 22, contents without `P`"
    duration Name.Duration (of 1 1 6 0 0 0 0 0 0 0) "1F22043159364D" ∷
    duration Name.Duration (of 6 0 0 0 0 0 0 0 1 5) "1F220554302E3553" ∷
    duration Name.Duration (of 3 0 0 0 1 0 0 0 0 0) "1F22023144" ∷
    duration Name.Duration (of 1 0 0 0 0 0 0 0 0 0) "1F2202304D" ∷
    duration Name.Duration (of 1 1 0 0 0 0 0 0 0 0) "1F22043159304D" ∷
    duration Name.Duration (of 2 0 0 5 0 0 0 0 0 0) "1F22023557" ∷
    duration Name.Duration (of 2 0 0 0 0 0 0 0 1 0) "1F2204302E3057" ∷
    duration Name.Duration (of 6 0 0 0 0 0 0 0 2 50) "1F220654302E353053" ∷
    duration Name.Duration (of 6 2 10 0 15 10 20 30 0 0) "1F2212325931304D3135445431304832304D333053" ∷
    duration Name.Duration (of 4 0 0 0 0 72 0 0 0 0) "1F220454373248" ∷
    duration Name.Duration (of 4 0 29 0 0 0 0 0 2 0) "1F220932394D54302E303048" ∷
    duration Name.Duration (of 6 999999999 999999999 0 999999999 999999999 999999999 999999999 9 999999999)
    "1F2247393939393939393939593939393939393939394D3939393939393939394454393939393939393939483939393939393939394D3939393939393939392E39393939393939393953" ∷
    -- "Any settings list: tag 0E, contents the canonical text."
    duration Name.Listed (of 1 1 6 0 0 0 0 0 0 0) "0E05503159364D" ∷
    duration Name.Listed (of 6 0 0 0 0 0 0 0 1 5) "0E065054302E3553" ∷
    duration Name.Listed (of 3 0 0 0 1 0 0 0 0 0) "0E03503144" ∷
    duration Name.Listed (of 1 0 0 0 0 0 0 0 0 0) "0E0350304D" ∷
    duration Name.Listed (of 1 1 0 0 0 0 0 0 0 0) "0E05503159304D" ∷
    duration Name.Listed (of 2 0 0 5 0 0 0 0 0 0) "0E03503557" ∷
    duration Name.Listed (of 2 0 0 0 0 0 0 0 1 0) "0E0550302E3057" ∷
    duration Name.Listed (of 6 0 0 0 0 0 0 0 2 50) "0E075054302E353053" ∷
    duration Name.Listed (of 6 2 10 0 15 10 20 30 0 0) "0E1350325931304D3135445431304832304D333053" ∷
    duration Name.Listed (of 4 0 0 0 0 72 0 0 0 0) "0E055054373248" ∷
    duration Name.Listed (of 4 0 29 0 0 0 0 0 2 0) "0E0A5032394D54302E303048" ∷
    duration Name.Listed (of 6 999999999 999999999 0 999999999 999999999 999999999 999999999 9 999999999)
    "0E4850393939393939393939593939393939393939394D3939393939393939394454393939393939393939483939393939393939394D3939393939393939392E39393939393939393953" ∷
    []

durations_checked : made_durations durations ≡ said_durations durations
unfolding durations said_durations made_durations
durations_checked = refl

loose_durations : List DurationRow
loose_durations =
    -- "DER contents with a comma .. count as of the form"
    loose_duration Name.Duration (of 6 0 0 0 0 0 0 0 1 5) "1F220554302C3553" ∷
    loose_duration Name.Listed (of 6 0 0 0 0 0 0 0 1 5) "0E065054302C3553" ∷
    loose_duration Name.Duration (of 2 0 0 1 0 0 0 0 1 5) "1F2204312C3557" ∷
    loose_duration Name.Listed (of 2 0 0 1 0 0 0 0 1 5) "0E0550312C3557" ∷
    loose_duration Name.Duration (of 1 1 6 0 0 0 0 0 1 5) "1F22063159362C354D" ∷
    loose_duration Name.Listed (of 1 1 6 0 0 0 0 0 1 5) "0E07503159362C354D" ∷
    -- "a zero component that should be gone", in each place, and with a comma
    loose_duration Name.Duration (of 3 0 0 0 1 0 0 0 0 0) "1F22063059304D3144" ∷
    loose_duration Name.Listed (of 3 0 0 0 1 0 0 0 0 0) "0E07503059304D3144" ∷
    loose_duration Name.Duration (of 1 0 0 0 0 0 0 0 0 0) "1F22043059304D" ∷
    loose_duration Name.Listed (of 1 0 0 0 0 0 0 0 0 0) "0E05503059304D" ∷
    loose_duration Name.Duration (of 1 0 1 0 0 0 0 0 0 0) "1F22043059314D" ∷
    loose_duration Name.Listed (of 1 0 1 0 0 0 0 0 0 0) "0E05503059314D" ∷
    loose_duration Name.Duration (of 3 1 0 0 1 0 0 0 0 0) "1F22063159304D3144" ∷
    loose_duration Name.Listed (of 3 1 0 0 1 0 0 0 0 0) "0E07503159304D3144" ∷
    loose_duration Name.Duration (of 4 0 0 0 0 1 0 0 0 0) "1F22053044543148" ∷
    loose_duration Name.Listed (of 4 0 0 0 0 1 0 0 0 0) "0E06503044543148" ∷
    loose_duration Name.Duration (of 5 0 0 0 0 0 1 0 0 0) "1F2205543048314D" ∷
    loose_duration Name.Listed (of 5 0 0 0 0 0 1 0 0 0) "0E0650543048314D" ∷
    loose_duration Name.Duration (of 6 0 0 0 0 0 0 1 0 0) "1F220554304D3153" ∷
    loose_duration Name.Listed (of 6 0 0 0 0 0 0 1 0 0) "0E065054304D3153" ∷
    loose_duration Name.Duration (of 6 0 0 0 0 0 0 0 0 0) "1F220D3059304D3044543048304D3053" ∷
    loose_duration Name.Listed (of 6 0 0 0 0 0 0 0 0 0) "0E0E503059304D3044543048304D3053" ∷
    loose_duration Name.Duration (of 4 0 29 0 0 0 0 0 2 0) "1F220D305932394D304454302C303048" ∷
    loose_duration Name.Listed (of 4 0 29 0 0 0 0 0 2 0) "0E0E50305932394D304454302C303048" ∷
    -- "octets left over"
    loose_duration Name.Duration (of 1 1 6 0 0 0 0 0 0 0) "1F22043159364D00" ∷
    loose_duration Name.Duration (of 3 0 0 0 1 0 0 0 0 0) "1F220231441F22023144" ∷
    loose_duration Name.Listed (of 1 1 6 0 0 0 0 0 0 0) "0E05503159364D00" ∷
    loose_duration Name.Listed (of 3 0 0 0 1 0 0 0 0 0) "0E0550304D3144FF" ∷
    loose_duration Name.Duration (of 0 1 0 0 0 0 0 0 0 0) "1F22023159364D" ∷
    loose_duration Name.Listed (of 0 1 0 0 0 0 0 0 0 0) "0E03503159364D" ∷
    []

loose_durations_checked : made_durations loose_durations ≡ said_durations loose_durations
unfolding loose_durations said_durations made_durations
loose_durations_checked = refl

no_durations : List DurationRow
no_durations =
    -- `P` in the contents under 1F 22, and none under 0E
    no_duration Name.Duration "1F2205503159364D" ∷
    no_duration Name.Duration "1F22065054302E3553" ∷
    no_duration Name.Listed "0E043159364D" ∷
    no_duration Name.Listed "0E0554302E3553" ∷
    -- empty contents, and no component
    no_duration Name.Duration "1F2200" ∷
    no_duration Name.Duration "1F220154" ∷
    no_duration Name.Duration "1F220150" ∷
    no_duration Name.Listed "0E00" ∷
    no_duration Name.Listed "0E0150" ∷
    no_duration Name.Listed "0E025054" ∷
    -- "tag wrong": those of the two exchanged, those beside 1F 22, one octet, and none
    no_duration Name.Duration "0E05503159364D" ∷
    no_duration Name.Duration "0E043159364D" ∷
    no_duration Name.Listed "1F22043159364D" ∷
    no_duration Name.Listed "1F2205503159364D" ∷
    no_duration Name.Duration "1F21043159364D" ∷
    no_duration Name.Duration "1F23043159364D" ∷
    no_duration Name.Duration "1F" ∷
    no_duration Name.Duration "" ∷
    no_duration Name.Listed "0F05503159364D" ∷
    no_duration Name.Listed "" ∷
    -- "the DER length above 127, missing, or above the octets that follow"
    no_duration Name.Duration "1F22" ∷
    no_duration Name.Duration "1F2281043159364D" ∷
    no_duration Name.Duration "1F22843159364D" ∷
    no_duration Name.Duration "1F22053159364D" ∷
    no_duration Name.Listed "0E" ∷
    no_duration Name.Listed "0E8105503159364D" ∷
    no_duration Name.Listed "0E06503159364D" ∷
    -- contents that are not of the form
    no_duration Name.Duration "1F2203303159" ∷
    no_duration Name.Listed "0E0450303159" ∷
    no_duration Name.Duration "1F2206312E3559324D" ∷
    no_duration Name.Listed "0E0750312E3559324D" ∷
    no_duration Name.Duration "1F220B3130303030303030303059" ∷
    no_duration Name.Listed "0E0C503130303030303030303059" ∷
    no_duration Name.Duration "1F220431573244" ∷
    no_duration Name.Listed "0E055031573244" ∷
    no_duration Name.Duration "1F220430573144" ∷
    no_duration Name.Listed "0E055030573144" ∷
    no_duration Name.Duration "1F2204314D3159" ∷
    no_duration Name.Listed "0E0550314D3159" ∷
    no_duration Name.Duration "1F22023148" ∷
    no_duration Name.Listed "0E03503148" ∷
    no_duration Name.Duration "1F2203315920" ∷
    no_duration Name.Listed "0E0450315920" ∷
    -- under the other names there is no duration
    no_duration Name.Date "1F1F083230303630363133" ∷
    no_duration Name.Date "1F1F043159364D" ∷
    no_duration Name.TimeOfDay "1F2006313532373436" ∷
    no_duration Name.TimeOfDay "1F200554302E3553" ∷
    no_duration Name.DateTime "1F210E3230303630363133313532373436" ∷
    no_duration Name.DateTime "1F21043159364D" ∷
    []

no_durations_checked : made_durations no_durations ≡ said_durations no_durations
unfolding no_durations said_durations made_durations
no_durations_checked = refl
