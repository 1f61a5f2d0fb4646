-- Checked values: a success row for each row of Table 2, with the octets and the bit count that the reference gives, written and read. Only
-- a table refuses an order, a width or a range that writer and reader share.
use Rattle.std.specs.Prelude.{None}
use mathlib.Core.Path.{◌≡◌, refl}
use mathlib.Core.Bool.{Bool, true, false}
use mathlib.Core.List.{List, [], ◌∷◌}
use Prim.Native.Nat.{ℕ}
use Prim.Native.String.{String}
use lib.IntN.{pos, negsuc}
use lib.ListN.{drop}
use Rattle.octets.specs.Found.{Found, found, nothing}
use Rattle.answers.specs.Counts.{octets_for}
use Rattle.calendar.specs.Years.{astronomical_of, year_at}
use Rattle.calendar.specs.declared.dates.Date.{Date}
use Rattle.texts.specs.Forms.{date_form, time_form, value_form}
use Rattle.texts.specs.declared.forms.ClockForm.{ClockForm}
use Rattle.texts.specs.declared.forms.DateForm.{DateForm}
use Rattle.texts.specs.declared.forms.Form.{Form}
use Rattle.texts.specs.declared.forms.ZoneForm.{ZoneForm}
use Rattle.texts.specs.declared.values.Clock.{Clock}
use Rattle.texts.specs.declared.values.Time.{Time}
use Rattle.texts.specs.declared.values.Value.{Value}
use Rattle.texts.specs.declared.values.Zone.{Zone}
use Rattle.types.specs.declared.types.DateType.{DateType}
use Rattle.types.specs.Types.{listed}
use Rattle.types.specs.declared.types.Parts.{Parts}
use Rattle.types.specs.declared.years.Years.{Years}
use Rattle.fields.specs.Bits.{bits_of, number_in, packed, octets_of, unpacked}
use Rattle.fields.specs.Integers.{half, within, fewest, twos, from_twos}
use Rattle.fields.specs.Fields.{binary_digits, width, field_bits, layout, field_width, bit_count}
use Rattle.fields.specs.Readings.{◌>>=◌, a_ranged, a_free, require, read_bits, read_ranged, read_free, run, natural}
use Rattle.answers.proofs.Laws.Quoted.{hex}
use Rattle.types.specs.declared.years.YearRow.{YearRow}
use Rattle.rows.specs.Fields.{year_row_of, other_year, choice_of_year, year_fields, day_fields, date_fields, clock_fields, long_fraction, fraction_fields}
use Rattle.rows.specs.Fields.{hours_field, difference_fields, zone_fields, time_fields, fields_of}
use Rattle.rows.specs.Readings.{read_choice, read_year, read_day, read_date, read_clock, read_extended, read_fraction, read_minutes, difference_at}
use Rattle.rows.specs.Readings.{read_zone, read_time, read_value, read_octets}

-- Local time so far ahead of UTC, and so far behind it.
abbrev ahead : ℕ → ℕ → Zone
ahead hours minutes = Zone.LD (record { behind = false; hours = hours; minutes = minutes })

abbrev behind : ℕ → ℕ → Zone
behind hours minutes = Zone.LD (record { behind = true; hours = hours; minutes = minutes })

-- A time with the digits and the number of its fraction.
abbrev at : Clock → ℕ → ℕ → Zone → Time
at clock digits fraction zone = record { clock = clock; digits = digits; fraction = fraction; zone = zone }

-- Year settings that a type names, and the row of years of a type with a date, and of one with a time besides.
abbrev plain_years : Bool → Bool → Years
plain_years basic proleptic = Years.Plain (record { basic = basic; proleptic = proleptic })

abbrev signed_years : Bool → Bool → Bool → Bool → Bool → Bool → Years
signed_years a b c d e f = Years.Signed (record { negative = a; five = b; six = c; seven = d; eight = e; nine = f })

abbrev basic : Years
basic = plain_years true false

abbrev proleptic : Years
proleptic = plain_years false true

abbrev plain : Years
plain = plain_years true true

abbrev negative : Years
negative = signed_years true false false false false false

abbrev five : Years
five = signed_years false true false false false false

abbrev six : Years
six = signed_years false false true false false false

abbrev seven : Years
seven = signed_years false false false true false false

abbrev eight : Years
eight = signed_years false false false false true false

abbrev nine : Years
nine = signed_years false false false false false true

abbrev signed : Years
signed = signed_years true true true true true true

abbrev dates_of : Years → Date → DateType
dates_of years d = record { form = date_form d; years = years; window = None }

abbrev date_row : Years → Date → YearRow
date_row years d = year_row_of (listed (Parts.Date (dates_of years d)))

abbrev both_row : Years → Date → Time → YearRow
both_row years d t = year_row_of (listed (Parts.DateTime (dates_of years d) (record { form = time_form t; hour24 = true })))

-- a row of years, or a type's Year settings, and a value, its octets and their bit count
data Row : Type 0 where
  date : YearRow → Date → String → ℕ → Row
  time : Clock → ℕ → ℕ → Zone → String → ℕ → Row
  both : YearRow → Date → Clock → ℕ → ℕ → Zone → String → ℕ → Row
  typed_date : Years → Date → String → ℕ → Row
  typed_both : Years → Date → Clock → ℕ → ℕ → Zone → String → ℕ → Row

-- The octets of a value, their bit count, and what octets give at its form.
data Coding : Type 0 where
  coding : List ℕ → ℕ → Found Bool Value → Coding

-- A value, with all that is behind so many bits of octets.
read_to : Value → List ℕ → ℕ → Found Bool Value
unfolding bits_of unpacked
read_to v octets count = found v (drop count (unpacked octets))

-- What a row says: the octets of its value, their bit count, and that they are read as the value.
says_of : Value → List ℕ → ℕ → Coding
says_of v octets count = coding octets count (read_to v octets count)

said : List Row → List Coding
unfolding hex says_of read_to
said [] = []
said (date y d octets count ∷ l) = says_of (Value.Date d) (hex octets) count ∷ said l
said (time c n f z octets count ∷ l) = says_of (Value.Time (at c n f z)) (hex octets) count ∷ said l
said (both y d c n f z octets count ∷ l) = says_of (Value.DateTime d (at c n f z)) (hex octets) count ∷ said l
said (typed_date y d octets count ∷ l) = says_of (Value.Date d) (hex octets) count ∷ said l
said (typed_both y d c n f z octets count ∷ l) = says_of (Value.DateTime d (at c n f z)) (hex octets) count ∷ said l

-- What the definitions make of a row: the octets of its value, their bit count, and what its octets give.
makes_of : YearRow → Value → List ℕ → Coding
unfolding octets_for astronomical_of year_at bits_of number_in packed octets_of unpacked half within fewest twos from_twos binary_digits width field_bits layout
    field_width bit_count ◌>>=◌ a_ranged a_free require read_bits read_ranged read_free run other_year choice_of_year year_fields day_fields date_fields clock_fields
    long_fraction fraction_fields hours_field difference_fields zone_fields time_fields fields_of read_choice read_year read_day read_date read_clock natural read_extended
    read_fraction read_minutes difference_at read_zone read_time read_value read_octets
makes_of y v octets = coding (octets_of (layout (fields_of y v))) (bit_count (fields_of y v)) (read_octets y (value_form v) octets)

made : List Row → List Coding
unfolding hex makes_of
made [] = []
made (date y d octets count ∷ l) = makes_of y (Value.Date d) (hex octets) ∷ made l
made (time c n f z octets count ∷ l) = makes_of YearRow.Year (Value.Time (at c n f z)) (hex octets) ∷ made l
made (both y d c n f z octets count ∷ l) = makes_of y (Value.DateTime d (at c n f z)) (hex octets) ∷ made l
made (typed_date y d octets count ∷ l) = makes_of (date_row y d) (Value.Date d) (hex octets) ∷ made l
made (typed_both y d c n f z octets count ∷ l) = makes_of (both_row y d (at c n f z)) (Value.DateTime d (at c n f z)) (hex octets) ∷ made l

-- ---- Y: the years.

years : List Row
years =
    -- "0: year - 2005 in 4 bits (2005 to 2020)"
    date YearRow.Year (Date.Y (year_at (pos 2005))) "00" 6 ∷
    date YearRow.Year (Date.Y (year_at (pos 2006))) "04" 6 ∷
    date YearRow.Year (Date.Y (year_at (pos 2020))) "3C" 6 ∷
    -- "1: year - 2021 in 8 (2021 to 2276)"
    date YearRow.Year (Date.Y (year_at (pos 2021))) "4000" 10 ∷
    date YearRow.Year (Date.Y (year_at (pos 2276))) "7FC0" 10 ∷
    -- "2: year - 1749 in 8 (1749 to 2004)"
    date YearRow.Year (Date.Y (year_at (pos 1749))) "8000" 10 ∷
    date YearRow.Year (Date.Y (year_at (pos 2004))) "BFC0" 10 ∷
    -- "3: other years, as a free integer"
    date YearRow.Year (Date.Y (year_at (pos 1748))) "C081B500" 26 ∷
    date YearRow.Year (Date.Y (year_at (pos 2277))) "C0823940" 26 ∷
    date YearRow.Year (Date.Y (year_at (pos 0))) "C04000" 18 ∷
    -- "Year, Negative or L5: a free integer, no choice bits"
    date YearRow.AnyYear (Date.Y (year_at (negsuc 0))) "01FF" 16 ∷
    date YearRow.AnyYear (Date.Y (year_at (negsuc 127))) "0180" 16 ∷
    date YearRow.AnyYear (Date.Y (year_at (negsuc 128))) "02FF7F" 24 ∷
    date YearRow.AnyYear (Date.Y (year_at (pos 10000))) "022710" 24 ∷
    date YearRow.AnyYear (Date.Y (year_at (pos 32767))) "027FFF" 24 ∷
    date YearRow.AnyYear (Date.Y (year_at (pos 32768))) "03008000" 32 ∷
    date YearRow.AnyYear (Date.Y (year_at (negsuc 99998))) "03FE7961" 32 ∷ []

years_checked : made years ≡ said years
unfolding years said made
years_checked = refl

-- ---- YM, YMD, YD, YW and YWD: what stands after the year.

dates : List Row
dates =
    -- "Month - 1 in 4 bits"
    date YearRow.Year (Date.YM (year_at (pos 2006)) 6) "0540" 10 ∷
    date YearRow.Year (Date.YM (year_at (pos 0)) 6) "C04014" 22 ∷
    date YearRow.AnyYear (Date.YM (year_at (negsuc 128)) 6) "02FF7F50" 28 ∷
    date YearRow.Year (Date.YM (year_at (pos 2020)) 12) "3EC0" 10 ∷
    -- "day - 1 in 5"
    date YearRow.Year (Date.YMD (year_at (pos 2006)) 6 13) "0558" 15 ∷
    date YearRow.Year (Date.YMD (year_at (pos 0)) 6 13) "C0401580" 27 ∷
    date YearRow.AnyYear (Date.YMD (year_at (negsuc 128)) 6 13) "02FF7F5600" 33 ∷
    date YearRow.Year (Date.YMD (year_at (pos 2020)) 12 31) "3EFC" 15 ∷
    -- 30 February, which has its place in the fields
    date YearRow.Year (Date.YMD (year_at (pos 2006)) 2 30) "047A" 15 ∷
    -- "ordinal day - 1 in 9"
    date YearRow.Year (Date.YD (year_at (pos 2006)) 164) "0546" 15 ∷
    date YearRow.Year (Date.YD (year_at (pos 0)) 164) "C0401460" 27 ∷
    date YearRow.AnyYear (Date.YD (year_at (negsuc 128)) 164) "02FF7F5180" 33 ∷
    date YearRow.Year (Date.YD (year_at (pos 2020)) 366) "3EDA" 15 ∷
    -- "week - 1 in 6"
    date YearRow.Year (Date.YW (year_at (pos 2006)) 24) "0570" 12 ∷
    date YearRow.Year (Date.YW (year_at (pos 0)) 24) "C04017" 24 ∷
    date YearRow.AnyYear (Date.YW (year_at (negsuc 128)) 24) "02FF7F5C" 30 ∷
    date YearRow.Year (Date.YW (year_at (pos 2020)) 53) "3F40" 12 ∷
    -- "weekday - 1 in 3"
    date YearRow.Year (Date.YWD (year_at (pos 2006)) 24 2) "0572" 15 ∷
    date YearRow.Year (Date.YWD (year_at (pos 0)) 24 2) "C0401720" 27 ∷
    date YearRow.AnyYear (Date.YWD (year_at (negsuc 128)) 24 2) "02FF7F5C80" 33 ∷
    date YearRow.Year (Date.YWD (year_at (pos 2020)) 53 7) "3F4C" 15 ∷ []

dates_checked : made dates ≡ said dates
unfolding dates said made
dates_checked = refl

-- ---- H, HM and HMS, in L and Z.

clocks : List Row
clocks =
    -- "Hours 5 bits, minutes 6, seconds 6"; "`Z` takes no bits"
    time (Clock.H 15) 0 0 Zone.L "78" 5 ∷
    time (Clock.H 15) 0 0 Zone.Z "78" 5 ∷
    time (Clock.HM 15 27) 0 0 Zone.L "7B60" 11 ∷
    time (Clock.HM 15 27) 0 0 Zone.Z "7B60" 11 ∷
    time (Clock.HMS 15 27 46) 0 0 Zone.L "7B7700" 17 ∷
    time (Clock.HMS 15 27 46) 0 0 Zone.Z "7B7700" 17 ∷
    time (Clock.H 24) 0 0 Zone.L "C0" 5 ∷
    time (Clock.HM 0 59) 0 0 Zone.L "0760" 11 ∷
    time (Clock.HMS 23 59 60) 0 0 Zone.L "BF7E00" 17 ∷ []

clocks_checked : made clocks ≡ said clocks
unfolding clocks said made
clocks_checked = refl

-- ---- HFn.

fractions : List Row
fractions =
    -- "the n digits as a number: up to 999, a 0 bit and 10 bits"
    time (Clock.H 15) 1 0 Zone.L "7800" 16 ∷
    time (Clock.H 15) 1 5 Zone.L "7805" 16 ∷
    time (Clock.H 15) 3 500 Zone.L "79F4" 16 ∷
    time (Clock.H 15) 4 999 Zone.L "7BE7" 16 ∷
    -- "from 1000, a 1 bit and a free integer"
    time (Clock.H 15) 4 1000 Zone.L "7C080FA0" 30 ∷
    time (Clock.H 15) 5 32768 Zone.L "7C0C020000" 38 ∷
    time (Clock.H 15) 9 999999999 Zone.L "7C10EE6B27FC" 46 ∷ []

fractions_checked : made fractions ≡ said fractions
unfolding fractions said made
fractions_checked = refl

-- ---- H in LD.

differences : List Row
differences =
    -- no minutes, and hours from -15 to 16
    time (Clock.H 15) 0 0 (ahead 0 0) "79E0" 11 ∷
    time (Clock.H 15) 0 0 (ahead 1 0) "7A00" 11 ∷
    time (Clock.H 15) 0 0 (ahead 16 0) "7BE0" 11 ∷
    time (Clock.H 15) 0 0 (behind 1 0) "79C0" 11 ∷
    time (Clock.H 15) 0 0 (behind 15 0) "7800" 11 ∷
    -- minutes, 1 to 59
    time (Clock.H 15) 0 0 (ahead 0 1) "7DE000" 17 ∷
    time (Clock.H 15) 0 0 (ahead 15 59) "7FDD00" 17 ∷
    time (Clock.H 15) 0 0 (behind 9 30) "7CCE80" 17 ∷
    time (Clock.H 15) 0 0 (behind 15 59) "7C1D00" 17 ∷ []

differences_checked : made differences ≡ said differences
unfolding differences said made
differences_checked = refl

-- ---- The years of a type.

typed : List Row
typed =
    -- "Year, Basic or Proleptic: two choice bits."
    typed_date basic (Date.Y (year_at (pos 2006))) "04" 6 ∷
    typed_date proleptic (Date.Y (year_at (pos 0))) "C04000" 18 ∷
    typed_date plain (Date.Y (year_at (pos 1749))) "8000" 10 ∷
    typed_both basic (Date.YMD (year_at (pos 2006)) 6 13) (Clock.H 15) 0 0 Zone.L "0558F0" 20 ∷
    typed_both proleptic (Date.Y (year_at (pos 0))) (Clock.H 15) 0 0 Zone.L "C0401E" 23 ∷
    typed_both plain (Date.Y (year_at (pos 2006))) (Clock.H 15) 0 0 Zone.L "05E0" 11 ∷
    -- "Year, Negative or L5: a free integer, no choice bits."
    typed_date negative (Date.Y (year_at (negsuc 0))) "01FF" 16 ∷
    typed_date five (Date.Y (year_at (pos 10000))) "022710" 24 ∷
    typed_date signed (Date.Y (year_at (negsuc 9999))) "02D8F0" 24 ∷
    typed_date six (Date.Y (year_at (pos 100000))) "030186A0" 32 ∷
    typed_date six (Date.Y (year_at (negsuc 999998))) "03F0BDC1" 32 ∷
    typed_date seven (Date.Y (year_at (pos 1000000))) "030F4240" 32 ∷
    typed_date seven (Date.Y (year_at (negsuc 9999998))) "04FF676981" 40 ∷
    typed_date eight (Date.Y (year_at (pos 10000000))) "0400989680" 40 ∷
    typed_date eight (Date.Y (year_at (negsuc 99999998))) "04FA0A1F01" 40 ∷
    typed_date nine (Date.Y (year_at (pos 100000000))) "0405F5E100" 40 ∷
    typed_date nine (Date.Y (year_at (negsuc 999999998))) "04C4653601" 40 ∷
    typed_date signed (Date.Y (year_at (pos 8388607))) "037FFFFF" 32 ∷
    typed_date signed (Date.Y (year_at (pos 8388608))) "0400800000" 40 ∷
    typed_date signed (Date.Y (year_at (negsuc 8388607))) "03800000" 32 ∷
    typed_date signed (Date.Y (year_at (negsuc 8388608))) "04FF7FFFFF" 40 ∷
    typed_date signed (Date.Y (year_at (pos 999999999))) "043B9AC9FF" 40 ∷
    typed_date signed (Date.Y (year_at (negsuc 999999998))) "04C4653601" 40 ∷
    typed_both nine (Date.YMD (year_at (negsuc 999999998)) 6 13) (Clock.H 15) 0 0 Zone.L "04C4653601563C" 54 ∷
    typed_both negative (Date.Y (year_at (negsuc 0))) (Clock.H 15) 0 0 Zone.L "01FF78" 21 ∷
    typed_both five (Date.Y (year_at (pos 10000))) (Clock.H 15) 0 0 Zone.L "02271078" 29 ∷
    typed_both signed (Date.YMD (year_at (negsuc 0)) 6 13) (Clock.H 15) 0 0 Zone.L "01FF563C" 30 ∷ []

types_checked : made typed ≡ said typed
unfolding typed said made
types_checked = refl

-- ---- Dates with times.

pairs : List Row
pairs =
    -- "Date-time: the date's bits, then the time's"
    both YearRow.Year (Date.Y (year_at (pos 2006))) (Clock.H 15) 0 0 Zone.L "05E0" 11 ∷
    both YearRow.Year (Date.YM (year_at (pos 2006)) 6) (Clock.HM 15 27) 0 0 Zone.Z "055ED8" 21 ∷
    both YearRow.Year (Date.YD (year_at (pos 1581)) 164) (Clock.H 15) 1 5 Zone.L "C0818B546F00A0" 51 ∷
    both YearRow.AnyYear (Date.YW (year_at (negsuc 128)) 24) (Clock.HM 15 27) 5 12345 Zone.Z "02FF7F5DEDC08C0E40" 66 ∷ []

date_times_checked : made pairs ≡ said pairs
unfolding pairs said made
date_times_checked = refl

-- ---- HMFn and HMSFn, in Z and LD, alone and after a date.

mixed : List Row
mixed =
    -- a fraction and a difference
    time (Clock.HM 15 27) 3 500 Zone.Z "7B67D0" 22 ∷
    time (Clock.HM 15 27) 4 1000 (ahead 1 0) "7B70203E8400" 42 ∷
    time (Clock.HMS 15 27 46) 3 500 (behind 9 30) "7B771F499D" 40 ∷
    time (Clock.HMS 15 27 46) 9 999999999 Zone.Z "7B77410EE6B27FC0" 58 ∷
    -- a date with a time that has a difference
    both YearRow.Year (Date.YMD (year_at (pos 2006)) 6 13) (Clock.HMS 15 27 46) 0 0 (behind 9 30) "0558F6EE99D0" 44 ∷
    both YearRow.AnyYear (Date.YWD (year_at (pos 10000)) 24 2) (Clock.HMS 15 27 46) 3 500 (ahead 1 0) "0227105CBDBB8FA200" 67 ∷ []

rows_checked : made mixed ≡ said mixed
unfolding mixed said made
rows_checked = refl

-- ---- what is read besides, and what is not

-- octets that give a value and that the encoder does not write, with the bits that are read; octets that give nothing at a form
data Read : Type 0 where
  loose_date : YearRow → Date → String → ℕ → Read
  loose_time : Clock → ℕ → ℕ → Zone → String → ℕ → Read
  no_date : YearRow → DateForm → String → Read
  no_time : ClockForm → ℕ → ZoneForm → String → Read

gives : List Read → List (Found Bool Value)
unfolding hex read_to
gives [] = []
gives (loose_date y d octets count ∷ l) = read_to (Value.Date d) (hex octets) count ∷ gives l
gives (loose_time c n f z octets count ∷ l) = read_to (Value.Time (at c n f z)) (hex octets) count ∷ gives l
gives (no_date y f octets ∷ l) = nothing ∷ gives l
gives (no_time c n z octets ∷ l) = nothing ∷ gives l

reads : List Read → List (Found Bool Value)
unfolding hex makes_of
reads [] = []
reads (loose_date y d octets count ∷ l) = read_octets y (value_form (Value.Date d)) (hex octets) ∷ reads l
reads (loose_time c n f z octets count ∷ l) = read_octets YearRow.Year (value_form (Value.Time (at c n f z))) (hex octets) ∷ reads l
reads (no_date y f octets ∷ l) = read_octets y (Form.Date f) (hex octets) ∷ reads l
reads (no_time c n z octets ∷ l) = read_octets YearRow.Year (Form.Time (record { clock = c; digits = n; zone = z })) (hex octets) ∷ reads l

spellings : List Read
spellings =
    -- "integer not shortest", in two to four octets; "choice 3 for 1749 to 2276"
    loose_date YearRow.AnyYear (Date.Y (year_at (negsuc 0))) "02FFFF" 24 ∷
    loose_date YearRow.AnyYear (Date.Y (year_at (pos 129))) "03000081" 32 ∷
    loose_date YearRow.AnyYear (Date.Y (year_at (negsuc 128))) "04FFFFFF7F" 40 ∷
    loose_date YearRow.Year (Date.Y (year_at (pos 2010))) "C081F680" 26 ∷
    loose_date YearRow.Year (Date.Y (year_at (pos 1749))) "C081B540" 26 ∷
    -- "a fraction up to 999 after a 1 bit"; "filling not zero"; "octets left over"
    loose_time (Clock.H 15) 1 5 Zone.L "7C0414" 22 ∷
    loose_time (Clock.H 15) 0 0 Zone.L "7F" 5 ∷
    loose_date YearRow.Year (Date.YMD (year_at (pos 2006)) 6 13) "0558FF" 15 ∷ []

loose_checked : reads spellings ≡ gives spellings
unfolding spellings gives reads
loose_checked = refl

unreadable : List Read
unreadable =
    -- "octets end inside a field", of a range, of a length and of an integer
    no_date YearRow.Year DateForm.YMD "05" ∷
    no_date YearRow.AnyYear DateForm.Y "" ∷
    no_date YearRow.AnyYear DateForm.Y "02FF" ∷
    -- "a field's bits above its range": month 13, day 32, ordinal day 367, week 54, weekday 8
    no_date YearRow.Year DateForm.YM "0700" ∷
    no_date YearRow.Year DateForm.YMD "0700" ∷
    no_date YearRow.Year DateForm.YMD "043E" ∷
    no_date YearRow.Year DateForm.YD "06DC" ∷
    no_date YearRow.Year DateForm.YW "0750" ∷
    no_date YearRow.Year DateForm.YWD "0750" ∷
    no_date YearRow.Year DateForm.YWD "057E" ∷
    -- hour 25, minute 60, second 61, fraction 1000 after a 0 bit, minutes 60 of a difference
    no_time ClockForm.H 0 ZoneForm.L "C8" ∷
    no_time ClockForm.HM 0 ZoneForm.L "C800" ∷
    no_time ClockForm.HMS 0 ZoneForm.L "C80000" ∷
    no_time ClockForm.HM 0 ZoneForm.L "0780" ∷
    no_time ClockForm.HMS 0 ZoneForm.L "078000" ∷
    no_time ClockForm.HMS 0 ZoneForm.L "001E80" ∷
    no_time ClockForm.H 4 ZoneForm.L "7BE8" ∷
    no_time ClockForm.H 0 ZoneForm.LD "7DDD80" ∷
    -- "a free integer's length not 1 to 4"
    no_date YearRow.AnyYear DateForm.Y "00" ∷
    no_date YearRow.AnyYear DateForm.Y "05FFFFFFFFFF" ∷
    no_date YearRow.Year DateForm.Y "C000" ∷
    -- "a fraction negative or of more than n digits"
    no_time ClockForm.H 2 ZoneForm.L "7C07FC" ∷
    no_time ClockForm.H 1 ZoneForm.L "780A" ∷
    no_time ClockForm.H 2 ZoneForm.L "7C080258" ∷
    no_time ClockForm.H 9 ZoneForm.L "7C10EE6B2800" ∷ []

nothing_checked : reads unreadable ≡ gives unreadable
unfolding unreadable gives reads
nothing_checked = refl
