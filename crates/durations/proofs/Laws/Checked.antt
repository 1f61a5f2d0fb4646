-- Checked durations: texts with their canonical texts, their octets in PER and the bit counts, and back; texts that are refused; and octets with the
-- number that they meet. Only a table refuses a range or an order that writer and reader share.
use Rattle.std.specs.Prelude.{Option, Some, None}
use mathlib.Core.Path.{◌≡◌, refl}
use mathlib.Core.Bool.{◌&&◌, Bool, true, false, cond}
use mathlib.Core.List.{◌∷◌, List, []}
use Prim.Native.Nat.{ℕ}
use Prim.Native.String.{String}
use lib.Dec.{eqb}
use Rattle.octets.specs.Found.{Found, found, nothing}
use Rattle.octets.specs.Octets.{bytes, eq_list}
use Rattle.answers.proofs.Laws.Quoted.{hex}
use Rattle.answers.specs.Counts.{octets_for}
use Rattle.texts.specs.Digits.{put_digits, get_digits, get_field, leading}
use Rattle.texts.specs.Times.{put_fraction, get_fraction}
use Rattle.texts.specs.Years.{size_in}
use Rattle.fields.specs.Bits.{bits_of, number_in, packed, octets_of, unpacked}
use Rattle.fields.specs.Integers.{half, within, fewest, twos, from_twos}
use Rattle.fields.specs.Fields.{binary_digits, width, field_bits, layout, field_width, bit_count}
use Rattle.fields.specs.Readings.{◌>>=◌, a_ranged, a_free, require, read_bits, read_ranged, read_free, run, natural}
use Rattle.durations.specs.declared.Duration.{Duration}
use Rattle.durations.specs.Parts.{count, any_present, last_in, of_last, numbers, part_at, well_made}
use Rattle.durations.specs.Durations.{shown, spellable, duration_of, all_zero, ends_at, all_small, weeks_alone, exists_duration}
use Rattle.durations.specs.Texts.{number_digits, put_number, put_part, put_parts, put_times, put_duration, needless, get_number, fraction_length, get_end}
use Rattle.durations.specs.Texts.{get_present, get_part, get_parts}
use Rattle.durations.specs.Texts.{get_times, get_duration, read_duration, render_duration, duration_text}
use Rattle.durations.specs.Fields.{long_number, extended, presences, number_fields, fraction_part, duration_fields}
use Rattle.durations.specs.Readings.{read_after, read_extended, read_presences, read_numbers, read_tail, ended_by, read_fields}

-- a text, its canonical text, the octets in PER, and their bit count
data Row : Type 0 where
  value : String → String → String → ℕ → Row

values : List Row
values =
    -- "`P0Y0M1D` becomes `P1D`, `P0Y0M` becomes `P0M`, `P1Y0M` stays", and "`P1Y6M` or `PT0.5S`"
    value "P0Y0M1D" "P1D" "1004" 14 ∷
    value "P0Y0M" "P0M" "4000" 13 ∷
    value "P1Y0M" "P1Y0M" "C00400" 19 ∷
    value "P1Y6M" "P1Y6M" "C004C0" 19 ∷
    value "PT0.5S" "PT0.5S" "03000020" 29 ∷
    -- X.680 34 bis.3.6.14 and E.2 bis.4
    value "P0Y29M0DT0H0M0S" "P29MT0S" "42808E80" 32 ∷
    value "P0Y29M0DT0,00H" "P29MT0.00H" "49808E80602000" 51 ∷
    value "P0Y29M0DT0H0.00M" "P29MT0.00M" "45808E80301000" 52 ∷
    value "P2Y10M15DT10H20M30S" "P2Y10M15DT10H20M30S" "DE09479450F0" 45 ∷
    value "PT72H" "PT72H" "0880A400" 25 ∷
    -- the ends of the ranges: "INTEGER (0..31, ..., 32..MAX)" and so on
    value "P31Y" "P31Y" "807C" 14 ∷
    value "P32Y" "P32Y" "80809000" 25 ∷
    value "P15M" "P15M" "4078" 13 ∷
    value "P16M" "P16M" "40808800" 25 ∷
    value "P63W" "P63W" "207E" 15 ∷
    value "P64W" "P64W" "2080A000" 25 ∷
    value "P31D" "P31D" "107C" 14 ∷
    value "P32D" "P32D" "10809000" 25 ∷
    value "PT31H" "PT31H" "087C" 14 ∷
    value "PT32H" "PT32H" "08809000" 25 ∷
    value "PT63M" "PT63M" "047E" 15 ∷
    value "PT64M" "PT64M" "0480A000" 25 ∷
    value "PT63S" "PT63S" "027E" 15 ∷
    value "PT64S" "PT64S" "0280A000" 25 ∷
    -- "a zero component that should be gone", in each place
    value "P0Y1M" "P1M" "4008" 13 ∷
    value "P1Y0M1D" "P1Y1D" "900410" 20 ∷
    value "P1Y0DT1H" "P1YT1H" "880410" 20 ∷
    value "PT0H1M" "PT1M" "0402" 15 ∷
    value "PT1H0M1S" "PT1H1S" "0A0408" 21 ∷
    value "P0Y0M0DT0H0M0S" "PT0S" "0200" 15 ∷
    -- a last one that is 0, and a comma
    value "P0Y" "P0Y" "8000" 14 ∷
    value "P0W" "P0W" "2000" 15 ∷
    value "P0D" "P0D" "1000" 14 ∷
    value "P0,0W" "P0.0W" "2100202000" 35 ∷
    value "P1Y6,5M" "P1Y6.5M" "C104C00200" 33 ∷
    -- a fraction of value 0 is outside 1..999, and four digits are outside 1..3
    value "PT0.1S" "PT0.1S" "03000000" 29 ∷
    value "PT0.50S" "PT0.50S" "03004188" 29 ∷
    value "PT0.999S" "PT0.999S" "03009F30" 29 ∷
    value "PT0.0001S" "PT0.0001S" "030101040000" 43 ∷
    value "PT0.0999S" "PT0.0999S" "030101047CC0" 43 ∷
    value "PT0.1000S" "PT0.1000S" "030101048101F400" 57 ∷
    value "PT0.000S" "PT0.000S" "0300A02000" 35 ∷
    value "PT0.000000000S" "PT0.000000000S" "03010109808000" 49 ∷
    value "P1.5Y" "P1.5Y" "81040040" 28 ∷
    value "P1.25M" "P1.25M" "41090300" 27 ∷
    value "P1.125W" "P1.125W" "210283E0" 29 ∷
    value "P1.0625D" "P1.0625D" "110602089C00" 42 ∷
    value "PT1.5H" "PT1.5H" "09040040" 28 ∷
    value "PT0.123456789M" "PT0.123456789M" "050101098203ADE68A80" 73 ∷
    -- "each number has at most nine digits": the longest text
    value "P128Y" "P128Y" "8081004000" 33 ∷
    value "P32768W" "P32768W" "208180400000" 41 ∷
    value "P8388608D" "P8388608D" "10820040000000" 49 ∷
    value "P999999999Y" "P999999999Y" "80821DCD64FF80" 49 ∷
    value "P999999999Y999999999M999999999DT999999999H999999999M999999999.999999999S"
    "P999999999Y999999999M999999999DT999999999H999999999M999999999.999999999S"
    "DF821DCD64FFC10EE6B27FE08773593FF043B9AC9FF821DCD64FFC10EE6B27FE0213043B9AC9FF" 312 ∷
    []

-- Whether octets are read as a duration with this text.
read : String → Found Bool Duration → Bool
read text (found d rest) = eq_list (duration_text d) (bytes text)
read text nothing = false

given : Row → Option Duration → Bool
given (value text own octets bits) None = false
given (value text own octets bits) (Some d) =
    exists_duration d
    && eq_list (duration_text d) (bytes own)
    && eq_list (octets_of (layout (duration_fields d))) (hex octets)
    && eqb (bit_count (duration_fields d)) bits
    && read own (run read_fields (unpacked (hex octets)))

text_of : Row → List ℕ
text_of (value text own octets bits) = bytes text

all_right : List Row → Bool
all_right [] = true
all_right (r ∷ l) = given r (read_duration (text_of r)) && all_right l

-- Texts in any spelling and their octets, both ways.
durations_checked : all_right values ≡ true
unfolding hex values read given text_of all_right octets_for eq_list put_digits get_digits get_field leading put_fraction get_fraction size_in bits_of number_in packed
    octets_of unpacked half within fewest twos from_twos binary_digits width field_bits layout field_width bit_count ◌>>=◌ a_ranged a_free require read_bits read_ranged
    read_free run count any_present last_in of_last numbers part_at well_made shown spellable duration_of all_zero ends_at all_small weeks_alone exists_duration
    number_digits put_number put_part put_parts put_times put_duration needless get_number fraction_length get_end get_present get_part get_parts get_times get_duration
    read_duration render_duration long_number extended presences number_fields fraction_part duration_fields natural read_after read_extended read_presences read_numbers
    read_tail ended_by read_fields
durations_checked = refl

-- ---- texts that are refused, all with 3

data NoText : Type 0 where
  refused : String → NoText

texts : List NoText
texts =
    -- "no component at all"
    refused "" ∷
    refused "P" ∷
    refused "PT" ∷
    refused "P1YT" ∷
    -- "a needless leading zero"
    refused "P01Y" ∷
    refused "P00Y" ∷
    refused "PT00S" ∷
    refused "PT00.5S" ∷
    -- "an earlier fraction"
    refused "P1.5Y2M" ∷
    refused "P1.5YT2H" ∷
    refused "P1,5Y2M" ∷
    refused "PT1.0H0M" ∷
    -- "weeks beside another one"
    refused "P1W2D" ∷
    refused "P0W1D" ∷
    refused "P0Y5W" ∷
    refused "P1WT1H" ∷
    refused "P1M1W" ∷
    refused "P5W0D" ∷
    -- "of more than nine digits", and a fraction "of one to nine digits"
    refused "P1000000000Y" ∷
    refused "PT1000000000S" ∷
    refused "PT1.0000000000S" ∷
    refused "P1.Y" ∷
    refused "P.5Y" ∷
    refused "P1,Y" ∷
    -- not "in order", twice, or on the wrong side of `T`
    refused "P1M1Y" ∷
    refused "P1Y1Y" ∷
    refused "PT1M1H" ∷
    refused "P1D1W" ∷
    refused "P1H" ∷
    refused "PT1Y" ∷
    refused "PT1D" ∷
    -- without `P`, in small letters, with signs, and with something around
    refused "1Y" ∷
    refused "T1H" ∷
    refused "p1Y" ∷
    refused "P1y" ∷
    refused "P-1Y" ∷
    refused "P+1Y" ∷
    refused "P1Y " ∷
    refused " P1Y" ∷
    refused "P1Y/" ∷
    refused "P1;5Y" ∷
    refused "P1" ∷
    refused "P1Y6" ∷
    refused "2006-06-13" ∷
    []

is_none : Option Duration → Bool
is_none None = true
is_none (Some d) = false

none_read : List NoText → Bool
none_read [] = true
none_read (refused t ∷ l) = is_none (read_duration (bytes t)) && none_read l

-- Texts that are no duration's.
texts_refused_checked : none_read texts ≡ true
unfolding texts is_none none_read eq_list put_digits get_digits get_field leading put_fraction get_fraction count any_present last_in of_last numbers part_at well_made shown
    duration_of needless get_number fraction_length get_end get_present get_part get_parts get_times get_duration read_duration
texts_refused_checked = refl

-- ---- octets: 3 where nothing is read, and 6 where the encoder writes others

data Octets : Type 0 where
  octets : String → ℕ → Octets

bits : List Octets
bits =
    -- "octets end inside a field"
    octets "" 3 ∷
    octets "80" 3 ∷
    octets "8082" 3 ∷
    octets "C004" 3 ∷
    octets "808090" 3 ∷
    octets "030000" 3 ∷
    octets "030101048101F4" 3 ∷
    -- "no component at all", a fraction without one; "weeks beside another one", and where one is 0
    octets "00" 3 ∷
    octets "010010" 3 ∷
    octets "A00428" 3 ∷
    octets "600850" 3 ∷
    octets "300A08" 3 ∷
    octets "280A08" 3 ∷
    octets "240A04" 3 ∷
    octets "220A04" 3 ∷
    octets "A00000" 3 ∷
    octets "300008" 3 ∷
    octets "A00028" 3 ∷
    octets "300000" 3 ∷
    -- "a decoded fraction of no digits, of over nine, or too large for them", or negative
    octets "0300C020" 3 ∷
    octets "03010100808000" 3 ∷
    octets "0301010A808000" 3 ∷
    octets "030101FF0080" 3 ∷
    octets "03000048" 3 ∷
    octets "03004318" 3 ∷
    octets "0300A0407D00" 3 ∷
    octets "0301010481138800" 3 ∷
    octets "03010109821DCD650000" 3 ∷
    octets "030101047CE0" 3 ∷
    octets "030101047FE0" 3 ∷
    octets "0300203FE0" 3 ∷
    -- "a number that is negative or of more than nine digits", in each component
    octets "8080FF80" 3 ∷
    octets "4080FF80" 3 ∷
    octets "2080FF80" 3 ∷
    octets "1080FF80" 3 ∷
    octets "0880FF80" 3 ∷
    octets "0480FF80" 3 ∷
    octets "0280FF80" 3 ∷
    octets "80821DCD650000" 3 ∷
    octets "40821DCD650000" 3 ∷
    octets "20821DCD650000" 3 ∷
    octets "10821DCD650000" 3 ∷
    octets "08821DCD650000" 3 ∷
    octets "04821DCD650000" 3 ∷
    octets "02821DCD650000" 3 ∷
    -- "a free integer's length not 1 to 4"
    octets "8080002480" 3 ∷
    octets "8082800000002480" 3 ∷
    octets "0301000049" 3 ∷
    octets "030020A00000000920" 3 ∷
    -- "a zero component that should be gone", in each place
    octets "820008" 6 ∷
    octets "420010" 6 ∷
    octets "120008" 6 ∷
    octets "0A0008" 6 ∷
    octets "060004" 6 ∷
    octets "C00000" 6 ∷
    octets "8300000080" 6 ∷
    -- "a number after a 1 bit that fits without it", and digits and a value
    octets "80808F80" 6 ∷
    octets "40808780" 6 ∷
    octets "20809F80" 6 ∷
    octets "10808F80" 6 ∷
    octets "08808F80" 6 ∷
    octets "04809F80" 6 ∷
    octets "02809F80" 6 ∷
    octets "030101010080" 6 ∷
    octets "030101020080" 6 ∷
    octets "030101030080" 6 ∷
    octets "03002020A0" 6 ∷
    octets "0300A0407CE0" 6 ∷
    -- "integer not shortest, .. filling not zero, .. octets left over"
    octets "8081001000" 6 ∷
    octets "03010200040080" 6 ∷
    octets "030020400000" 6 ∷
    octets "8001" 6 ∷
    octets "C004C1" 6 ∷
    octets "800000" 6 ∷
    octets "C004C000" 6 ∷
    -- 3 before 6
    octets "820203FE" 3 ∷
    octets "8300000120" 3 ∷
    octets "A0808F85" 3 ∷
    octets "030101010120" 3 ∷
    octets "030102000A0080" 3 ∷
    octets "0000" 3 ∷
    octets "0001" 3 ∷
    -- what the encoder writes
    octets "8000" 0 ∷
    octets "C004C0" 0 ∷
    octets "2100202000" 0 ∷
    octets "03000020" 0 ∷
    []

number_of : List ℕ → Found Bool Duration → ℕ
number_of s nothing = 3
number_of s (found d rest) = cond (eq_list (octets_of (layout (duration_fields d))) s) 0 6

all_judged : List Octets → Bool
all_judged [] = true
all_judged (octets s n ∷ l) = eqb (number_of (hex s) (run read_fields (unpacked (hex s)))) n && all_judged l

-- Octets with the number that they meet.
octets_checked : all_judged bits ≡ true
unfolding hex bits number_of all_judged octets_for eq_list bits_of number_in packed octets_of unpacked half within fewest twos from_twos binary_digits width field_bits
    layout ◌>>=◌ a_ranged a_free require read_bits read_ranged read_free run count any_present last_in of_last numbers part_at well_made shown spellable duration_of
    long_number extended presences number_fields fraction_part duration_fields natural read_after read_extended read_presences read_numbers read_tail ended_by read_fields
octets_checked = refl
