-- Checked durations, through the entry points' definitions (#101): values in PER and in DER and back, from any spelling to the canonical text; texts
-- and types that are refused; a case for each cause that octets meet, and for each pair of causes; and what one type reads of another's octets.
use mathlib.Core.Path.{◌≡◌, refl}
use mathlib.Core.Bool.{◌&&◌, Bool, true, false}
use mathlib.Core.List.{◌∷◌, List, []}
use Prim.Native.Nat.{ℕ}
use Prim.Native.String.{String}
use Rattle.octets.specs.Octets.{bytes}
use Rattle.answers.proofs.Laws.Quoted.{hex}
use Rattle.answers.specs.Outcomes.{Answer, done, refused}
use Rattle.types.specs.Types.{no_limits}
use Rattle.type_texts.proofs.Laws.CheckedTypes.{both_limits, from2000, no_hour24, no_years}
use Rattle.exchanges.specs.declared.entries.Entry.{Entry}
use Rattle.exchanges.proofs.Laws.CheckedTables.{Cause, Refused, Row, all_caused, all_refused, all_right, answers, both_ways, computed, der_cause, number_given}
use Rattle.exchanges.proofs.Laws.CheckedTables.{per_cause, refused_by, refuses, value}

-- ---- values

values : List Row
values =
    -- "My mail asks for `P1Y6M` or `PT0.5S`."
    value "DURATION" "P1Y6M" "P1Y6M" "C004C0" 19 "1F22043159364D" ∷
    value "DURATION" "PT0.5S" "PT0.5S" "03000020" 29 "1F220554302E3553" ∷
    -- "`P0Y0M1D` becomes `P1D`, `P0Y0M` becomes `P0M`, `P1Y0M` stays"
    value "DURATION" "P0Y0M1D" "P1D" "1004" 14 "1F22023144" ∷
    value "DURATION" "P0Y0M" "P0M" "4000" 13 "1F2202304D" ∷
    value "DURATION" "P1Y0M" "P1Y0M" "C00400" 19 "1F22043159304D" ∷
    -- the same under "`Basic=Interval Interval-type=D`", its pairs "in any order"
    value "Basic=Interval Interval-type=D" "P1Y6M" "P1Y6M" "C004C0" 19 "0E05503159364D" ∷
    value "Interval-type=D Basic=Interval" "P1Y6M" "P1Y6M" "C004C0" 19 "0E05503159364D" ∷
    value "Basic=Interval Interval-type=D" "PT0.5S" "PT0.5S" "03000020" 29 "0E065054302E3553" ∷
    value "Interval-type=D Basic=Interval" "P0Y0M1D" "P1D" "1004" 14 "0E03503144" ∷
    value "Basic=Interval Interval-type=D" "P0Y0M" "P0M" "4000" 13 "0E0350304D" ∷
    value "Interval-type=D Basic=Interval" "P1Y0M" "P1Y0M" "C00400" 19 "0E05503159304D" ∷
    -- "Value notations expressing a duration to different accuracies represent different abstract values" (34 bis.3.6.14)
    value "DURATION" "P29M" "P29M" "40808E80" 25 "1F220332394D" ∷
    value "DURATION" "P0Y29M" "P29M" "40808E80" 25 "1F220332394D" ∷
    value "DURATION" "P0Y29M0D" "P29M0D" "50808E80" 31 "1F220532394D3044" ∷
    value "DURATION" "P0Y29M0DT0H0M0S" "P29MT0S" "42808E80" 32 "1F220632394D543053" ∷
    value "DURATION" "P0Y29M0DT0,00H" "P29MT0.00H" "49808E80602000" 51 "1F220932394D54302E303048" ∷
    value "DURATION" "P0Y29M0DT0H0M0.000S" "P29MT0.000S" "43808E80501000" 52 "1F220A32394D54302E30303053" ∷
    -- "all represent the same abstract value": the eight notations of its second example
    value "DURATION" "P0Y29M0DT0H0.00M" "P29MT0.00M" "45808E80301000" 52 "1F220932394D54302E30304D" ∷
    value "DURATION" "P0Y29M0DT0.00M" "P29MT0.00M" "45808E80301000" 52 "1F220932394D54302E30304D" ∷
    value "DURATION" "P0Y29MT0H0.00M" "P29MT0.00M" "45808E80301000" 52 "1F220932394D54302E30304D" ∷
    value "DURATION" "P0Y29MT0.00M" "P29MT0.00M" "45808E80301000" 52 "1F220932394D54302E30304D" ∷
    value "DURATION" "P29M0DT0H0.00M" "P29MT0.00M" "45808E80301000" 52 "1F220932394D54302E30304D" ∷
    value "DURATION" "P29M0DT0.00M" "P29MT0.00M" "45808E80301000" 52 "1F220932394D54302E30304D" ∷
    value "DURATION" "P29MT0H0.00M" "P29MT0.00M" "45808E80301000" 52 "1F220932394D54302E30304D" ∷
    value "DURATION" "P29MT0.00M" "P29MT0.00M" "45808E80301000" 52 "1F220932394D54302E30304D" ∷
    -- the examples of X.680 E.2 bis.4
    value "DURATION" "P2Y10M15DT10H20M30S" "P2Y10M15DT10H20M30S" "DE09479450F0" 45 "1F2212325931304D3135445431304832304D333053" ∷
    value "DURATION" "PT72H" "PT72H" "0880A400" 25 "1F220454373248" ∷
    -- each component alone
    value "DURATION" "P1Y" "P1Y" "8004" 14 "1F22023159" ∷
    value "Basic=Interval Interval-type=D" "P1M" "P1M" "4008" 13 "0E0350314D" ∷
    value "DURATION" "P1W" "P1W" "2002" 15 "1F22023157" ∷
    value "Basic=Interval Interval-type=D" "P1D" "P1D" "1004" 14 "0E03503144" ∷
    value "DURATION" "PT1H" "PT1H" "0804" 14 "1F2203543148" ∷
    value "Basic=Interval Interval-type=D" "PT1M" "PT1M" "0402" 15 "0E045054314D" ∷
    value "DURATION" "PT1S" "PT1S" "0202" 15 "1F2203543153" ∷
    -- all six together, and without the last ones or the first
    value "DURATION" "P1Y2M3DT4H5M6S" "P1Y2M3DT4H5M6S" "DE0441881430" 45 "1F220D3159324D3344543448354D3653" ∷
    value "Basic=Interval Interval-type=D" "P1Y2M3DT4H5M6S" "P1Y2M3DT4H5M6S" "DE0441881430" 45 "0E0E503159324D3344543448354D3653" ∷
    value "DURATION" "P1Y2M3DT4H5M" "P1Y2M3DT4H5M" "DC04418814" 38 "1F220B3159324D3344543448354D" ∷
    value "DURATION" "P1Y2M3DT4H" "P1Y2M3DT4H" "D8044188" 31 "1F22093159324D3344543448" ∷
    value "DURATION" "P1Y2M3D" "P1Y2M3D" "D0044180" 25 "1F22063159324D3344" ∷
    value "DURATION" "PT4H5M6S" "PT4H5M6S" "0E102860" 28 "1F2207543448354D3653" ∷
    -- a zero component before the last in each place, alone and with all others
    value "DURATION" "P0Y1M" "P1M" "4008" 13 "1F2202314D" ∷
    value "DURATION" "P0M1D" "P1D" "1004" 14 "1F22023144" ∷
    value "DURATION" "P0DT1H" "PT1H" "0804" 14 "1F2203543148" ∷
    value "DURATION" "PT0H1M" "PT1M" "0402" 15 "1F220354314D" ∷
    value "DURATION" "PT0M1S" "PT1S" "0202" 15 "1F2203543153" ∷
    value "DURATION" "P0Y2M3DT4H5M6S" "P2M3DT4H5M6S" "5E1062050C" 39 "1F220B324D3344543448354D3653" ∷
    value "DURATION" "P1Y0M3DT4H5M6S" "P1Y3DT4H5M6S" "9E04310286" 40 "1F220B31593344543448354D3653" ∷
    value "DURATION" "P1Y2M0DT4H5M6S" "P1Y2MT4H5M6S" "CE0442050C" 39 "1F220B3159324D543448354D3653" ∷
    value "DURATION" "P1Y2M3DT0H5M6S" "P1Y2M3DT5M6S" "D60441850C" 39 "1F220B3159324D334454354D3653" ∷
    value "DURATION" "P1Y2M3DT4H0M6S" "P1Y2M3DT4H6S" "DA04418818" 38 "1F220B3159324D33445434483653" ∷
    value "DURATION" "P1Y2M3DT4H5M0S" "P1Y2M3DT4H5M0S" "DE0441881400" 45 "1F220D3159324D3344543448354D3053" ∷
    value "Basic=Interval Interval-type=D" "P0Y0M0DT0H0M6S" "PT6S" "020C" 15 "0E0450543653" ∷
    value "Interval-type=D Basic=Interval" "P0Y0M0DT0H0M0S" "PT0S" "0200" 15 "0E0450543053" ∷
    value "DURATION" "P0Y0M0DT0H0M0.0S" "PT0.0S" "0300202000" 35 "1F220554302E3053" ∷
    value "DURATION" "P0Y0M0DT0H0M" "PT0M" "0400" 15 "1F220354304D" ∷
    value "DURATION" "P0Y0M0DT0H" "PT0H" "0800" 14 "1F2203543048" ∷
    value "DURATION" "P0Y0M0D" "P0D" "1000" 14 "1F22023044" ∷
    -- "except the least significant one present": a last component that is 0
    value "DURATION" "P0Y" "P0Y" "8000" 14 "1F22023059" ∷
    value "DURATION" "P0M" "P0M" "4000" 13 "1F2202304D" ∷
    value "DURATION" "P0W" "P0W" "2000" 15 "1F22023057" ∷
    value "DURATION" "P0D" "P0D" "1000" 14 "1F22023044" ∷
    value "DURATION" "PT0H" "PT0H" "0800" 14 "1F2203543048" ∷
    value "DURATION" "PT0M" "PT0M" "0400" 15 "1F220354304D" ∷
    value "DURATION" "PT0S" "PT0S" "0200" 15 "1F2203543053" ∷
    value "Basic=Interval Interval-type=D" "P1Y0D" "P1Y0D" "900400" 20 "0E055031593044" ∷
    value "Basic=Interval Interval-type=D" "P1YT0S" "P1YT0S" "820400" 21 "0E06503159543053" ∷
    value "DURATION" "PT1H0S" "PT1H0S" "0A0400" 21 "1F22055431483053" ∷
    []

-- "only the last component may have a fraction, of one to nine digits"
fractions : List Row
fractions =
    -- of one digit in each component, after a full stop
    value "DURATION" "P1.5Y" "P1.5Y" "81040040" 28 "1F2204312E3559" ∷
    value "Basic=Interval Interval-type=D" "P1.5M" "P1.5M" "41080080" 27 "0E0550312E354D" ∷
    value "DURATION" "P1.5W" "P1.5W" "21020020" 29 "1F2204312E3557" ∷
    value "Basic=Interval Interval-type=D" "P1.5D" "P1.5D" "11040040" 28 "0E0550312E3544" ∷
    value "DURATION" "PT1.5H" "PT1.5H" "09040040" 28 "1F220554312E3548" ∷
    value "Basic=Interval Interval-type=D" "PT1.5M" "PT1.5M" "05020020" 29 "0E065054312E354D" ∷
    value "DURATION" "PT1.5S" "PT1.5S" "03020020" 29 "1F220554312E3553" ∷
    -- and after a comma: "All commas used as decimal signs shall be converted to full stop" (11.9.1 a)
    value "Basic=Interval Interval-type=D" "P1,5Y" "P1.5Y" "81040040" 28 "0E0550312E3559" ∷
    value "DURATION" "P1,5M" "P1.5M" "41080080" 27 "1F2204312E354D" ∷
    value "Basic=Interval Interval-type=D" "P1,5W" "P1.5W" "21020020" 29 "0E0550312E3557" ∷
    value "DURATION" "P1,5D" "P1.5D" "11040040" 28 "1F2204312E3544" ∷
    value "Basic=Interval Interval-type=D" "PT1,5H" "PT1.5H" "09040040" 28 "0E065054312E3548" ∷
    value "DURATION" "PT1,5M" "PT1.5M" "05020020" 29 "1F220554312E354D" ∷
    value "Basic=Interval Interval-type=D" "PT1,5S" "PT1.5S" "03020020" 29 "0E065054312E3553" ∷
    -- of three digits
    value "DURATION" "P2.125Y" "P2.125Y" "810907C0" 28 "1F2206322E31323559" ∷
    value "DURATION" "P2,125M" "P2.125M" "41120F80" 27 "1F2206322E3132354D" ∷
    value "DURATION" "P2.125W" "P2.125W" "210483E0" 29 "1F2206322E31323557" ∷
    value "DURATION" "P2,125D" "P2.125D" "110907C0" 28 "1F2206322E31323544" ∷
    value "DURATION" "PT2.125H" "PT2.125H" "090907C0" 28 "1F220754322E31323548" ∷
    value "DURATION" "PT2,125M" "PT2.125M" "050483E0" 29 "1F220754322E3132354D" ∷
    value "DURATION" "PT2.125S" "PT2.125S" "030483E0" 29 "1F220754322E31323553" ∷
    -- of four
    value "DURATION" "P3,1234Y" "P3.1234Y" "810E02090204D2" 56 "1F2207332E3132333459" ∷
    value "DURATION" "P3.1234M" "P3.1234M" "411C04120409A4" 55 "1F2207332E313233344D" ∷
    value "DURATION" "P3,1234W" "P3.1234W" "2107010481026900" 57 "1F2207332E3132333457" ∷
    value "DURATION" "P3.1234D" "P3.1234D" "110E02090204D2" 56 "1F2207332E3132333444" ∷
    value "DURATION" "PT3,1234H" "PT3.1234H" "090E02090204D2" 56 "1F220854332E3132333448" ∷
    value "DURATION" "PT3.1234M" "PT3.1234M" "0507010481026900" 57 "1F220854332E313233344D" ∷
    value "DURATION" "PT3,1234S" "PT3.1234S" "0307010481026900" 57 "1F220854332E3132333453" ∷
    -- of nine
    value "DURATION" "P4.123456789Y" "P4.123456789Y" "8112021304075BCD15" 72 "1F220C342E31323334353637383959" ∷
    value "DURATION" "P4,123456789M" "P4.123456789M" "41240426080EB79A2A" 71 "1F220C342E3132333435363738394D" ∷
    value "DURATION" "P4.123456789W" "P4.123456789W" "210901098203ADE68A80" 73 "1F220C342E31323334353637383957" ∷
    value "DURATION" "P4,123456789D" "P4.123456789D" "1112021304075BCD15" 72 "1F220C342E31323334353637383944" ∷
    value "DURATION" "PT4.123456789H" "PT4.123456789H" "0912021304075BCD15" 72 "1F220D54342E31323334353637383948" ∷
    value "DURATION" "PT4,123456789M" "PT4.123456789M" "050901098203ADE68A80" 73 "1F220D54342E3132333435363738394D" ∷
    value "DURATION" "PT4.123456789S" "PT4.123456789S" "030901098203ADE68A80" 73 "1F220D54342E31323334353637383953" ∷
    -- the other counts of digits
    value "DURATION" "PT0.12S" "PT0.12S" "03004058" 29 "1F220654302E313253" ∷
    value "DURATION" "PT0.12345S" "PT0.12345S" "0301010581181C80" 57 "1F220954302E313233343553" ∷
    value "DURATION" "PT0.123456S" "PT0.123456S" "030101068180F12000" 65 "1F220A54302E31323334353653" ∷
    value "DURATION" "PT0.1234567S" "PT0.1234567S" "0301010781896B4380" 65 "1F220B54302E3132333435363753" ∷
    value "DURATION" "PT0.12345678S" "PT0.12345678S" "0301010882005E30A700" 73 "1F220C54302E313233343536373853" ∷
    -- "fractional-value INTEGER(1..999, ..., 1000..MAX)": a fraction of value 0 stands after a 1 bit
    value "DURATION" "P0.0W" "P0.0W" "2100202000" 35 "1F2204302E3057" ∷
    value "Basic=Interval Interval-type=D" "P0,0W" "P0.0W" "2100202000" 35 "0E0550302E3057" ∷
    value "DURATION" "PT0.0S" "PT0.0S" "0300202000" 35 "1F220554302E3053" ∷
    value "DURATION" "PT0.000S" "PT0.000S" "0300A02000" 35 "1F220754302E30303053" ∷
    value "DURATION" "PT0.0000S" "PT0.0000S" "03010104808000" 49 "1F220854302E3030303053" ∷
    value "DURATION" "PT0.000000000S" "PT0.000000000S" "03010109808000" 49 "1F220D54302E30303030303030303053" ∷
    value "DURATION" "P1.0Y" "P1.0Y" "8104404000" 34 "1F2204312E3059" ∷
    -- the ends of its range, and of the digits
    value "DURATION" "PT0.1S" "PT0.1S" "03000000" 29 "1F220554302E3153" ∷
    value "DURATION" "PT0.9S" "PT0.9S" "03000040" 29 "1F220554302E3953" ∷
    value "DURATION" "PT0.01S" "PT0.01S" "03004000" 29 "1F220654302E303153" ∷
    value "DURATION" "PT0.99S" "PT0.99S" "03004310" 29 "1F220654302E393953" ∷
    value "DURATION" "PT0.001S" "PT0.001S" "03008000" 29 "1F220754302E30303153" ∷
    value "DURATION" "PT0.999S" "PT0.999S" "03009F30" 29 "1F220754302E39393953" ∷
    value "DURATION" "PT0.0001S" "PT0.0001S" "030101040000" 43 "1F220854302E3030303153" ∷
    value "DURATION" "PT0.0999S" "PT0.0999S" "030101047CC0" 43 "1F220854302E3039393953" ∷
    value "DURATION" "PT0.1000S" "PT0.1000S" "030101048101F400" 57 "1F220854302E3130303053" ∷
    value "DURATION" "PT0.9999S" "PT0.9999S" "0301010481138780" 57 "1F220854302E3939393953" ∷
    value "DURATION" "PT0.000000001S" "PT0.000000001S" "030101090000" 43 "1F220D54302E30303030303030303153" ∷
    value "DURATION" "PT0.000000999S" "PT0.000000999S" "030101097CC0" 43 "1F220D54302E30303030303039393953" ∷
    value "DURATION" "PT0.000001000S" "PT0.000001000S" "030101098101F400" 57 "1F220D54302E30303030303130303053" ∷
    value "DURATION" "PT0.999999999S" "PT0.999999999S" "03010109821DCD64FF80" 73 "1F220D54302E39393939393939393953" ∷
    -- "including any trailing zeros" (28 bis.6.5): these are other values than `PT0.5S`
    value "DURATION" "PT0.50S" "PT0.50S" "03004188" 29 "1F220654302E353053" ∷
    value "Basic=Interval Interval-type=D" "PT0,50S" "PT0.50S" "03004188" 29 "0E075054302E353053" ∷
    value "DURATION" "PT0.500S" "PT0.500S" "03008F98" 29 "1F220754302E35303053" ∷
    value "DURATION" "PT0.5000S" "PT0.5000S" "030101048109C400" 57 "1F220854302E3530303053" ∷
    value "DURATION" "PT0.500000000S" "PT0.500000000S" "03010109820EE6B28000" 73 "1F220D54302E35303030303030303053" ∷
    -- a fraction behind others, and behind zero components that go
    value "DURATION" "P1Y6.5M" "P1Y6.5M" "C104C00200" 33 "1F22063159362E354D" ∷
    value "DURATION" "P1Y2M3DT4H5M6.5S" "P1Y2M3DT4H5M6.5S" "DF04418814300080" 59 "1F220F3159324D3344543448354D362E3553" ∷
    value "DURATION" "P0Y0.5M" "P0.5M" "41000080" 27 "1F2204302E354D" ∷
    value "Basic=Interval Interval-type=D" "P1Y0M0DT0,25H" "P1YT0.25H" "8904020600" 34 "0E0950315954302E323548" ∷
    value "Basic=Interval Interval-type=D" "PT0H0M0,001S" "PT0.001S" "03008000" 29 "0E085054302E30303153" ∷
    []

-- "each number has at most nine digits and no needless leading zero"
ranges : List Row
ranges =
    -- the ends of each root: "INTEGER (0..31, ..., 32..MAX)" and the others of 28 bis.6.1
    value "DURATION" "P31Y" "P31Y" "807C" 14 "1F2203333159" ∷
    value "DURATION" "P32Y" "P32Y" "80809000" 25 "1F2203333259" ∷
    value "DURATION" "P15M" "P15M" "4078" 13 "1F220331354D" ∷
    value "DURATION" "P16M" "P16M" "40808800" 25 "1F220331364D" ∷
    value "DURATION" "P63W" "P63W" "207E" 15 "1F2203363357" ∷
    value "DURATION" "P64W" "P64W" "2080A000" 25 "1F2203363457" ∷
    value "DURATION" "P31D" "P31D" "107C" 14 "1F2203333144" ∷
    value "DURATION" "P32D" "P32D" "10809000" 25 "1F2203333244" ∷
    value "DURATION" "PT31H" "PT31H" "087C" 14 "1F220454333148" ∷
    value "DURATION" "PT32H" "PT32H" "08809000" 25 "1F220454333248" ∷
    value "DURATION" "PT63M" "PT63M" "047E" 15 "1F22045436334D" ∷
    value "DURATION" "PT64M" "PT64M" "0480A000" 25 "1F22045436344D" ∷
    value "DURATION" "PT63S" "PT63S" "027E" 15 "1F220454363353" ∷
    value "DURATION" "PT64S" "PT64S" "0280A000" 25 "1F220454363453" ∷
    -- all at the ends of their roots, and all just above
    value "DURATION" "P31Y15M31DT31H63M63S" "P31Y15M31DT31H63M63S" "DE7DEFBEFDF8" 45 "1F221333315931354D3331445433314836334D363353" ∷
    value "DURATION" "P32Y16M32DT32H64M64S" "P32Y16M32DT32H64M64S" "DE8090404420241012080A040500" 110 "1F221333325931364D3332445433324836344D363453" ∷
    -- "that many octets of two's complement, the fewest possible": one and two octets, two and three, three and four
    value "DURATION" "P127Y" "P127Y" "8080BF80" 25 "1F220431323759" ∷
    value "DURATION" "P128Y" "P128Y" "8081004000" 33 "1F220431323859" ∷
    value "DURATION" "P127M" "P127M" "4080BF80" 25 "1F22043132374D" ∷
    value "DURATION" "P128M" "P128M" "4081004000" 33 "1F22043132384D" ∷
    value "DURATION" "P127W" "P127W" "2080BF80" 25 "1F220431323757" ∷
    value "DURATION" "P128W" "P128W" "2081004000" 33 "1F220431323857" ∷
    value "DURATION" "P127D" "P127D" "1080BF80" 25 "1F220431323744" ∷
    value "DURATION" "P128D" "P128D" "1081004000" 33 "1F220431323844" ∷
    value "DURATION" "PT127H" "PT127H" "0880BF80" 25 "1F22055431323748" ∷
    value "DURATION" "PT128H" "PT128H" "0881004000" 33 "1F22055431323848" ∷
    value "DURATION" "PT127M" "PT127M" "0480BF80" 25 "1F2205543132374D" ∷
    value "DURATION" "PT128M" "PT128M" "0481004000" 33 "1F2205543132384D" ∷
    value "DURATION" "PT127S" "PT127S" "0280BF80" 25 "1F22055431323753" ∷
    value "DURATION" "PT128S" "PT128S" "0281004000" 33 "1F22055431323853" ∷
    value "DURATION" "P32767Y" "P32767Y" "80813FFF80" 33 "1F2206333237363759" ∷
    value "DURATION" "P32768Y" "P32768Y" "808180400000" 41 "1F2206333237363859" ∷
    value "DURATION" "P32767W" "P32767W" "20813FFF80" 33 "1F2206333237363757" ∷
    value "DURATION" "P32768W" "P32768W" "208180400000" 41 "1F2206333237363857" ∷
    value "Basic=Interval Interval-type=D" "PT32767S" "PT32767S" "02813FFF80" 33 "0E085054333237363753" ∷
    value "Basic=Interval Interval-type=D" "PT32768S" "PT32768S" "028180400000" 41 "0E085054333237363853" ∷
    value "DURATION" "P8388607D" "P8388607D" "1081BFFFFF80" 41 "1F22083833383836303744" ∷
    value "DURATION" "P8388608D" "P8388608D" "10820040000000" 49 "1F22083833383836303844" ∷
    -- "each number has at most nine digits", in each component; zeros that are not leading stay
    value "DURATION" "P999999999Y" "P999999999Y" "80821DCD64FF80" 49 "1F220A39393939393939393959" ∷
    value "DURATION" "P999999999M" "P999999999M" "40821DCD64FF80" 49 "1F220A3939393939393939394D" ∷
    value "DURATION" "P999999999W" "P999999999W" "20821DCD64FF80" 49 "1F220A39393939393939393957" ∷
    value "DURATION" "P999999999D" "P999999999D" "10821DCD64FF80" 49 "1F220A39393939393939393944" ∷
    value "DURATION" "PT999999999H" "PT999999999H" "08821DCD64FF80" 49 "1F220B5439393939393939393948" ∷
    value "DURATION" "PT999999999M" "PT999999999M" "04821DCD64FF80" 49 "1F220B543939393939393939394D" ∷
    value "DURATION" "PT999999999S" "PT999999999S" "02821DCD64FF80" 49 "1F220B5439393939393939393953" ∷
    value "Basic=Interval Interval-type=D" "P100000000Y" "P100000000Y" "808202FAF08000" 49 "0E0B5031303030303030303059" ∷
    value "Basic=Interval Interval-type=D" "P10Y" "P10Y" "8028" 14 "0E0450313059" ∷
    value "Basic=Interval Interval-type=D" "P909090909Y" "P909090909Y" "80821B17D02E80" 49 "0E0B5039303930393039303959" ∷
    -- the longest texts: of 72 octets and 312 bits, and of weeks
    value "DURATION"
    "P999999999Y999999999M999999999DT999999999H999999999M999999999.999999999S"
    "P999999999Y999999999M999999999DT999999999H999999999M999999999.999999999S"
    "DF821DCD64FFC10EE6B27FE08773593FF043B9AC9FF821DCD64FFC10EE6B27FE0213043B9AC9FF" 312
    "1F2247393939393939393939593939393939393939394D3939393939393939394454393939393939393939483939393939393939394D3939393939393939392E39393939393939393953" ∷
    value "Basic=Interval Interval-type=D"
    "P999999999Y999999999M999999999DT999999999H999999999M999999999,999999999S"
    "P999999999Y999999999M999999999DT999999999H999999999M999999999.999999999S"
    "DF821DCD64FFC10EE6B27FE08773593FF043B9AC9FF821DCD64FFC10EE6B27FE0213043B9AC9FF" 312
    "0E4850393939393939393939593939393939393939394D3939393939393939394454393939393939393939483939393939393939394D3939393939393939392E39393939393939393953" ∷
    value "DURATION" "P999999999.999999999W" "P999999999.999999999W" "21821DCD64FFC042608773593FE0" 107 "1F22143939393939393939392E39393939393939393957" ∷
    value "DURATION" "P999999999,999999999W" "P999999999.999999999W" "21821DCD64FFC042608773593FE0" 107 "1F22143939393939393939392E39393939393939393957" ∷
    []

-- Components, zero ones among them, by 34 bis.3.6 of X.680, 11.9 d of X.690 and 28 bis.6.1 of X.691.
durations_checked : all_right values ≡ true
unfolding hex values answers both_ways all_right computed
durations_checked = refl

-- Fractions of each count of digits, in each component.
fractions_checked : all_right fractions ≡ true
unfolding hex fractions answers both_ways all_right computed
fractions_checked = refl

-- Numbers in the ranges of 28 bis.6.1 and above them.
ranges_checked : all_right ranges ≡ true
unfolding hex ranges answers both_ways all_right computed
ranges_checked = refl

-- ---- texts and types that are refused

texts : List Refused
texts =
    -- 3: "no component at all", and "[T] followed by one or more (in order)" (34 bis.3.6.3)
    refuses "DURATION" no_limits "" 3 ∷
    refuses "DURATION" no_limits "P" 3 ∷
    refuses "DURATION" no_limits "PT" 3 ∷
    refuses "DURATION" no_limits "T" 3 ∷
    refuses "DURATION" no_limits "P1YT" 3 ∷
    refuses "DURATION" no_limits "P1MT" 3 ∷
    refuses "DURATION" no_limits "P1DT" 3 ∷
    refuses "DURATION" no_limits "P0YT" 3 ∷
    refuses "DURATION" no_limits "PT1" 3 ∷
    refuses "DURATION" no_limits "P1" 3 ∷
    refuses "Basic=Interval Interval-type=D" no_limits "" 3 ∷
    refuses "Basic=Interval Interval-type=D" no_limits "P" 3 ∷
    refuses "Basic=Interval Interval-type=D" no_limits "PT" 3 ∷
    refuses "Basic=Interval Interval-type=D" no_limits "P1YT" 3 ∷
    -- 3: "a needless leading zero", in each component, and before a fraction
    refuses "DURATION" no_limits "P01Y" 3 ∷
    refuses "DURATION" no_limits "P00Y" 3 ∷
    refuses "DURATION" no_limits "P01M" 3 ∷
    refuses "DURATION" no_limits "P01W" 3 ∷
    refuses "DURATION" no_limits "P00W" 3 ∷
    refuses "DURATION" no_limits "P01D" 3 ∷
    refuses "DURATION" no_limits "PT01H" 3 ∷
    refuses "DURATION" no_limits "PT01M" 3 ∷
    refuses "DURATION" no_limits "PT01S" 3 ∷
    refuses "DURATION" no_limits "PT00S" 3 ∷
    refuses "DURATION" no_limits "P1Y06M" 3 ∷
    refuses "DURATION" no_limits "PT00.5S" 3 ∷
    refuses "DURATION" no_limits "P000000001Y" 3 ∷
    refuses "DURATION" no_limits "P00.5W" 3 ∷
    refuses "Basic=Interval Interval-type=D" no_limits "P01Y" 3 ∷
    refuses "Basic=Interval Interval-type=D" no_limits "P00Y" 3 ∷
    -- 3: "an earlier fraction": "If a designation contains a fractional part, there shall be no following designation." (34 bis.3.6.13)
    refuses "DURATION" no_limits "P1.5Y2M" 3 ∷
    refuses "DURATION" no_limits "P1,5Y2M" 3 ∷
    refuses "DURATION" no_limits "P1.5YT2H" 3 ∷
    refuses "DURATION" no_limits "P1Y2.5M3D" 3 ∷
    refuses "DURATION" no_limits "P1.5D0.5D" 3 ∷
    refuses "DURATION" no_limits "P1.5DT0S" 3 ∷
    refuses "DURATION" no_limits "PT1.5H2M" 3 ∷
    refuses "DURATION" no_limits "PT1.5M2S" 3 ∷
    refuses "DURATION" no_limits "P1.0Y2M" 3 ∷
    refuses "DURATION" no_limits "P0.5Y0M" 3 ∷
    refuses "DURATION" no_limits "P1.5Y2.5M" 3 ∷
    refuses "DURATION" no_limits "P1Y2M3DT4H5.5M6S" 3 ∷
    refuses "Basic=Interval Interval-type=D" no_limits "P1.5Y2M" 3 ∷
    refuses "Basic=Interval Interval-type=D" no_limits "P1.5YT2H" 3 ∷
    -- 3: "of more than nine digits", in each component
    refuses "DURATION" no_limits "P1000000000Y" 3 ∷
    refuses "DURATION" no_limits "P1000000000M" 3 ∷
    refuses "DURATION" no_limits "P1000000000W" 3 ∷
    refuses "DURATION" no_limits "P1000000000D" 3 ∷
    refuses "DURATION" no_limits "PT1000000000H" 3 ∷
    refuses "DURATION" no_limits "PT1000000000M" 3 ∷
    refuses "DURATION" no_limits "PT1000000000S" 3 ∷
    refuses "DURATION" no_limits "P1Y1000000000M" 3 ∷
    refuses "DURATION" no_limits "P9999999999Y" 3 ∷
    refuses "DURATION" no_limits "P0000000001Y" 3 ∷
    refuses "Basic=Interval Interval-type=D" no_limits "P1000000000Y" 3 ∷
    -- 3: "a fraction, of one to nine digits": of ten, and of none
    refuses "DURATION" no_limits "PT1.0000000000S" 3 ∷
    refuses "DURATION" no_limits "PT0.1234567890S" 3 ∷
    refuses "DURATION" no_limits "PT0,1234567890S" 3 ∷
    refuses "DURATION" no_limits "P1.0000000000W" 3 ∷
    refuses "DURATION" no_limits "P1.Y" 3 ∷
    refuses "DURATION" no_limits "P1,Y" 3 ∷
    refuses "DURATION" no_limits "P1.W" 3 ∷
    refuses "DURATION" no_limits "PT1.S" 3 ∷
    refuses "DURATION" no_limits "P1." 3 ∷
    refuses "DURATION" no_limits "P1," 3 ∷
    refuses "Basic=Interval Interval-type=D" no_limits "PT1.0000000000S" 3 ∷
    refuses "Basic=Interval Interval-type=D" no_limits "P1.Y" 3 ∷
    -- 3: "There shall be at least one digit in the integral part" (34 bis.3.6.11)
    refuses "DURATION" no_limits "P.5Y" 3 ∷
    refuses "DURATION" no_limits "P,5Y" 3 ∷
    refuses "DURATION" no_limits "PT.5S" 3 ∷
    refuses "DURATION" no_limits "P.5W" 3 ∷
    refuses "DURATION" no_limits "P.Y" 3 ∷
    refuses "DURATION" no_limits "PY" 3 ∷
    refuses "DURATION" no_limits "PTS" 3 ∷
    refuses "DURATION" no_limits "PW" 3 ∷
    refuses "DURATION" no_limits "PYM" 3 ∷
    refuses "DURATION" no_limits "P1YM" 3 ∷
    refuses "Basic=Interval Interval-type=D" no_limits "P.5Y" 3 ∷
    -- 3: "weeks beside another one", and where one of them is 0
    refuses "DURATION" no_limits "P1W2D" 3 ∷
    refuses "DURATION" no_limits "P1Y1W" 3 ∷
    refuses "DURATION" no_limits "P1M1W" 3 ∷
    refuses "DURATION" no_limits "P1W1D" 3 ∷
    refuses "DURATION" no_limits "P1WT1H" 3 ∷
    refuses "DURATION" no_limits "P1WT1M" 3 ∷
    refuses "DURATION" no_limits "P1WT1S" 3 ∷
    refuses "DURATION" no_limits "P0W1D" 3 ∷
    refuses "DURATION" no_limits "P1D0W" 3 ∷
    refuses "DURATION" no_limits "P0Y5W" 3 ∷
    refuses "DURATION" no_limits "P5W0D" 3 ∷
    refuses "DURATION" no_limits "P0WT0S" 3 ∷
    refuses "DURATION" no_limits "P0W0D" 3 ∷
    refuses "DURATION" no_limits "P1W1W" 3 ∷
    refuses "DURATION" no_limits "P1.5W2D" 3 ∷
    refuses "DURATION" no_limits "P0Y0.5W" 3 ∷
    refuses "DURATION" no_limits "P5WT" 3 ∷
    refuses "Basic=Interval Interval-type=D" no_limits "P1W2D" 3 ∷
    refuses "Basic=Interval Interval-type=D" no_limits "P0W1D" 3 ∷
    refuses "Basic=Interval Interval-type=D" no_limits "P0Y5W" 3 ∷
    refuses "Basic=Interval Interval-type=D" no_limits "P1WT1H" 3 ∷
    -- 3: not "in order", or twice
    refuses "DURATION" no_limits "P1M1Y" 3 ∷
    refuses "DURATION" no_limits "P1D1M" 3 ∷
    refuses "DURATION" no_limits "P1D1Y" 3 ∷
    refuses "DURATION" no_limits "P1D1W" 3 ∷
    refuses "DURATION" no_limits "PT1M1H" 3 ∷
    refuses "DURATION" no_limits "PT1S1M" 3 ∷
    refuses "DURATION" no_limits "PT1S1H" 3 ∷
    refuses "DURATION" no_limits "P1Y1Y" 3 ∷
    refuses "DURATION" no_limits "P1M1M" 3 ∷
    refuses "DURATION" no_limits "P1D1D" 3 ∷
    refuses "DURATION" no_limits "PT1H1H" 3 ∷
    refuses "DURATION" no_limits "PT1M1M" 3 ∷
    refuses "DURATION" no_limits "PT1S1S" 3 ∷
    refuses "DURATION" no_limits "PT1H1D" 3 ∷
    refuses "DURATION" no_limits "PT1HT1M" 3 ∷
    refuses "DURATION" no_limits "PT1H1Y" 3 ∷
    refuses "DURATION" no_limits "PPT1H" 3 ∷
    refuses "DURATION" no_limits "PP1Y" 3 ∷
    refuses "DURATION" no_limits "PTT1H" 3 ∷
    refuses "Basic=Interval Interval-type=D" no_limits "P1M1Y" 3 ∷
    refuses "Basic=Interval Interval-type=D" no_limits "P1Y1Y" 3 ∷
    refuses "Basic=Interval Interval-type=D" no_limits "PT1M1H" 3 ∷
    -- 3: on the wrong side of `T`
    refuses "DURATION" no_limits "P1H" 3 ∷
    refuses "DURATION" no_limits "P1S" 3 ∷
    refuses "DURATION" no_limits "P1Y1H" 3 ∷
    refuses "DURATION" no_limits "P1M1S" 3 ∷
    refuses "DURATION" no_limits "PT1Y" 3 ∷
    refuses "DURATION" no_limits "PT1D" 3 ∷
    refuses "DURATION" no_limits "PT1W" 3 ∷
    refuses "DURATION" no_limits "P1YT1D" 3 ∷
    refuses "Basic=Interval Interval-type=D" no_limits "P1H" 3 ∷
    refuses "Basic=Interval Interval-type=D" no_limits "PT1Y" 3 ∷
    -- 3: without `P`, or with something before or behind it
    refuses "DURATION" no_limits "1Y" 3 ∷
    refuses "DURATION" no_limits "T1H" 3 ∷
    refuses "DURATION" no_limits "1Y6M" 3 ∷
    refuses "DURATION" no_limits "T0.5S" 3 ∷
    refuses "DURATION" no_limits " P1Y" 3 ∷
    refuses "DURATION" no_limits "P1Y " 3 ∷
    refuses "DURATION" no_limits "P 1Y" 3 ∷
    refuses "DURATION" no_limits "P1 Y" 3 ∷
    refuses "DURATION" no_limits "P1Y 6M" 3 ∷
    refuses "DURATION" no_limits "P1Y/" 3 ∷
    refuses "DURATION" no_limits "/P1Y" 3 ∷
    refuses "DURATION" no_limits "P1Y;" 3 ∷
    refuses "DURATION" no_limits "P1YP" 3 ∷
    refuses "DURATION" no_limits "P1YZ" 3 ∷
    refuses "DURATION" no_limits "P1Y0" 3 ∷
    refuses "DURATION" no_limits "P1Y." 3 ∷
    refuses "DURATION" no_limits "P1Y,5" 3 ∷
    refuses "DURATION" no_limits "\"P1Y\"" 3 ∷
    refuses "DURATION" no_limits "+P1Y" 3 ∷
    refuses "DURATION" no_limits "-P1Y" 3 ∷
    refuses "Basic=Interval Interval-type=D" no_limits "1Y" 3 ∷
    refuses "Basic=Interval Interval-type=D" no_limits "P1Y " 3 ∷
    refuses "Basic=Interval Interval-type=D" no_limits " P1Y" 3 ∷
    -- 3: small letters
    refuses "DURATION" no_limits "p1Y" 3 ∷
    refuses "DURATION" no_limits "P1y" 3 ∷
    refuses "DURATION" no_limits "P1m" 3 ∷
    refuses "DURATION" no_limits "P1w" 3 ∷
    refuses "DURATION" no_limits "P1d" 3 ∷
    refuses "DURATION" no_limits "Pt1H" 3 ∷
    refuses "DURATION" no_limits "PT1h" 3 ∷
    refuses "DURATION" no_limits "PT1m" 3 ∷
    refuses "DURATION" no_limits "PT1s" 3 ∷
    refuses "DURATION" no_limits "p1y" 3 ∷
    refuses "Basic=Interval Interval-type=D" no_limits "p1Y" 3 ∷
    refuses "Basic=Interval Interval-type=D" no_limits "P1y" 3 ∷
    -- 3: signs, and other separators
    refuses "DURATION" no_limits "P-1Y" 3 ∷
    refuses "DURATION" no_limits "P+1Y" 3 ∷
    refuses "DURATION" no_limits "PT-1S" 3 ∷
    refuses "DURATION" no_limits "P1Y-6M" 3 ∷
    refuses "DURATION" no_limits "P-0Y" 3 ∷
    refuses "DURATION" no_limits "PT0.-5S" 3 ∷
    refuses "DURATION" no_limits "P1;5Y" 3 ∷
    refuses "DURATION" no_limits "P1:5Y" 3 ∷
    refuses "DURATION" no_limits "P1..5Y" 3 ∷
    refuses "DURATION" no_limits "P1.,5Y" 3 ∷
    refuses "DURATION" no_limits "P1.5.5Y" 3 ∷
    refuses "DURATION" no_limits "P1-6" 3 ∷
    refuses "DURATION" no_limits "P1E2Y" 3 ∷
    refuses "DURATION" no_limits "PAY" 3 ∷
    refuses "DURATION" no_limits "P1X" 3 ∷
    refuses "DURATION" no_limits "P1Q" 3 ∷
    refuses "Basic=Interval Interval-type=D" no_limits "P-1Y" 3 ∷
    refuses "Basic=Interval Interval-type=D" no_limits "P+1Y" 3 ∷
    refuses "Basic=Interval Interval-type=D" no_limits "P1;5Y" 3 ∷
    -- 3: the alternative format, an interval, and a recurring one
    refuses "DURATION" no_limits "P0001-06-00" 3 ∷
    refuses "DURATION" no_limits "P0001-06-00T00:00:00" 3 ∷
    refuses "DURATION" no_limits "P1Y/P1Y" 3 ∷
    refuses "DURATION" no_limits "2006-06-13/P1Y" 3 ∷
    refuses "DURATION" no_limits "P1Y/2006-06-13" 3 ∷
    refuses "DURATION" no_limits "R5/P1Y" 3 ∷
    refuses "DURATION" no_limits "R/P1Y" 3 ∷
    -- 3: the text of a point where a duration is asked for
    refuses "DURATION" no_limits "2006-06-13" 3 ∷
    refuses "DURATION" no_limits "15:27:46" 3 ∷
    refuses "DURATION" no_limits "2006-06-13T15:27:46" 3 ∷
    refuses "DURATION" no_limits "2006" 3 ∷
    refuses "DURATION" no_limits "2006-06" 3 ∷
    refuses "DURATION" no_limits "2006-164" 3 ∷
    refuses "DURATION" no_limits "2006-W24" 3 ∷
    refuses "DURATION" no_limits "2006-W24-2" 3 ∷
    refuses "DURATION" no_limits "15" 3 ∷
    refuses "DURATION" no_limits "15.5" 3 ∷
    refuses "DURATION" no_limits "15Z" 3 ∷
    refuses "DURATION" no_limits "15+01" 3 ∷
    refuses "Basic=Interval Interval-type=D" no_limits "2006-06-13" 3 ∷
    refuses "Basic=Interval Interval-type=D" no_limits "15:27:46" 3 ∷
    refuses "Basic=Interval Interval-type=D" no_limits "2006-06-13T15:27:46" 3 ∷
    refuses "Interval-type=D Basic=Interval" no_limits "2006-06-13" 3 ∷
    -- 3: the text of a duration where a point is asked for
    refuses "DATE" no_limits "P1Y6M" 3 ∷
    refuses "DATE" no_limits "P2006Y6M13D" 3 ∷
    refuses "TIME-OF-DAY" no_limits "PT0.5S" 3 ∷
    refuses "TIME-OF-DAY" no_limits "PT15H27M46S" 3 ∷
    refuses "DATE-TIME" no_limits "P1Y6M" 3 ∷
    refuses "DATE-TIME" no_limits "P2006Y6M13DT15H27M46S" 3 ∷
    refuses "Basic=Date Date=Y Year=Basic" no_limits "P1Y" 3 ∷
    refuses "Basic=Date Date=Y Year=Basic" no_limits "P2006Y" 3 ∷
    refuses "Basic=Date Date=YMD Year=Basic" no_limits "P1Y6M" 3 ∷
    refuses "Basic=Time Time=H Local-or-UTC=L" no_limits "PT1H" 3 ∷
    refuses "Basic=Time Time=H Local-or-UTC=L" no_limits "PT15H" 3 ∷
    refuses "Basic=Time Time=HMS Local-or-UTC=L" no_limits "PT0.5S" 3 ∷
    refuses "Basic=Time Time=HMS Local-or-UTC=L" no_limits "PT15H27M46S" 3 ∷
    refuses "Basic=Time Time=HMSF1 Local-or-UTC=LD" no_limits "PT0.5S" 3 ∷
    refuses "Basic=Date-Time Date=Y Year=Basic Time=H Local-or-UTC=L" no_limits "P1Y6M" 3 ∷
    refuses "Basic=Date-Time Date=Y Year=Basic Time=H Local-or-UTC=L" no_limits "P1YT1H" 3 ∷
    []

types : List Refused
types =
    -- 1: "a restriction where it has no place": none has one at a duration, whatever the text is
    refuses "DURATION" from2000 "P1Y6M" 1 ∷
    refuses "DURATION" from2000 "P01Y" 1 ∷
    refuses "DURATION" no_years "P1Y6M" 1 ∷
    refuses "DURATION" no_years "P01Y" 1 ∷
    refuses "DURATION" no_hour24 "P1Y6M" 1 ∷
    refuses "DURATION" no_hour24 "P01Y" 1 ∷
    refuses "DURATION" both_limits "P1Y6M" 1 ∷
    refuses "DURATION" both_limits "P01Y" 1 ∷
    refuses "Basic=Interval Interval-type=D" from2000 "P1Y6M" 1 ∷
    refuses "Basic=Interval Interval-type=D" from2000 "P01Y" 1 ∷
    refuses "Basic=Interval Interval-type=D" no_years "P1Y6M" 1 ∷
    refuses "Basic=Interval Interval-type=D" no_years "P01Y" 1 ∷
    refuses "Basic=Interval Interval-type=D" no_hour24 "P1Y6M" 1 ∷
    refuses "Basic=Interval Interval-type=D" no_hour24 "P01Y" 1 ∷
    refuses "Basic=Interval Interval-type=D" both_limits "P1Y6M" 1 ∷
    refuses "Basic=Interval Interval-type=D" both_limits "P01Y" 1 ∷
    refuses "Interval-type=D Basic=Interval" from2000 "PT0.5S" 1 ∷
    refuses "Interval-type=D Basic=Interval" no_hour24 "" 1 ∷
    -- 1: "two equal lists"
    refuses "Basic=Interval Interval-type=D|Basic=Interval Interval-type=D" no_limits "P1D" 1 ∷
    refuses "Basic=Interval Interval-type=D|Interval-type=D Basic=Interval" no_limits "P1D" 1 ∷
    refuses "Interval-type=D Basic=Interval|Basic=Interval Interval-type=D" no_limits "P01D" 1 ∷
    refuses "Basic=Interval Interval-type=D|Basic=Interval Interval-type=D" from2000 "P1D" 1 ∷
    -- 1: "A name stands alone; beside a bar it is refusal 1."
    refuses "DURATION|DURATION" no_limits "P1D" 1 ∷
    refuses "DURATION|Basic=Interval Interval-type=D" no_limits "P1D" 1 ∷
    refuses "Basic=Interval Interval-type=D|DURATION" no_limits "P1D" 1 ∷
    refuses "DURATION|Basic=Date Date=Y Year=Basic" no_limits "P1D" 1 ∷
    refuses "DATE|DURATION" no_limits "P1D" 1 ∷
    refuses "DURATION|" no_limits "P1D" 1 ∷
    -- 1: words that are no setting or name, and settings where they have no place
    refuses "Duration" no_limits "P1D" 1 ∷
    refuses "DURATION " no_limits "P1D" 1 ∷
    refuses "Basic=Interval" no_limits "P1D" 1 ∷
    refuses "Interval-type=D" no_limits "P1D" 1 ∷
    refuses "Basic=Interval Interval-type=SD" no_limits "P1D" 1 ∷
    refuses "Basic=Rec-Interval Interval-type=D" no_limits "P1D" 1 ∷
    refuses "Basic=Interval Interval-type=D Date=Y Year=Basic" no_limits "P1D" 1 ∷
    refuses "Basic=Date Date=Y Year=Basic Interval-type=D" no_limits "P1D" 1 ∷
    -- 2: "two lists that don't make one row": of durations and of points, in both orders, whatever the text is
    refuses "Basic=Interval Interval-type=D|Basic=Date Date=Y Year=Basic" no_limits "P1D" 2 ∷
    refuses "Basic=Interval Interval-type=D|Basic=Time Time=H Local-or-UTC=L" no_limits "P01D" 2 ∷
    refuses "Basic=Interval Interval-type=D|Basic=Date-Time Date=Y Year=Basic Time=H Local-or-UTC=L" no_limits "2006" 2 ∷
    refuses "Basic=Date Date=Y Year=Basic|Basic=Interval Interval-type=D" no_limits "2006" 2 ∷
    refuses "Basic=Time Time=H Local-or-UTC=L|Basic=Interval Interval-type=D" no_limits "P1D" 2 ∷
    refuses "Basic=Date-Time Date=Y Year=Basic Time=H Local-or-UTC=L|Basic=Interval Interval-type=D" no_limits "" 2 ∷
    -- 1 before 2: the same with a restriction
    refuses "Basic=Interval Interval-type=D|Basic=Date Date=Y Year=Basic" from2000 "P1D" 1 ∷
    refuses "Basic=Date Date=Y Year=Basic|Basic=Interval Interval-type=D" from2000 "P1D" 1 ∷
    refuses "Basic=Interval Interval-type=D|Basic=Time Time=H Local-or-UTC=L" no_hour24 "P1D" 1 ∷
    refuses "Basic=Time Time=H Local-or-UTC=L|Basic=Interval Interval-type=D" no_hour24 "15" 1 ∷
    refuses "Basic=Interval Interval-type=D|Basic=Date-Time Date=Y Year=Basic Time=H Local-or-UTC=L" both_limits "P1D" 1 ∷
    refuses "Basic=Date-Time Date=Y Year=Basic Time=H Local-or-UTC=L|Basic=Interval Interval-type=D" both_limits "P1D" 1 ∷
    refuses "Basic=Interval Interval-type=D|Basic=Date Date=Y Year=Basic" no_years "P01D" 1 ∷
    []

-- Texts that are no duration's, and texts of the other kind.
texts_refused_checked : all_refused texts ≡ true
unfolding texts refused_by all_refused computed
texts_refused_checked = refl

-- Types that are none with durations, before any text is looked at.
types_refused_checked : all_refused types ≡ true
unfolding types refused_by all_refused computed
types_refused_checked = refl

-- ---- each cause, and each pair of causes

per_causes : List Cause
per_causes =
    -- 3: "octets end inside a field": no octets, and each cut of `P1Y6M`, of `P32Y` and of `PT0.1000S`
    per_cause "DURATION" no_limits "" 80 3 ∷
    per_cause "DURATION" no_limits "C0" 80 3 ∷
    per_cause "DURATION" no_limits "C004" 80 3 ∷
    per_cause "DURATION" no_limits "80" 80 3 ∷
    per_cause "DURATION" no_limits "8080" 80 3 ∷
    per_cause "DURATION" no_limits "808090" 80 3 ∷
    per_cause "DURATION" no_limits "03" 80 3 ∷
    per_cause "DURATION" no_limits "0301" 80 3 ∷
    per_cause "DURATION" no_limits "030101" 80 3 ∷
    per_cause "DURATION" no_limits "03010104" 80 3 ∷
    per_cause "DURATION" no_limits "0301010481" 80 3 ∷
    per_cause "DURATION" no_limits "030101048101" 80 3 ∷
    per_cause "DURATION" no_limits "030101048101F4" 80 3 ∷
    per_cause "Basic=Interval Interval-type=D" no_limits "" 80 3 ∷
    per_cause "Basic=Interval Interval-type=D" no_limits "80" 80 3 ∷
    -- 3: "no component at all", and a fraction without one
    per_cause "DURATION" no_limits "00" 80 3 ∷
    per_cause "DURATION" no_limits "010010" 80 3 ∷
    per_cause "DURATION" no_limits "01101000" 80 3 ∷
    per_cause "Basic=Interval Interval-type=D" no_limits "0000" 80 3 ∷
    -- 3: "weeks beside another one", each of the six, with a fraction, and all seven
    per_cause "DURATION" no_limits "A00428" 80 3 ∷
    per_cause "DURATION" no_limits "600850" 80 3 ∷
    per_cause "DURATION" no_limits "300A08" 80 3 ∷
    per_cause "DURATION" no_limits "280A08" 80 3 ∷
    per_cause "DURATION" no_limits "240A04" 80 3 ∷
    per_cause "DURATION" no_limits "220A04" 80 3 ∷
    per_cause "DURATION" no_limits "230A040040" 80 3 ∷
    per_cause "DURATION" no_limits "FE042041040810" 80 3 ∷
    per_cause "Basic=Interval Interval-type=D" no_limits "300A08" 80 3 ∷
    -- 3: weeks beside another one where one of them is 0, which also "should be gone", or both are
    per_cause "DURATION" no_limits "A00400" 80 3 ∷
    per_cause "DURATION" no_limits "600800" 80 3 ∷
    per_cause "DURATION" no_limits "300008" 80 3 ∷
    per_cause "DURATION" no_limits "280008" 80 3 ∷
    per_cause "DURATION" no_limits "240004" 80 3 ∷
    per_cause "DURATION" no_limits "220004" 80 3 ∷
    per_cause "DURATION" no_limits "A00028" 80 3 ∷
    per_cause "DURATION" no_limits "600050" 80 3 ∷
    per_cause "DURATION" no_limits "300A00" 80 3 ∷
    per_cause "DURATION" no_limits "280A00" 80 3 ∷
    per_cause "DURATION" no_limits "240A00" 80 3 ∷
    per_cause "DURATION" no_limits "220A00" 80 3 ∷
    per_cause "DURATION" no_limits "220000" 80 3 ∷
    per_cause "DURATION" no_limits "FE000000000000" 80 3 ∷
    -- 3: "a field's bits above its range": digits 4 in the two bits, and values 1000 and 1024 in the ten, which four digits would have
    per_cause "DURATION" no_limits "0300C020" 80 3 ∷
    per_cause "DURATION" no_limits "0300E02000" 80 3 ∷
    per_cause "DURATION" no_limits "03009F38" 80 3 ∷
    per_cause "DURATION" no_limits "030101047CE0" 80 3 ∷
    per_cause "DURATION" no_limits "030101097FE0" 80 3 ∷
    -- 3: "a decoded fraction of no digits, of over nine": 0, 10, 255 and a negative count
    per_cause "DURATION" no_limits "030101000080" 80 3 ∷
    per_cause "DURATION" no_limits "03010100808000" 80 3 ∷
    per_cause "DURATION" no_limits "0301010A0080" 80 3 ∷
    per_cause "DURATION" no_limits "0301010A81026900" 80 3 ∷
    per_cause "DURATION" no_limits "03010200FF0080" 80 3 ∷
    per_cause "DURATION" no_limits "030101FF0080" 80 3 ∷
    per_cause "DURATION" no_limits "030101FF808000" 80 3 ∷
    per_cause "DURATION" no_limits "030101800080" 80 3 ∷
    -- 3: "or too large for them": 10 to the digits, of one to nine of them
    per_cause "DURATION" no_limits "03000048" 80 3 ∷
    per_cause "DURATION" no_limits "03004318" 80 3 ∷
    per_cause "DURATION" no_limits "0300A0407D00" 80 3 ∷
    per_cause "DURATION" no_limits "0301010481138800" 80 3 ∷
    per_cause "DURATION" no_limits "030101058180C35000" 80 3 ∷
    per_cause "DURATION" no_limits "030101068187A12000" 80 3 ∷
    per_cause "DURATION" no_limits "0301010782004C4B4000" 80 3 ∷
    per_cause "DURATION" no_limits "030101088202FAF08000" 80 3 ∷
    per_cause "DURATION" no_limits "03010109821DCD650000" 80 3 ∷
    -- 3: a fraction that is negative, "a fraction negative or of more than n digits"
    per_cause "DURATION" no_limits "0300203FE0" 80 3 ∷
    per_cause "DURATION" no_limits "0300A05F8320" 80 3 ∷
    per_cause "DURATION" no_limits "03010104817E0C00" 80 3 ∷
    per_cause "DURATION" no_limits "03010109824000000000" 80 3 ∷
    -- 3: "a number that is negative", in each component
    per_cause "DURATION" no_limits "8080FF80" 80 3 ∷
    per_cause "DURATION" no_limits "4080FF80" 80 3 ∷
    per_cause "DURATION" no_limits "2080FF80" 80 3 ∷
    per_cause "DURATION" no_limits "1080FF80" 80 3 ∷
    per_cause "DURATION" no_limits "0880FF80" 80 3 ∷
    per_cause "DURATION" no_limits "0480FF80" 80 3 ∷
    per_cause "DURATION" no_limits "0280FF80" 80 3 ∷
    per_cause "DURATION" no_limits "80824000000000" 80 3 ∷
    per_cause "DURATION" no_limits "82060300" 80 3 ∷
    -- 3: a number "of more than nine digits", in each component
    per_cause "DURATION" no_limits "80821DCD650000" 80 3 ∷
    per_cause "DURATION" no_limits "40821DCD650000" 80 3 ∷
    per_cause "DURATION" no_limits "20821DCD650000" 80 3 ∷
    per_cause "DURATION" no_limits "10821DCD650000" 80 3 ∷
    per_cause "DURATION" no_limits "08821DCD650000" 80 3 ∷
    per_cause "DURATION" no_limits "04821DCD650000" 80 3 ∷
    per_cause "DURATION" no_limits "02821DCD650000" 80 3 ∷
    per_cause "DURATION" no_limits "80823FFFFFFF80" 80 3 ∷
    per_cause "DURATION" no_limits "82060877359400" 80 3 ∷
    -- 3: "a free integer's length not 1 to 4", of a number, of the digits and of the value
    per_cause "DURATION" no_limits "8080002480" 80 3 ∷
    per_cause "DURATION" no_limits "8082800000002480" 80 3 ∷
    per_cause "DURATION" no_limits "0280002480" 80 3 ∷
    per_cause "DURATION" no_limits "0282800000002480" 80 3 ∷
    per_cause "DURATION" no_limits "0301000049" 80 3 ∷
    per_cause "DURATION" no_limits "0301050000000049" 80 3 ∷
    per_cause "DURATION" no_limits "030020000920" 80 3 ∷
    per_cause "DURATION" no_limits "030020A00000000920" 80 3 ∷
    per_cause "DURATION" no_limits "80C02480" 80 3 ∷
    per_cause "DURATION" no_limits "80FFA480" 80 3 ∷
    -- 0: a fraction of value 0 after a 1 bit, which "1..999" doesn't hold
    per_cause "DURATION" no_limits "0300202000" 80 0 ∷
    per_cause "DURATION" no_limits "0300A02000" 80 0 ∷
    per_cause "DURATION" no_limits "03010104808000" 80 0 ∷
    per_cause "DURATION" no_limits "03010109808000" 80 0 ∷
    per_cause "DURATION" no_limits "2100202000" 80 0 ∷
    -- 6: "a zero component that should be gone", in each place, after a 1 bit, before a fraction, and several
    per_cause "DURATION" no_limits "820008" 80 6 ∷
    per_cause "DURATION" no_limits "420010" 80 6 ∷
    per_cause "DURATION" no_limits "120008" 80 6 ∷
    per_cause "DURATION" no_limits "0A0008" 80 6 ∷
    per_cause "DURATION" no_limits "060004" 80 6 ∷
    per_cause "DURATION" no_limits "C00000" 80 6 ∷
    per_cause "DURATION" no_limits "C00020" 80 6 ∷
    per_cause "DURATION" no_limits "98040040" 80 6 ∷
    per_cause "DURATION" no_limits "0A0000" 80 6 ∷
    per_cause "DURATION" no_limits "DE0000000000" 80 6 ∷
    per_cause "DURATION" no_limits "82808001" 80 6 ∷
    per_cause "DURATION" no_limits "0700000040" 80 6 ∷
    per_cause "DURATION" no_limits "9100110100" 80 6 ∷
    per_cause "Basic=Interval Interval-type=D" no_limits "C00000" 80 6 ∷
    -- 6: "a number after a 1 bit that fits without it", the highest of each root, and 0
    per_cause "DURATION" no_limits "80808F80" 80 6 ∷
    per_cause "DURATION" no_limits "40808780" 80 6 ∷
    per_cause "DURATION" no_limits "20809F80" 80 6 ∷
    per_cause "DURATION" no_limits "10808F80" 80 6 ∷
    per_cause "DURATION" no_limits "08808F80" 80 6 ∷
    per_cause "DURATION" no_limits "04809F80" 80 6 ∷
    per_cause "DURATION" no_limits "02809F80" 80 6 ∷
    per_cause "DURATION" no_limits "80808000" 80 6 ∷
    per_cause "DURATION" no_limits "40808000" 80 6 ∷
    per_cause "DURATION" no_limits "20808000" 80 6 ∷
    per_cause "DURATION" no_limits "10808000" 80 6 ∷
    per_cause "DURATION" no_limits "08808000" 80 6 ∷
    per_cause "DURATION" no_limits "04808000" 80 6 ∷
    per_cause "DURATION" no_limits "02808000" 80 6 ∷
    per_cause "DURATION" no_limits "8206020A" 80 6 ∷
    per_cause "DURATION" no_limits "82808FC05000" 80 6 ∷
    -- 6: the digits after a 1 bit, 1 to 3, and the value, 1 and 999
    per_cause "DURATION" no_limits "030101010080" 80 6 ∷
    per_cause "DURATION" no_limits "030101020080" 80 6 ∷
    per_cause "DURATION" no_limits "030101030080" 80 6 ∷
    per_cause "DURATION" no_limits "03010101808000" 80 6 ∷
    per_cause "DURATION" no_limits "0300202020" 80 6 ∷
    per_cause "DURATION" no_limits "03002020A0" 80 6 ∷
    per_cause "DURATION" no_limits "0300A0407CE0" 80 6 ∷
    per_cause "DURATION" no_limits "030101048101F380" 80 6 ∷
    per_cause "DURATION" no_limits "030101038101F380" 80 6 ∷
    -- 6: "integer not shortest", of a number, of the digits and of the value
    per_cause "DURATION" no_limits "8081001000" 80 6 ∷
    per_cause "DURATION" no_limits "808180001000" 80 6 ∷
    per_cause "DURATION" no_limits "80820000001000" 80 6 ∷
    per_cause "DURATION" no_limits "2081002000" 80 6 ∷
    per_cause "DURATION" no_limits "028180004000" 80 6 ∷
    per_cause "DURATION" no_limits "028200003FFF80" 80 6 ∷
    per_cause "DURATION" no_limits "8081000000" 80 6 ∷
    per_cause "DURATION" no_limits "03010200040080" 80 6 ∷
    per_cause "DURATION" no_limits "030104000000048101F400" 80 6 ∷
    per_cause "DURATION" no_limits "03010200010080" 80 6 ∷
    per_cause "DURATION" no_limits "03010104818001F400" 80 6 ∷
    per_cause "DURATION" no_limits "030020400000" 80 6 ∷
    per_cause "DURATION" no_limits "0300208000000000" 80 6 ∷
    -- 6: "filling not zero", its first and its last bit
    per_cause "DURATION" no_limits "C004C1" 80 6 ∷
    per_cause "DURATION" no_limits "C004D0" 80 6 ∷
    per_cause "DURATION" no_limits "8005" 80 6 ∷
    per_cause "DURATION" no_limits "8006" 80 6 ∷
    per_cause "DURATION" no_limits "03000021" 80 6 ∷
    per_cause "DURATION" no_limits "03000024" 80 6 ∷
    per_cause "DURATION" no_limits "80809040" 80 6 ∷
    per_cause "DURATION" no_limits "80809001" 80 6 ∷
    per_cause "DURATION" no_limits "0201" 80 6 ∷
    per_cause "Basic=Interval Interval-type=D" no_limits "C004C1" 80 6 ∷
    -- 6: "octets left over"
    per_cause "DURATION" no_limits "C004C000" 80 6 ∷
    per_cause "DURATION" no_limits "C004C0FF" 80 6 ∷
    per_cause "DURATION" no_limits "800400" 80 6 ∷
    per_cause "DURATION" no_limits "0300002000" 80 6 ∷
    per_cause "DURATION" no_limits "8080900000" 80 6 ∷
    per_cause "DURATION" no_limits "02000200" 80 6 ∷
    per_cause "DURATION" no_limits "DF821DCD64FFC10EE6B27FE08773593FF043B9AC9FF821DCD64FFC10EE6B27FE0213043B9AC9FF00" 80 6 ∷
    per_cause "Basic=Interval Interval-type=D" no_limits "C004C000" 80 6 ∷
    -- 7: "the lent room is shorter than the result": `P1Y6M` has five octets, `PT0.5S` six and the longest text 72
    per_cause "DURATION" no_limits "C004C0" 4 7 ∷
    per_cause "DURATION" no_limits "C004C0" 5 0 ∷
    per_cause "DURATION" no_limits "C004C0" 0 7 ∷
    per_cause "Basic=Interval Interval-type=D" no_limits "03000020" 5 7 ∷
    per_cause "Basic=Interval Interval-type=D" no_limits "03000020" 6 0 ∷
    per_cause "DURATION" no_limits "DF821DCD64FFC10EE6B27FE08773593FF043B9AC9FF821DCD64FFC10EE6B27FE0213043B9AC9FF" 71 7 ∷
    per_cause "DURATION" no_limits "DF821DCD64FFC10EE6B27FE08773593FF043B9AC9FF821DCD64FFC10EE6B27FE0213043B9AC9FF" 72 0 ∷
    -- "When several hold, the lowest number is given.": 3 with a zero component that should be gone: an end, bits above a range, a count, a value
    per_cause "DURATION" no_limits "8200" 80 3 ∷
    per_cause "DURATION" no_limits "8300030080" 80 3 ∷
    per_cause "DURATION" no_limits "8300027CE0" 80 3 ∷
    per_cause "DURATION" no_limits "83000404000200" 80 3 ∷
    per_cause "DURATION" no_limits "83000404280200" 80 3 ∷
    per_cause "DURATION" no_limits "83000407FC0200" 80 3 ∷
    per_cause "DURATION" no_limits "8300000120" 80 3 ∷
    per_cause "DURATION" no_limits "83000080FF80" 80 3 ∷
    -- and a number that is negative, one of ten digits, a length 0 and a length 5
    per_cause "DURATION" no_limits "820203FE" 80 3 ∷
    per_cause "DURATION" no_limits "82020877359400" 80 3 ∷
    per_cause "DURATION" no_limits "8202000092" 80 3 ∷
    per_cause "DURATION" no_limits "82020A0000000092" 80 3 ∷
    -- 3 with a number after a 1 bit that fits without it, of too many octets, or both
    per_cause "DURATION" no_limits "82808FC07FC0" 80 3 ∷
    per_cause "DURATION" no_limits "82808FC10EE6B28000" 80 3 ∷
    per_cause "DURATION" no_limits "828200000010407FC0" 80 3 ∷
    per_cause "DURATION" no_limits "30808282" 80 3 ∷
    per_cause "DURATION" no_limits "3081000282" 80 3 ∷
    per_cause "DURATION" no_limits "81808F8012" 80 3 ∷
    per_cause "DURATION" no_limits "81808FB008" 80 3 ∷
    per_cause "DURATION" no_limits "81808FC0428020" 80 3 ∷
    per_cause "DURATION" no_limits "80817FFF80" 80 3 ∷
    per_cause "DURATION" no_limits "0180808040" 80 3 ∷
    per_cause "DURATION" no_limits "01101050" 80 3 ∷
    -- 3 with digits and values that fit without their 1 bits, or have too many octets
    per_cause "DURATION" no_limits "030101010120" 80 3 ∷
    per_cause "DURATION" no_limits "0301010180FF80" 80 3 ∷
    per_cause "DURATION" no_limits "030101038101F400" 80 3 ∷
    per_cause "DURATION" no_limits "030101037CE0" 80 3 ∷
    per_cause "DURATION" no_limits "0300202140" 80 3 ∷
    per_cause "DURATION" no_limits "0300602C80" 80 3 ∷
    per_cause "DURATION" no_limits "03002060000140" 80 3 ∷
    per_cause "DURATION" no_limits "03010200000080" 80 3 ∷
    per_cause "DURATION" no_limits "030102000A0080" 80 3 ∷
    per_cause "DURATION" no_limits "030102FFFF0080" 80 3 ∷
    per_cause "DURATION" no_limits "0300205FFFE0" 80 3 ∷
    per_cause "DURATION" no_limits "030102000481138800" 80 3 ∷
    -- 3 with octets left over and filling not zero, and without room
    per_cause "DURATION" no_limits "0001" 80 3 ∷
    per_cause "DURATION" no_limits "000000" 80 3 ∷
    per_cause "DURATION" no_limits "A00001" 80 3 ∷
    per_cause "DURATION" no_limits "A000000000" 80 3 ∷
    per_cause "DURATION" no_limits "3000FF" 80 3 ∷
    per_cause "DURATION" no_limits "8080FF81" 80 3 ∷
    per_cause "DURATION" no_limits "8080FF8000" 80 3 ∷
    per_cause "DURATION" no_limits "" 0 3 ∷
    per_cause "DURATION" no_limits "C0" 0 3 ∷
    per_cause "DURATION" no_limits "0000" 0 3 ∷
    per_cause "DURATION" no_limits "A0000000" 0 3 ∷
    per_cause "DURATION" no_limits "8080FF80" 0 3 ∷
    -- 6 without room
    per_cause "DURATION" no_limits "C004C1" 0 6 ∷
    per_cause "DURATION" no_limits "C004C000" 0 6 ∷
    per_cause "DURATION" no_limits "C00000" 0 6 ∷
    per_cause "DURATION" no_limits "80808F80" 0 6 ∷
    per_cause "DURATION" no_limits "03002020A0" 0 6 ∷
    -- 1: "a restriction where it has no place", with good octets, with others, and without room
    per_cause "DURATION" from2000 "C004C0" 80 1 ∷
    per_cause "DURATION" from2000 "" 80 1 ∷
    per_cause "DURATION" from2000 "C004C1" 80 1 ∷
    per_cause "DURATION" no_hour24 "C004C0" 80 1 ∷
    per_cause "DURATION" no_hour24 "0000" 80 1 ∷
    per_cause "DURATION" both_limits "C004C0" 80 1 ∷
    per_cause "DURATION" no_years "C004C0" 0 1 ∷
    per_cause "Basic=Interval Interval-type=D" from2000 "C004C0" 80 1 ∷
    per_cause "Basic=Interval Interval-type=D" no_hour24 "C004C0" 80 1 ∷
    []

der_causes : List Cause
der_causes =
    -- 0: `P1Y6M` and `PT0.5S`, "DER tag 1F 22, contents without `P`", and "tag 0E, contents the canonical text"
    der_cause "DURATION" no_limits "1F22043159364D" 80 0 ∷
    der_cause "DURATION" no_limits "1F220554302E3553" 80 0 ∷
    der_cause "Basic=Interval Interval-type=D" no_limits "0E05503159364D" 80 0 ∷
    der_cause "Basic=Interval Interval-type=D" no_limits "0E065054302E3553" 80 0 ∷
    -- 3: `P` in the contents under 1F 22, and none under 0E
    der_cause "DURATION" no_limits "1F2205503159364D" 80 3 ∷
    der_cause "DURATION" no_limits "1F22065054302E3553" 80 3 ∷
    der_cause "DURATION" no_limits "1F220450503159" 80 3 ∷
    der_cause "DURATION" no_limits "1F22053159364D50" 80 3 ∷
    der_cause "Basic=Interval Interval-type=D" no_limits "0E043159364D" 80 3 ∷
    der_cause "Basic=Interval Interval-type=D" no_limits "0E0554302E3553" 80 3 ∷
    der_cause "Basic=Interval Interval-type=D" no_limits "0E0650503159364D" 80 3 ∷
    -- 3: "no component at all": empty contents, `P`, `T`
    der_cause "DURATION" no_limits "1F2200" 80 3 ∷
    der_cause "DURATION" no_limits "1F220150" 80 3 ∷
    der_cause "DURATION" no_limits "1F220154" 80 3 ∷
    der_cause "DURATION" no_limits "1F22025054" 80 3 ∷
    der_cause "DURATION" no_limits "1F2203315954" 80 3 ∷
    der_cause "Basic=Interval Interval-type=D" no_limits "0E00" 80 3 ∷
    der_cause "Basic=Interval Interval-type=D" no_limits "0E0150" 80 3 ∷
    der_cause "Basic=Interval Interval-type=D" no_limits "0E025054" 80 3 ∷
    der_cause "Basic=Interval Interval-type=D" no_limits "0E0450315954" 80 3 ∷
    -- 3: the other refusals of texts: a needless leading zero, an earlier fraction, more than nine digits, weeks beside another one, letters
    der_cause "DURATION" no_limits "1F2203303159" 80 3 ∷
    der_cause "DURATION" no_limits "1F2203303059" 80 3 ∷
    der_cause "DURATION" no_limits "1F2206312E3559324D" 80 3 ∷
    der_cause "DURATION" no_limits "1F2207312E3559543248" 80 3 ∷
    der_cause "DURATION" no_limits "1F220B3130303030303030303059" 80 3 ∷
    der_cause "DURATION" no_limits "1F220E54312E3030303030303030303053" 80 3 ∷
    der_cause "DURATION" no_limits "1F2203312E59" 80 3 ∷
    der_cause "DURATION" no_limits "1F22032E3559" 80 3 ∷
    der_cause "DURATION" no_limits "1F220431573244" 80 3 ∷
    der_cause "DURATION" no_limits "1F220430573144" 80 3 ∷
    der_cause "DURATION" no_limits "1F220430593557" 80 3 ∷
    der_cause "DURATION" no_limits "1F22053157543148" 80 3 ∷
    der_cause "DURATION" no_limits "1F2204314D3159" 80 3 ∷
    der_cause "DURATION" no_limits "1F220431593159" 80 3 ∷
    der_cause "DURATION" no_limits "1F220554314D3148" 80 3 ∷
    der_cause "DURATION" no_limits "1F22023148" 80 3 ∷
    der_cause "DURATION" no_limits "1F2203543159" 80 3 ∷
    der_cause "DURATION" no_limits "1F22023179" 80 3 ∷
    der_cause "DURATION" no_limits "1F22032D3159" 80 3 ∷
    der_cause "DURATION" no_limits "1F22032B3159" 80 3 ∷
    der_cause "DURATION" no_limits "1F2203315920" 80 3 ∷
    der_cause "DURATION" no_limits "1F2203203159" 80 3 ∷
    der_cause "DURATION" no_limits "1F220331592F" 80 3 ∷
    der_cause "DURATION" no_limits "1F2204313B3559" 80 3 ∷
    der_cause "DURATION" no_limits "1F220A323030362D30362D3133" 80 3 ∷
    der_cause "DURATION" no_limits "1F22083230303630363133" 80 3 ∷
    der_cause "Basic=Interval Interval-type=D" no_limits "0E0450303159" 80 3 ∷
    der_cause "Basic=Interval Interval-type=D" no_limits "0E0450303059" 80 3 ∷
    der_cause "Basic=Interval Interval-type=D" no_limits "0E0750312E3559324D" 80 3 ∷
    der_cause "Basic=Interval Interval-type=D" no_limits "0E0850312E3559543248" 80 3 ∷
    der_cause "Basic=Interval Interval-type=D" no_limits "0E0C503130303030303030303059" 80 3 ∷
    der_cause "Basic=Interval Interval-type=D" no_limits "0E0F5054312E3030303030303030303053" 80 3 ∷
    der_cause "Basic=Interval Interval-type=D" no_limits "0E0450312E59" 80 3 ∷
    der_cause "Basic=Interval Interval-type=D" no_limits "0E04502E3559" 80 3 ∷
    der_cause "Basic=Interval Interval-type=D" no_limits "0E055031573244" 80 3 ∷
    der_cause "Basic=Interval Interval-type=D" no_limits "0E055030573144" 80 3 ∷
    der_cause "Basic=Interval Interval-type=D" no_limits "0E055030593557" 80 3 ∷
    der_cause "Basic=Interval Interval-type=D" no_limits "0E06503157543148" 80 3 ∷
    der_cause "Basic=Interval Interval-type=D" no_limits "0E0550314D3159" 80 3 ∷
    der_cause "Basic=Interval Interval-type=D" no_limits "0E03703159" 80 3 ∷
    der_cause "Basic=Interval Interval-type=D" no_limits "0E04502D3159" 80 3 ∷
    der_cause "Basic=Interval Interval-type=D" no_limits "0E0450315920" 80 3 ∷
    der_cause "Basic=Interval Interval-type=D" no_limits "0E0A323030362D30362D3133" 80 3 ∷
    -- 3: "tag wrong": those of the name and of its settings exchanged
    der_cause "DURATION" no_limits "0E05503159364D" 80 3 ∷
    der_cause "DURATION" no_limits "0E043159364D" 80 3 ∷
    der_cause "Basic=Interval Interval-type=D" no_limits "1F22043159364D" 80 3 ∷
    der_cause "Basic=Interval Interval-type=D" no_limits "1F2205503159364D" 80 3 ∷
    -- 3: other tags, one octet of them, and none
    der_cause "DURATION" no_limits "1F21043159364D" 80 3 ∷
    der_cause "DURATION" no_limits "1F23043159364D" 80 3 ∷
    der_cause "DURATION" no_limits "1F1F043159364D" 80 3 ∷
    der_cause "DURATION" no_limits "1F20043159364D" 80 3 ∷
    der_cause "DURATION" no_limits "1E22043159364D" 80 3 ∷
    der_cause "DURATION" no_limits "22043159364D" 80 3 ∷
    der_cause "DURATION" no_limits "1F043159364D" 80 3 ∷
    der_cause "DURATION" no_limits "1F" 80 3 ∷
    der_cause "DURATION" no_limits "" 80 3 ∷
    der_cause "DURATION" no_limits "0E" 80 3 ∷
    der_cause "Basic=Interval Interval-type=D" no_limits "0D05503159364D" 80 3 ∷
    der_cause "Basic=Interval Interval-type=D" no_limits "0F05503159364D" 80 3 ∷
    der_cause "Basic=Interval Interval-type=D" no_limits "1F0E05503159364D" 80 3 ∷
    der_cause "Basic=Interval Interval-type=D" no_limits "1F" 80 3 ∷
    der_cause "Basic=Interval Interval-type=D" no_limits "" 80 3 ∷
    -- 3: "the DER length above 127, missing, or above the octets that follow"
    der_cause "DURATION" no_limits "1F2281043159364D" 80 3 ∷
    der_cause "DURATION" no_limits "1F22843159364D" 80 3 ∷
    der_cause "DURATION" no_limits "1F22803159364D0000" 80 3 ∷
    der_cause "DURATION" no_limits "1F22FF3159364D" 80 3 ∷
    der_cause "DURATION" no_limits "1F22" 80 3 ∷
    der_cause "DURATION" no_limits "1F22053159364D" 80 3 ∷
    der_cause "DURATION" no_limits "1F22043159" 80 3 ∷
    der_cause "DURATION" no_limits "1F2201" 80 3 ∷
    der_cause "DURATION" no_limits "1F227F3159364D" 80 3 ∷
    der_cause "Basic=Interval Interval-type=D" no_limits "0E8105503159364D" 80 3 ∷
    der_cause "Basic=Interval Interval-type=D" no_limits "0E85503159364D" 80 3 ∷
    der_cause "Basic=Interval Interval-type=D" no_limits "0E80503159364D0000" 80 3 ∷
    der_cause "Basic=Interval Interval-type=D" no_limits "0E" 80 3 ∷
    der_cause "Basic=Interval Interval-type=D" no_limits "0E06503159364D" 80 3 ∷
    der_cause "Basic=Interval Interval-type=D" no_limits "0E0550315936" 80 3 ∷
    der_cause "Basic=Interval Interval-type=D" no_limits "0E01" 80 3 ∷
    -- 3: a length that ends inside the text
    der_cause "DURATION" no_limits "1F22033159364D" 80 3 ∷
    der_cause "DURATION" no_limits "1F22013159364D" 80 3 ∷
    der_cause "DURATION" no_limits "1F22003159364D" 80 3 ∷
    der_cause "Basic=Interval Interval-type=D" no_limits "0E04503159364D" 80 3 ∷
    der_cause "Basic=Interval Interval-type=D" no_limits "0E01503159364D" 80 3 ∷
    der_cause "Basic=Interval Interval-type=D" no_limits "0E00503159364D" 80 3 ∷
    -- 6: "comma"
    der_cause "DURATION" no_limits "1F220554302C3553" 80 6 ∷
    der_cause "DURATION" no_limits "1F2204312C3559" 80 6 ∷
    der_cause "DURATION" no_limits "1F2204312C3557" 80 6 ∷
    der_cause "DURATION" no_limits "1F22063159362C354D" 80 6 ∷
    der_cause "DURATION" no_limits "1F220754302C30303053" 80 6 ∷
    der_cause "Basic=Interval Interval-type=D" no_limits "0E065054302C3553" 80 6 ∷
    der_cause "Basic=Interval Interval-type=D" no_limits "0E0550312C3559" 80 6 ∷
    der_cause "Basic=Interval Interval-type=D" no_limits "0E0550312C3557" 80 6 ∷
    -- 6: "a zero component that should be gone", in each place
    der_cause "DURATION" no_limits "1F22043059314D" 80 6 ∷
    der_cause "DURATION" no_limits "1F2204304D3144" 80 6 ∷
    der_cause "DURATION" no_limits "1F22053044543148" 80 6 ∷
    der_cause "DURATION" no_limits "1F2205543048314D" 80 6 ∷
    der_cause "DURATION" no_limits "1F220554304D3153" 80 6 ∷
    der_cause "DURATION" no_limits "1F22043059304D" 80 6 ∷
    der_cause "DURATION" no_limits "1F22063059304D3144" 80 6 ∷
    der_cause "DURATION" no_limits "1F220D3059304D3044543048304D3053" 80 6 ∷
    der_cause "DURATION" no_limits "1F22063159304D3144" 80 6 ∷
    der_cause "DURATION" no_limits "1F220731593044543148" 80 6 ∷
    der_cause "DURATION" no_limits "1F2207305954302E3553" 80 6 ∷
    der_cause "DURATION" no_limits "1F22083159304D302E3544" 80 6 ∷
    der_cause "Basic=Interval Interval-type=D" no_limits "0E05503059314D" 80 6 ∷
    der_cause "Basic=Interval Interval-type=D" no_limits "0E0550304D3144" 80 6 ∷
    der_cause "Basic=Interval Interval-type=D" no_limits "0E06503044543148" 80 6 ∷
    der_cause "Basic=Interval Interval-type=D" no_limits "0E0650543048314D" 80 6 ∷
    der_cause "Basic=Interval Interval-type=D" no_limits "0E065054304D3153" 80 6 ∷
    der_cause "Basic=Interval Interval-type=D" no_limits "0E05503059304D" 80 6 ∷
    der_cause "Basic=Interval Interval-type=D" no_limits "0E07503059304D3144" 80 6 ∷
    -- 6: both
    der_cause "DURATION" no_limits "1F22063059312C354D" 80 6 ∷
    der_cause "DURATION" no_limits "1F2207543048302C3053" 80 6 ∷
    der_cause "Basic=Interval Interval-type=D" no_limits "0E07503059312C354D" 80 6 ∷
    -- 6: "octets left over"
    der_cause "DURATION" no_limits "1F22043159364D00" 80 6 ∷
    der_cause "DURATION" no_limits "1F22043159364DFF" 80 6 ∷
    der_cause "DURATION" no_limits "1F220554302E35531F22023159" 80 6 ∷
    der_cause "Basic=Interval Interval-type=D" no_limits "0E05503159364D00" 80 6 ∷
    der_cause "Basic=Interval Interval-type=D" no_limits "0E05503159364D0E03503159" 80 6 ∷
    der_cause "DURATION" no_limits "1F22023159364D" 80 6 ∷
    der_cause "Basic=Interval Interval-type=D" no_limits "0E03503159364D" 80 6 ∷
    -- 7: "the lent room is shorter than the result": the text has its `P`
    der_cause "DURATION" no_limits "1F22043159364D" 4 7 ∷
    der_cause "DURATION" no_limits "1F22043159364D" 5 0 ∷
    der_cause "DURATION" no_limits "1F22043159364D" 0 7 ∷
    der_cause "Basic=Interval Interval-type=D" no_limits "0E065054302E3553" 5 7 ∷
    der_cause "Basic=Interval Interval-type=D" no_limits "0E065054302E3553" 6 0 ∷
    -- "When several hold, the lowest number is given.": 3 with 6, of a comma, of a zero component, of octets left over
    der_cause "DURATION" no_limits "1F2206312C3559324D" 80 3 ∷
    der_cause "DURATION" no_limits "1F22065430312C3553" 80 3 ∷
    der_cause "DURATION" no_limits "1F2203312C59" 80 3 ∷
    der_cause "DURATION" no_limits "1F220D312C3030303030303030303059" 80 3 ∷
    der_cause "DURATION" no_limits "1F2205305930314D" 80 3 ∷
    der_cause "DURATION" no_limits "1F22063059314D3159" 80 3 ∷
    der_cause "DURATION" no_limits "1F220430593148" 80 3 ∷
    der_cause "DURATION" no_limits "1F220430593157" 80 3 ∷
    der_cause "DURATION" no_limits "1F2205503059314D" 80 3 ∷
    der_cause "Basic=Interval Interval-type=D" no_limits "0E06312C3559324D" 80 3 ∷
    der_cause "Basic=Interval Interval-type=D" no_limits "0E05305930314D" 80 3 ∷
    der_cause "Basic=Interval Interval-type=D" no_limits "0E043059314D" 80 3 ∷
    der_cause "DURATION" no_limits "1F220330315900" 80 3 ∷
    der_cause "DURATION" no_limits "1F220000" 80 3 ∷
    der_cause "DURATION" no_limits "1F2205503159364D00" 80 3 ∷
    der_cause "DURATION" no_limits "0E05503159364D00" 80 3 ∷
    der_cause "Basic=Interval Interval-type=D" no_limits "0E043159364D00" 80 3 ∷
    -- 3 with 7, 6 with 7, and all three
    der_cause "DURATION" no_limits "1F2203303159" 0 3 ∷
    der_cause "DURATION" no_limits "1F2200" 0 3 ∷
    der_cause "DURATION" no_limits "" 0 3 ∷
    der_cause "DURATION" no_limits "1F22" 0 3 ∷
    der_cause "DURATION" no_limits "0E05503159364D" 0 3 ∷
    der_cause "DURATION" no_limits "1F220554302C3553" 0 6 ∷
    der_cause "DURATION" no_limits "1F22043059314D" 0 6 ∷
    der_cause "DURATION" no_limits "1F22043159364D00" 0 6 ∷
    der_cause "DURATION" no_limits "1F2206312C3559324D" 0 3 ∷
    der_cause "DURATION" no_limits "1F2205305930314D" 0 3 ∷
    der_cause "DURATION" no_limits "1F220330315900" 0 3 ∷
    der_cause "Basic=Interval Interval-type=D" no_limits "0E0450303159" 0 3 ∷
    der_cause "Basic=Interval Interval-type=D" no_limits "0E065054302C3553" 0 6 ∷
    der_cause "Basic=Interval Interval-type=D" no_limits "0E05503059314D" 0 6 ∷
    -- 1: "a restriction where it has no place", with good octets, with others, and without room
    der_cause "DURATION" from2000 "1F22043159364D" 80 1 ∷
    der_cause "DURATION" from2000 "1F2205503159364D" 80 1 ∷
    der_cause "DURATION" from2000 "1F22043059314D" 80 1 ∷
    der_cause "DURATION" no_hour24 "1F22043159364D" 80 1 ∷
    der_cause "DURATION" no_hour24 "1F2200" 80 1 ∷
    der_cause "DURATION" both_limits "1F22043159364D" 80 1 ∷
    der_cause "DURATION" no_years "1F22043159364D" 0 1 ∷
    der_cause "Basic=Interval Interval-type=D" from2000 "0E05503159364D" 80 1 ∷
    der_cause "Basic=Interval Interval-type=D" no_hour24 "0E05503159364D" 80 1 ∷
    []

-- Each cause that octets of PER meet, and the lower number of each pair.
per_causes_checked : all_caused per_causes ≡ true
unfolding hex per_causes number_given all_caused computed
per_causes_checked = refl

-- Each cause that octets of DER meet, and the lower number of each pair.
der_causes_checked : all_caused der_causes ≡ true
unfolding hex der_causes number_given all_caused computed
der_causes_checked = refl

-- ---- writers and readers of two types

-- a writer's type, a text, a reader's type, and what the reader answers to the writer's octets: the number, and after 0 the text and its bit count
data Exchange : Type 0 where
  per_read : String → String → String → ℕ → String → ℕ → Exchange
  der_read : String → String → String → ℕ → String → ℕ → Exchange

exchanges : List Exchange
exchanges =
    -- "with row 37 as one row": in PER the name and its settings read each other's octets
    per_read "DURATION" "P1Y6M" "Basic=Interval Interval-type=D" 0 "P1Y6M" 19 ∷
    per_read "Basic=Interval Interval-type=D" "P1Y6M" "DURATION" 0 "P1Y6M" 19 ∷
    per_read "Interval-type=D Basic=Interval" "P1Y6M" "Basic=Interval Interval-type=D" 0 "P1Y6M" 19 ∷
    per_read "Basic=Interval Interval-type=D" "PT0,5S" "Interval-type=D Basic=Interval" 0 "PT0.5S" 29 ∷
    per_read "DURATION" "P0Y0M1D" "Interval-type=D Basic=Interval" 0 "P1D" 14 ∷
    per_read "Interval-type=D Basic=Interval" "P0Y0M" "DURATION" 0 "P0M" 13 ∷
    per_read "Basic=Interval Interval-type=D" "P999999999.999999999W" "DURATION" 0 "P999999999.999999999W" 107 ∷
    per_read "DURATION" "PT0.50S" "Basic=Interval Interval-type=D" 0 "PT0.50S" 29 ∷
    -- "DER tag 1F 22" and "tag 0E": in DER they do not, and 0E is that of each order of the pairs
    der_read "DURATION" "P1Y6M" "Basic=Interval Interval-type=D" 3 "" 0 ∷
    der_read "Basic=Interval Interval-type=D" "P1Y6M" "DURATION" 3 "" 0 ∷
    der_read "Interval-type=D Basic=Interval" "PT0.5S" "DURATION" 3 "" 0 ∷
    der_read "DURATION" "PT0.5S" "Interval-type=D Basic=Interval" 3 "" 0 ∷
    der_read "Interval-type=D Basic=Interval" "P0Y0M1D" "Basic=Interval Interval-type=D" 0 "P1D" 0 ∷
    der_read "Basic=Interval Interval-type=D" "PT0,5S" "Interval-type=D Basic=Interval" 0 "PT0.5S" 0 ∷
    -- octets of points under DURATION in PER: other rows, so that some are read, as what they are not
    per_read "DATE" "2006-06-13" "DURATION" 3 "" 0 ∷
    per_read "DATE" "1748-12-31" "DURATION" 3 "" 0 ∷
    per_read "DATE" "1749-01-01" "DURATION" 6 "" 0 ∷
    per_read "DATE" "2009-01-03" "DURATION" 0 "P1D" 14 ∷
    per_read "DATE" "1757-02-06" "DURATION" 0 "P1YT20S" 21 ∷
    per_read "DATE" "2086-11-30" "Basic=Interval Interval-type=D" 0 "P13M29D" 19 ∷
    per_read "Basic=Date Date=YMD Year=Basic" "2013-01-02" "DURATION" 0 "P1W" 15 ∷
    per_read "Basic=Date Date=Y Year=Basic" "2021" "DURATION" 0 "P0M" 13 ∷
    per_read "TIME-OF-DAY" "15:27:46" "DURATION" 3 "" 0 ∷
    per_read "TIME-OF-DAY" "00:16:00" "DURATION" 6 "" 0 ∷
    per_read "TIME-OF-DAY" "00:48:05" "DURATION" 0 "PT1M32S" 22 ∷
    per_read "DATE-TIME" "2006-06-13T15:27:46" "DURATION" 3 "" 0 ∷
    per_read "DATE-TIME" "2007-03-01T10:16:00" "DURATION" 0 "PT72H" 25 ∷
    -- octets of durations under points
    per_read "DURATION" "P1Y6M" "DATE" 3 "" 0 ∷
    per_read "DURATION" "P1Y6M" "TIME-OF-DAY" 4 "" 0 ∷
    per_read "DURATION" "PT0.5S" "TIME-OF-DAY" 6 "" 0 ∷
    per_read "DURATION" "P1D" "DATE" 0 "2009-01-03" 15 ∷
    per_read "DURATION" "P1YT20S" "DATE" 0 "1757-02-06" 19 ∷
    per_read "Basic=Interval Interval-type=D" "P13M29D" "DATE" 0 "2086-11-30" 19 ∷
    per_read "DURATION" "P1W" "Basic=Date Date=YMD Year=Basic" 0 "2013-01-02" 15 ∷
    per_read "DURATION" "P0M" "Basic=Date Date=Y Year=Basic" 0 "2021" 10 ∷
    per_read "DURATION" "P1Y" "Basic=Date Date=YW Year=Basic" 0 "1749-W05" 16 ∷
    per_read "DURATION" "PT1H" "Basic=Date Date=YD Year=Basic" 0 "2007-003" 15 ∷
    per_read "DURATION" "PT1M32S" "TIME-OF-DAY" 0 "00:48:05" 17 ∷
    per_read "DURATION" "PT72H" "DATE-TIME" 0 "2007-03-01T10:16:00" 32 ∷
    -- in DER a point's element is none of a duration, nor the other way
    der_read "DATE" "2006-06-13" "DURATION" 3 "" 0 ∷
    der_read "TIME-OF-DAY" "15:27:46" "DURATION" 3 "" 0 ∷
    der_read "DATE-TIME" "2006-06-13T15:27:46" "DURATION" 3 "" 0 ∷
    der_read "Basic=Date Date=Y Year=Basic" "2006" "Basic=Interval Interval-type=D" 3 "" 0 ∷
    der_read "Basic=Date Date=YMD Year=Basic" "2006-06-13" "Basic=Interval Interval-type=D" 3 "" 0 ∷
    der_read "DURATION" "P1Y6M" "DATE" 3 "" 0 ∷
    der_read "DURATION" "PT0.5S" "TIME-OF-DAY" 3 "" 0 ∷
    der_read "DURATION" "P1Y6M" "DATE-TIME" 3 "" 0 ∷
    der_read "Basic=Interval Interval-type=D" "P1Y6M" "Basic=Date Date=YMD Year=Basic" 3 "" 0 ∷
    der_read "Basic=Interval Interval-type=D" "P2006Y" "Basic=Date Date=Y Year=Basic" 3 "" 0 ∷
    []

-- Whether a writer wrote, and a reader answers so.
read_under : Entry → String → ℕ → String → ℕ → Answer → Bool
read_under read s number text count (done octets bits) = answers number (bytes text) count (computed read (bytes s) no_limits octets)
read_under read s number text count (refused why) = false

all_read : List Exchange → Bool
all_read [] = true
all_read (per_read writer text reader number given count ∷ l) =
    read_under Entry.PerDecode reader number given count (computed Entry.PerEncode (bytes writer) no_limits (bytes text)) && all_read l
all_read (der_read writer text reader number given count ∷ l) =
    read_under Entry.DerDecode reader number given count (computed Entry.DerEncode (bytes writer) no_limits (bytes text)) && all_read l

-- A duration's octets under its other type and under points, and octets of points under durations.
exchanges_checked : all_read exchanges ≡ true
unfolding exchanges answers read_under all_read computed
exchanges_checked = refl
