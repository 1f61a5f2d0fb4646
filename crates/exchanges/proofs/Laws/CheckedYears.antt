-- Years of up to nine digits and types of up to six lists (#103), through the entry points' definitions: values in PER and in DER and back; texts
-- and types that are refused; and octets that are, with each lower and higher number.
use mathlib.Core.Path.{◌≡◌, refl}
use mathlib.Core.Bool.{true}
use mathlib.Core.List.{◌∷◌, List, []}
use Rattle.answers.proofs.Laws.Quoted.{hex}
use Rattle.types.specs.Types.{no_limits}
use Rattle.type_texts.proofs.Laws.CheckedTypes.{from2000, no_hour24}
use Rattle.exchanges.proofs.Laws.CheckedTables.{Cause, Refused, Row, all_caused, all_refused, all_right, answers, both_ways, computed, der_cause, number_given}
use Rattle.exchanges.proofs.Laws.CheckedTables.{per_cause, refused_by, refuses, value}

values : List Row
values =
    -- both ends of each setting, of either sign
    value "Basic=Date Date=Y Year=L6" "+100000" "+100000" "030186A0" 32 "0E072B313030303030" ∷
    value "Basic=Date Date=Y Year=L6" "+999999" "+999999" "030F423F" 32 "0E072B393939393939" ∷
    value "Basic=Date Date=Y Year=L6" "-100000" "-100000" "03FE7960" 32 "0E072D313030303030" ∷
    value "Basic=Date Date=Y Year=L6" "-999999" "-999999" "03F0BDC1" 32 "0E072D393939393939" ∷
    value "Basic=Date Date=Y Year=L7" "+1000000" "+1000000" "030F4240" 32 "0E082B31303030303030" ∷
    value "Basic=Date Date=Y Year=L7" "+9999999" "+9999999" "040098967F" 40 "0E082B39393939393939" ∷
    value "Basic=Date Date=Y Year=L7" "-1000000" "-1000000" "03F0BDC0" 32 "0E082D31303030303030" ∷
    value "Basic=Date Date=Y Year=L7" "-9999999" "-9999999" "04FF676981" 40 "0E082D39393939393939" ∷
    value "Basic=Date Date=Y Year=L8" "+10000000" "+10000000" "0400989680" 40 "0E092B3130303030303030" ∷
    value "Basic=Date Date=Y Year=L8" "+99999999" "+99999999" "0405F5E0FF" 40 "0E092B3939393939393939" ∷
    value "Basic=Date Date=Y Year=L8" "-10000000" "-10000000" "04FF676980" 40 "0E092D3130303030303030" ∷
    value "Basic=Date Date=Y Year=L8" "-99999999" "-99999999" "04FA0A1F01" 40 "0E092D3939393939393939" ∷
    value "Basic=Date Date=Y Year=L9" "+100000000" "+100000000" "0405F5E100" 40 "0E0A2B313030303030303030" ∷
    value "Basic=Date Date=Y Year=L9" "+999999999" "+999999999" "043B9AC9FF" 40 "0E0A2B393939393939393939" ∷
    value "Basic=Date Date=Y Year=L9" "-100000000" "-100000000" "04FA0A1F00" 40 "0E0A2D313030303030303030" ∷
    value "Basic=Date Date=Y Year=L9" "-999999999" "-999999999" "04C4653601" 40 "0E0A2D393939393939393939" ∷
    -- "Free integers still need at most four octets": both ends of three of them
    value "Basic=Date Date=Y Year=L7" "+8388607" "+8388607" "037FFFFF" 32 "0E082B38333838363037" ∷
    value "Basic=Date Date=Y Year=L7" "+8388608" "+8388608" "0400800000" 40 "0E082B38333838363038" ∷
    value "Basic=Date Date=Y Year=L7" "-8388608" "-8388608" "03800000" 32 "0E082D38333838363038" ∷
    value "Basic=Date Date=Y Year=L7" "-8388609" "-8388609" "04FF7FFFFF" 40 "0E082D38333838363039" ∷
    -- each Date setting, and "leap and week rules hold over the whole range"
    value "Basic=Date Date=YM Year=L9" "+999999999-12" "+999999999-12" "043B9AC9FFB0" 44 "0E0D2B3939393939393939392D3132" ∷
    value "Basic=Date Date=YMD Year=L9" "+999999996-02-29" "+999999996-02-29" "043B9AC9FC1E00" 49 "0E102B3939393939393939362D30322D3239" ∷
    value "Basic=Date Date=YMD Year=L9" "-999999996-02-29" "-999999996-02-29" "04C46536041E00" 49 "0E102D3939393939393939362D30322D3239" ∷
    value "Basic=Date Date=YMD Year=L9" "+999999600-02-29" "+999999600-02-29" "043B9AC8701E00" 49 "0E102B3939393939393630302D30322D3239" ∷
    value "Basic=Date Date=YMD Year=L6" "+123456-04-12" "+123456-04-12" "0301E2403580" 41 "0E0D2B3132333435362D30342D3132" ∷
    value "Basic=Date Date=YD Year=L8" "-99999996-366" "-99999996-366" "04FA0A1F04B680" 49 "0E0D2D39393939393939362D333636" ∷
    value "Basic=Date Date=YW Year=L9" "+999999620-W53" "+999999620-W53" "043B9AC884D0" 46 "0E0E2B3939393939393632302D573533" ∷
    value "Basic=Date Date=YWD Year=L9" "-999999580-W53-7" "-999999580-W53-7" "04C46537A4D300" 49 "0E102D3939393939393538302D5735332D37" ∷
    -- "up to six lists that differ only in Year", in some order: each of their years
    value "Basic=Date Date=Y Year=L7|Basic=Date Date=Y Year=Negative|Basic=Date Date=Y Year=L9|Basic=Date Date=Y Year=L5|Basic=Date Date=Y Year=L8|Basic=Date Date=Y Year=L6"
    "-1234567" "-1234567"
    "03ED2979" 32 "0E082D31323334353637" ∷
    value "Basic=Date Date=Y Year=L7|Basic=Date Date=Y Year=Negative|Basic=Date Date=Y Year=L9|Basic=Date Date=Y Year=L5|Basic=Date Date=Y Year=L8|Basic=Date Date=Y Year=L6"
    "+10000" "+10000"
    "022710" 24 "0E062B3130303030" ∷
    value "Basic=Date Date=Y Year=L9|Basic=Date Date=Y Year=Negative|Basic=Date Date=Y Year=L6" "-0001" "-0001" "01FF" 16 "0E052D30303031" ∷
    value "Basic=Date Date=Y Year=L9|Basic=Date Date=Y Year=Negative|Basic=Date Date=Y Year=L6" "-9999" "-9999" "02D8F1" 24 "0E052D39393939" ∷
    value "Basic=Date Date=Y Year=L9|Basic=Date Date=Y Year=Negative|Basic=Date Date=Y Year=L6" "+123456" "+123456" "0301E240" 32 "0E072B313233343536" ∷
    value "Basic=Date Date=Y Year=L9|Basic=Date Date=Y Year=Negative|Basic=Date Date=Y Year=L6" "-100000" "-100000" "03FE7960" 32 "0E072D313030303030" ∷
    value "Basic=Date Date=Y Year=L9|Basic=Date Date=Y Year=Negative|Basic=Date Date=Y Year=L6"
    "+123456789" "+123456789"
    "04075BCD15" 40 "0E0A2B313233343536373839" ∷
    value "Basic=Date Date=Y Year=L9|Basic=Date Date=Y Year=Negative|Basic=Date Date=Y Year=L6"
    "-999999999" "-999999999"
    "04C4653601" 40 "0E0A2D393939393939393939" ∷
    value "Basic=Date Date=Y Year=L9|Basic=Date Date=Y Year=L6" "+100000" "+100000" "030186A0" 32 "0E072B313030303030" ∷
    value "Basic=Date-Time Date=YMD Year=L9 Time=HMSF1 Local-or-UTC=LD|Basic=Date-Time Date=YMD Year=L5 Time=HMSF1 Local-or-UTC=LD|Basic=Date-Time Date=YMD Year=Negative Time=HMSF1 Local-or-UTC=LD"
    "-123456789-12-31T15:27:46,5+01:00" "-123456789-12-31T15:27:46.5+01"
    "04F8A432EBBF3DBB802A00" 83 "0E1E2D3132333435363738392D31322D33315431353A32373A34362E352B3031" ∷
    []

years_checked : all_right values ≡ true
unfolding hex values answers both_ways all_right computed
years_checked = refl

refusals : List Refused
refusals =
    -- "a sign with six to nine digits, the first not 0, is from now on of the form, so it meets 5 and no longer 3 in a type without that length"
    refuses "Basic=Date Date=Y Year=Basic" no_limits "+100000" 5 ∷
    refuses "Basic=Date Date=Y Year=Negative" no_limits "+100000" 5 ∷
    refuses "Basic=Date Date=Y Year=L5" no_limits "+100000" 5 ∷
    refuses "Basic=Date Date=Y Year=L9" no_limits "+100000" 5 ∷
    refuses "Basic=Date Date=Y Year=L5" no_limits "-999999999" 5 ∷
    refuses "Basic=Date Date=Y Year=L6" no_limits "-999999999" 5 ∷
    refuses "Basic=Date Date=Y Year=L7" no_limits "-999999999" 5 ∷
    refuses "Basic=Date Date=Y Year=L8" no_limits "-999999999" 5 ∷
    refuses "Basic=Date Date=Y Year=L6" no_limits "+99999" 5 ∷
    refuses "Basic=Date Date=Y Year=L6" no_limits "+1000000" 5 ∷
    refuses "Basic=Date Date=Y Year=L6" no_limits "-99999" 5 ∷
    refuses "Basic=Date Date=Y Year=L6" no_limits "-1000000" 5 ∷
    refuses "Basic=Date Date=Y Year=L9" no_limits "+99999999" 5 ∷
    refuses "Basic=Date Date=Y Year=L9" no_limits "-99999999" 5 ∷
    refuses "Basic=Date Date=Y Year=L6" no_limits "2006" 5 ∷
    refuses "Basic=Date Date=Y Year=L6" no_limits "0000" 5 ∷
    refuses "Basic=Date Date=Y Year=L6" no_limits "-0001" 5 ∷
    refuses "DATE" no_limits "+123456-02-28" 5 ∷
    refuses "Basic=Date Date=Y Year=L9|Basic=Date Date=Y Year=Negative|Basic=Date Date=Y Year=L6" no_limits "2006" 5 ∷
    refuses "Basic=Date Date=Y Year=L9|Basic=Date Date=Y Year=Negative|Basic=Date Date=Y Year=L6" no_limits "0000" 5 ∷
    refuses "Basic=Date Date=Y Year=L9|Basic=Date Date=Y Year=Negative|Basic=Date Date=Y Year=L6" from2000 "+123456" 5 ∷
    -- other digits are not of the form: a first 0, ten or more, four after +, no sign
    refuses "Basic=Date Date=Y Year=L9|Basic=Date Date=Y Year=Negative|Basic=Date Date=Y Year=L6" no_limits "+011985" 3 ∷
    refuses "Basic=Date Date=Y Year=L9|Basic=Date Date=Y Year=Negative|Basic=Date Date=Y Year=L6" no_limits "-011985" 3 ∷
    refuses "Basic=Date Date=Y Year=L9|Basic=Date Date=Y Year=Negative|Basic=Date Date=Y Year=L6" no_limits "+0119850" 3 ∷
    refuses "Basic=Date Date=Y Year=L9|Basic=Date Date=Y Year=Negative|Basic=Date Date=Y Year=L6" no_limits "+01198500" 3 ∷
    refuses "Basic=Date Date=Y Year=L9|Basic=Date Date=Y Year=Negative|Basic=Date Date=Y Year=L6" no_limits "+011985000" 3 ∷
    refuses "Basic=Date Date=Y Year=L9|Basic=Date Date=Y Year=Negative|Basic=Date Date=Y Year=L6" no_limits "+1000000000" 3 ∷
    refuses "Basic=Date Date=Y Year=L9|Basic=Date Date=Y Year=Negative|Basic=Date Date=Y Year=L6" no_limits "-1000000000" 3 ∷
    refuses "Basic=Date Date=Y Year=L9|Basic=Date Date=Y Year=Negative|Basic=Date Date=Y Year=L6" no_limits "+4294967296" 3 ∷
    refuses "Basic=Date Date=Y Year=L9|Basic=Date Date=Y Year=Negative|Basic=Date Date=Y Year=L6" no_limits "+12345678901234567890" 3 ∷
    refuses "Basic=Date Date=Y Year=L9|Basic=Date Date=Y Year=Negative|Basic=Date Date=Y Year=L6" no_limits "+2006" 3 ∷
    refuses "Basic=Date Date=Y Year=L9|Basic=Date Date=Y Year=Negative|Basic=Date Date=Y Year=L6" no_limits "-0000" 3 ∷
    refuses "Basic=Date Date=Y Year=L9|Basic=Date Date=Y Year=Negative|Basic=Date Date=Y Year=L6" no_limits "123456" 3 ∷
    refuses "Basic=Date Date=Y Year=L9|Basic=Date Date=Y Year=Negative|Basic=Date Date=Y Year=L6" no_limits "123456789" 3 ∷
    refuses "Basic=Date Date=Y Year=L9|Basic=Date Date=Y Year=Negative|Basic=Date Date=Y Year=L6" no_limits "+-123456" 3 ∷
    refuses "Basic=Date Date=Y Year=L9|Basic=Date Date=Y Year=Negative|Basic=Date Date=Y Year=L6" no_limits "+12345 " 3 ∷
    refuses "Basic=Date Date=YMD Year=L6" no_limits "+011985-04-12" 3 ∷
    refuses "Basic=Date Date=YMD Year=Basic" no_limits "+011985-04-12" 3 ∷
    -- 4 before 5
    refuses "DATE" no_limits "+123456-02-30" 4 ∷
    refuses "Basic=Date Date=YMD Year=L5" no_limits "+123456-02-30" 4 ∷
    refuses "Basic=Date Date=YMD Year=L9" no_limits "+999999900-02-29" 4 ∷
    refuses "Basic=Date Date=YMD Year=L9" no_limits "+999999999-02-29" 4 ∷
    refuses "Basic=Date Date=YD Year=L9" no_limits "-999999999-366" 4 ∷
    refuses "Basic=Date Date=YW Year=L9" no_limits "+999999621-W53" 4 ∷
    refuses "Basic=Date Date=YWD Year=L9" no_limits "+999999620-W54-1" 4 ∷
    -- "1 for more than six lists or a Year twice in otherwise equal lists, 2 for any other difference"
    refuses "Basic=Date Date=Y Year=Negative|Basic=Date Date=Y Year=L5|Basic=Date Date=Y Year=L6|Basic=Date Date=Y Year=L7|Basic=Date Date=Y Year=L8|Basic=Date Date=Y Year=L9|Basic=Date Date=Y Year=Basic"
    no_limits "+123456" 1 ∷
    refuses "Basic=Date Date=Y Year=Negative|Basic=Date Date=Y Year=L5|Basic=Date Date=Y Year=L6|Basic=Date Date=Y Year=L7|Basic=Date Date=Y Year=L8|Basic=Date Date=Y Year=L9|Basic=Date Date=Y Year=L6"
    no_limits "+123456" 1 ∷
    refuses "Basic=Date Date=Y Year=L6|Basic=Date Date=Y Year=L7|Basic=Date Date=Y Year=L7" no_limits "+123456" 1 ∷
    refuses "Basic=Date Date=Y Year=L6|Basic=Date Date=Y Year=L7|Basic=Date Date=Y Year=L6" no_limits "+123456" 1 ∷
    refuses "Basic=Date Date=Y Year=Basic|Basic=Date Date=YM Year=L9|Basic=Date Date=YM Year=L9" no_limits "+123456" 1 ∷
    refuses "Basic=Date Date=Y Year=L6|Basic=Date Date=Y Year=L10" no_limits "+123456" 1 ∷
    refuses "Basic=Date Date=Y Year=Negative|Basic=Date Date=Y Year=L5|Basic=Date Date=Y Year=L6|Basic=Date Date=Y Year=L7|Basic=Date Date=Y Year=L8|Basic=Date Date=Y Year=L9"
    no_hour24 "+123456" 1 ∷
    refuses "Basic=Date Date=Y Year=L6|Basic=Date Date=Y Year=Basic|Basic=Time Time=H Local-or-UTC=L" from2000 "+123456" 1 ∷
    refuses "Basic=Date Date=Y Year=L6|Basic=Date Date=Y Year=L7|Basic=Date Date=Y Year=Basic" no_limits "+123456" 2 ∷
    refuses "Basic=Date Date=Y Year=L6|Basic=Date Date=YM Year=L7" no_limits "+123456" 2 ∷
    refuses "Basic=Date Date=Y Year=Basic|Basic=Date Date=Y Year=Proleptic|Basic=Date Date=Y Year=L9" no_limits "2006" 2 ∷
    []

year_refusals_checked : all_refused refusals ≡ true
unfolding hex refusals refused_by all_refused computed
year_refusals_checked = refl

causes : List Cause
causes =
    -- PER: years of every size for readers of other Years, 5
    per_cause "Basic=Date Date=Y Year=Negative" no_limits "0101" 64 5 ∷
    per_cause "Basic=Date Date=Y Year=L5" no_limits "0101" 64 5 ∷
    per_cause "Basic=Date Date=Y Year=Negative" no_limits "01FF" 64 0 ∷
    per_cause "Basic=Date Date=Y Year=L5" no_limits "01FF" 64 5 ∷
    per_cause "Basic=Date Date=Y Year=Negative" no_limits "02D8F0" 64 5 ∷
    per_cause "Basic=Date Date=Y Year=L5" no_limits "02D8F0" 64 0 ∷
    per_cause "Basic=Date Date=Y Year=L6" no_limits "02D8F0" 64 5 ∷
    per_cause "Basic=Date Date=Y Year=Negative" no_limits "022710" 64 5 ∷
    per_cause "Basic=Date Date=Y Year=L5" no_limits "022710" 64 0 ∷
    per_cause "Basic=Date Date=Y Year=L6" no_limits "022710" 64 5 ∷
    per_cause "Basic=Date Date=Y Year=Negative" no_limits "03FE7961" 64 5 ∷
    per_cause "Basic=Date Date=Y Year=L5" no_limits "03FE7961" 64 0 ∷
    per_cause "Basic=Date Date=Y Year=L6" no_limits "03FE7961" 64 5 ∷
    per_cause "Basic=Date Date=Y Year=Negative" no_limits "0301869F" 64 5 ∷
    per_cause "Basic=Date Date=Y Year=L5" no_limits "0301869F" 64 0 ∷
    per_cause "Basic=Date Date=Y Year=L6" no_limits "0301869F" 64 5 ∷
    per_cause "Basic=Date Date=Y Year=L5" no_limits "03FE7960" 64 5 ∷
    per_cause "Basic=Date Date=Y Year=L6" no_limits "03FE7960" 64 0 ∷
    per_cause "Basic=Date Date=Y Year=L7" no_limits "03FE7960" 64 5 ∷
    per_cause "Basic=Date Date=Y Year=L5" no_limits "030186A0" 64 5 ∷
    per_cause "Basic=Date Date=Y Year=L6" no_limits "030186A0" 64 0 ∷
    per_cause "Basic=Date Date=Y Year=L7" no_limits "030186A0" 64 5 ∷
    per_cause "Basic=Date Date=Y Year=L5" no_limits "030F423F" 64 5 ∷
    per_cause "Basic=Date Date=Y Year=L6" no_limits "030F423F" 64 0 ∷
    per_cause "Basic=Date Date=Y Year=L7" no_limits "030F423F" 64 5 ∷
    per_cause "Basic=Date Date=Y Year=L5" no_limits "03F0BDC1" 64 5 ∷
    per_cause "Basic=Date Date=Y Year=L6" no_limits "03F0BDC1" 64 0 ∷
    per_cause "Basic=Date Date=Y Year=L7" no_limits "03F0BDC1" 64 5 ∷
    per_cause "Basic=Date Date=Y Year=L6" no_limits "030F4240" 64 5 ∷
    per_cause "Basic=Date Date=Y Year=L7" no_limits "030F4240" 64 0 ∷
    per_cause "Basic=Date Date=Y Year=L8" no_limits "030F4240" 64 5 ∷
    per_cause "Basic=Date Date=Y Year=L6" no_limits "04FF676981" 64 5 ∷
    per_cause "Basic=Date Date=Y Year=L7" no_limits "04FF676981" 64 0 ∷
    per_cause "Basic=Date Date=Y Year=L8" no_limits "04FF676981" 64 5 ∷
    per_cause "Basic=Date Date=Y Year=L7" no_limits "0400989680" 64 5 ∷
    per_cause "Basic=Date Date=Y Year=L8" no_limits "0400989680" 64 0 ∷
    per_cause "Basic=Date Date=Y Year=L9" no_limits "0400989680" 64 5 ∷
    per_cause "Basic=Date Date=Y Year=L7" no_limits "0405F5E0FF" 64 5 ∷
    per_cause "Basic=Date Date=Y Year=L8" no_limits "0405F5E0FF" 64 0 ∷
    per_cause "Basic=Date Date=Y Year=L9" no_limits "0405F5E0FF" 64 5 ∷
    per_cause "Basic=Date Date=Y Year=L7" no_limits "04FA0A1F01" 64 5 ∷
    per_cause "Basic=Date Date=Y Year=L8" no_limits "04FA0A1F01" 64 0 ∷
    per_cause "Basic=Date Date=Y Year=L9" no_limits "04FA0A1F01" 64 5 ∷
    per_cause "Basic=Date Date=Y Year=L8" no_limits "0405F5E100" 64 5 ∷
    per_cause "Basic=Date Date=Y Year=L9" no_limits "0405F5E100" 64 0 ∷
    per_cause "Basic=Date Date=Y Year=L8" no_limits "043B9AC9FF" 64 5 ∷
    per_cause "Basic=Date Date=Y Year=L9" no_limits "043B9AC9FF" 64 0 ∷
    per_cause "Basic=Date Date=Y Year=L8" no_limits "04C4653601" 64 5 ∷
    per_cause "Basic=Date Date=Y Year=L9" no_limits "04C4653601" 64 0 ∷
    -- no year of ten digits is of any setting, whatever four octets hold
    per_cause "Basic=Date Date=Y Year=L9" no_limits "043B9ACA00" 64 5 ∷
    per_cause "Basic=Date Date=Y Year=L9|Basic=Date Date=Y Year=Negative|Basic=Date Date=Y Year=L6" no_limits "043B9ACA00" 64 5 ∷
    per_cause "Basic=Date Date=Y Year=L9" no_limits "04C4653600" 64 5 ∷
    per_cause "Basic=Date Date=Y Year=L9|Basic=Date Date=Y Year=Negative|Basic=Date Date=Y Year=L6" no_limits "04C4653600" 64 5 ∷
    per_cause "Basic=Date Date=Y Year=L9" no_limits "047FFFFFFF" 64 5 ∷
    per_cause "Basic=Date Date=Y Year=L9|Basic=Date Date=Y Year=Negative|Basic=Date Date=Y Year=L6" no_limits "047FFFFFFF" 64 5 ∷
    per_cause "Basic=Date Date=Y Year=L9" no_limits "0480000000" 64 5 ∷
    per_cause "Basic=Date Date=Y Year=L9|Basic=Date Date=Y Year=Negative|Basic=Date Date=Y Year=L6" no_limits "0480000000" 64 5 ∷
    per_cause "Basic=Date Date=Y Year=L9|Basic=Date Date=Y Year=Negative|Basic=Date Date=Y Year=L6" no_limits "0100" 64 5 ∷
    per_cause "Basic=Date Date=Y Year=L9|Basic=Date Date=Y Year=Negative|Basic=Date Date=Y Year=L6" no_limits "0207D6" 64 5 ∷
    -- 4 before 5 before 6 before 7
    per_cause "Basic=Date Date=YMD Year=L5" no_limits "0301E2401E80" 64 4 ∷
    per_cause "Basic=Date Date=Y Year=L5" no_limits "04000186A0" 64 5 ∷
    per_cause "Basic=Date Date=Y Year=L6" no_limits "04000186A0" 64 6 ∷
    per_cause "Basic=Date Date=Y Year=L9" no_limits "043B9AC9FF" 9 7 ∷
    per_cause "Basic=Date Date=Y Year=L9" no_limits "043B9AC9FF" 10 0 ∷
    per_cause "Basic=Date Date=Y Year=L9" no_limits "043B9AC9" 64 3 ∷
    per_cause "Basic=Date Date=Y Year=Negative|Basic=Date Date=Y Year=L5|Basic=Date Date=Y Year=L6|Basic=Date Date=Y Year=L7|Basic=Date Date=Y Year=L8|Basic=Date Date=Y Year=L9|Basic=Date Date=Y Year=Basic"
    no_limits "0301E240" 64 1 ∷
    per_cause "Basic=Date Date=Y Year=L6|Basic=Date Date=Y Year=L7|Basic=Date Date=Y Year=Basic" no_limits "0301E240" 64 2 ∷
    -- DER, in the same order
    der_cause "Basic=Date Date=Y Year=Basic" no_limits "0E0A2B393939393939393939" 64 5 ∷
    der_cause "Basic=Date Date=Y Year=Negative" no_limits "0E0A2B393939393939393939" 64 5 ∷
    der_cause "Basic=Date Date=Y Year=L5" no_limits "0E0A2B393939393939393939" 64 5 ∷
    der_cause "Basic=Date Date=Y Year=L6" no_limits "0E0A2B393939393939393939" 64 5 ∷
    der_cause "Basic=Date Date=Y Year=L7" no_limits "0E0A2B393939393939393939" 64 5 ∷
    der_cause "Basic=Date Date=Y Year=L8" no_limits "0E0A2B393939393939393939" 64 5 ∷
    der_cause "Basic=Date Date=Y Year=L9" no_limits "0E0A2B393939393939393939" 64 0 ∷
    der_cause "Basic=Date Date=Y Year=L9|Basic=Date Date=Y Year=Negative|Basic=Date Date=Y Year=L6" no_limits "0E072D313233343536" 64 0 ∷
    der_cause "Basic=Date Date=Y Year=L9|Basic=Date Date=Y Year=Negative|Basic=Date Date=Y Year=L6" no_limits "0E0B2B31303030303030303030" 64 3 ∷
    der_cause "Basic=Date Date=Y Year=L9|Basic=Date Date=Y Year=Negative|Basic=Date Date=Y Year=L6" no_limits "0E072D303131393835" 64 3 ∷
    der_cause "Basic=Date Date=Y Year=L9|Basic=Date Date=Y Year=Negative|Basic=Date Date=Y Year=L6" no_limits "0E072B303131393835" 64 3 ∷
    der_cause "Basic=Date Date=Y Year=L9|Basic=Date Date=Y Year=Negative|Basic=Date Date=Y Year=L6" no_limits "0E06313233343536" 64 3 ∷
    der_cause "Basic=Date Date=Y Year=L9|Basic=Date Date=Y Year=Negative|Basic=Date Date=Y Year=L6" no_limits "0E0B2B30393939393939393939" 64 3 ∷
    der_cause "Basic=Date Date=YMD Year=L5" no_limits "0E0D2B3132333435362D30322D3330" 64 4 ∷
    der_cause "Basic=Date Date=YMD Year=L5" no_limits "0E0D2B3132333435362D30322D3238" 64 5 ∷
    der_cause "Basic=Date Date=Y Year=L6" no_limits "0E072B31323334353600" 64 6 ∷
    der_cause "Basic=Date Date=Y Year=L6" no_limits "0E072B313233343536" 6 7 ∷
    der_cause "Basic=Date Date=Y Year=L6" no_limits "0E072B313233343536" 7 0 ∷
    der_cause "Basic=Date Date=Y Year=L6|Basic=Date Date=Y Year=L7|Basic=Date Date=Y Year=L6" no_limits "0E072B313233343536" 64 1 ∷
    der_cause "Basic=Date Date=Y Year=L6|Basic=Date Date=Y Year=L7|Basic=Date Date=Y Year=Basic" no_limits "0E072B313233343536" 64 2 ∷
    []

-- The same in octets: 5 after 3 and 4, and before 6 and 7.
year_causes_checked : all_caused causes ≡ true
unfolding hex causes number_given all_caused computed
year_causes_checked = refl
