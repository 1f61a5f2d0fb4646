-- Second 60 where it can be, and where it cannot (#102), through the entry points' definitions: values in PER and in DER and back; texts that are
-- refused; and octets that are, with each lower and higher number.
use mathlib.Core.Path.{◌≡◌, refl}
use mathlib.Core.Bool.{true}
use mathlib.Core.List.{◌∷◌, List, []}
use Rattle.answers.proofs.Laws.Quoted.{hex}
use Rattle.types.specs.Types.{no_limits}
use Rattle.type_texts.proofs.Laws.CheckedTypes.{from2000, no_hour24}
use Rattle.exchanges.proofs.Laws.CheckedTables.{Cause, Refused, Row, all_caused, all_refused, all_right, answers, both_ways, computed, der_cause, number_given}
use Rattle.exchanges.proofs.Laws.CheckedTables.{per_cause, refused_by, refuses, value}

values : List Row
values =
    -- "with Z, second 60 is accepted only at 23:59"; a fraction may follow
    value "Basic=Time Time=HMS Local-or-UTC=Z" "23:59:60Z" "23:59:60Z" "BF7E00" 17 "0E0932333A35393A36305A" ∷
    value "Basic=Time Time=HMSF3 Local-or-UTC=Z" "23:59:60.999Z" "23:59:60.999Z" "BF7E3E70" 28 "0E0D32333A35393A36302E3939395A" ∷
    value "Basic=Time Time=HMSF9 Local-or-UTC=Z" "23:59:60,000000000Z" "23:59:60.000000000Z" "BF7E0000" 28 "0E1332333A35393A36302E3030303030303030305A" ∷
    -- "with a difference, only where local time less the difference, around the day, is 23:59, as in `05:29:60+05:30`"
    value "Basic=Time Time=HMS Local-or-UTC=LD" "05:29:60+05:30" "05:29:60+05:30" "2BBE68E8" 29 "0E0E30353A32393A36302B30353A3330" ∷
    value "Basic=Time Time=HMS Local-or-UTC=LD" "23:59:60+00" "23:59:60+00" "BF7E1E" 23 "0E0B32333A35393A36302B3030" ∷
    value "Basic=Time Time=HMS Local-or-UTC=LD" "00:00:60+00:01" "00:00:60+00:01" "001E5E00" 29 "0E0E30303A30303A36302B30303A3031" ∷
    value "Basic=Time Time=HMS Local-or-UTC=LD" "00:58:60+00:59" "00:58:60+00:59" "075E5FD0" 29 "0E0E30303A35383A36302B30303A3539" ∷
    value "Basic=Time Time=HMS Local-or-UTC=LD" "00:59:60+01" "00:59:60+01" "077E20" 23 "0E0B30303A35393A36302B3031" ∷
    value "Basic=Time Time=HMS Local-or-UTC=LD" "01:00:60+01:01" "01:00:60+01:01" "081E6000" 29 "0E0E30313A30303A36302B30313A3031" ∷
    value "Basic=Time Time=HMS Local-or-UTC=LD" "14:58:60+14:59" "14:58:60+14:59" "775E7BD0" 29 "0E0E31343A35383A36302B31343A3539" ∷
    value "Basic=Time Time=HMS Local-or-UTC=LD" "15:58:60+15:59" "15:58:60+15:59" "7F5E7DD0" 29 "0E0E31353A35383A36302B31353A3539" ∷
    value "Basic=Time Time=HMS Local-or-UTC=LD" "23:59:60+00:00" "23:59:60+00" "BF7E1E" 23 "0E0B32333A35393A36302B3030" ∷
    value "Basic=Time Time=HMS Local-or-UTC=LD" "00:59:60+01:00" "00:59:60+01" "077E20" 23 "0E0B30303A35393A36302B3031" ∷
    -- behind UTC
    value "Basic=Time Time=HMS Local-or-UTC=LD" "22:59:60-01" "22:59:60-01" "B77E1C" 23 "0E0B32323A35393A36302D3031" ∷
    value "Basic=Time Time=HMS Local-or-UTC=LD" "22:58:60-01:01" "22:58:60-01:01" "B75E5C00" 29 "0E0E32323A35383A36302D30313A3031" ∷
    value "Basic=Time Time=HMS Local-or-UTC=LD" "18:59:60-05" "18:59:60-05" "977E14" 23 "0E0B31383A35393A36302D3035" ∷
    value "Basic=Time Time=HMS Local-or-UTC=LD" "18:29:60-05:30" "18:29:60-05:30" "93BE54E8" 29 "0E0E31383A32393A36302D30353A3330" ∷
    value "Basic=Time Time=HMS Local-or-UTC=LD" "14:29:60-09:30" "14:29:60-09:30" "73BE4CE8" 29 "0E0E31343A32393A36302D30393A3330" ∷
    value "Basic=Time Time=HMS Local-or-UTC=LD" "08:00:60-15:59" "08:00:60-15:59" "401E41D0" 29 "0E0E30383A30303A36302D31353A3539" ∷
    value "Basic=Time Time=HMS Local-or-UTC=LD" "18:59:60-05:00" "18:59:60-05" "977E14" 23 "0E0B31383A35393A36302D3035" ∷
    value "Basic=Time Time=HMSF1 Local-or-UTC=LD" "05:29:60,5+05:30" "05:29:60.5+05:30" "2BBE005D1D" 40 "0E1030353A32393A36302E352B30353A3330" ∷
    value "Basic=Time Time=HMSF4 Local-or-UTC=LD" "18:59:60.1000-05" "18:59:60.1000-05" "977E4080FA0A" 48 "0E1031383A35393A36302E313030302D3035" ∷
    -- "for a local time without one we can't know and keep accepting it"
    value "TIME-OF-DAY" "12:34:60" "12:34:60" "645E00" 17 "1F2006313233343630" ∷
    value "TIME-OF-DAY" "00:00:60" "00:00:60" "001E00" 17 "1F2006303030303630" ∷
    value "TIME-OF-DAY" "23:59:60" "23:59:60" "BF7E00" 17 "1F2006323335393630" ∷
    value "Basic=Time Time=HMS Local-or-UTC=L" "12:34:60" "12:34:60" "645E00" 17 "0E0831323A33343A3630" ∷
    value "Basic=Time Time=HMSF2 Local-or-UTC=L" "12:34:60.99" "12:34:60.99" "645E0630" 28 "0E0B31323A33343A36302E3939" ∷
    value "DATE-TIME" "2006-06-13T12:34:60" "2006-06-13T12:34:60" "0558C8BC" 32 "1F210E3230303630363133313233343630" ∷
    -- dates with times, whatever the date
    value "Basic=Date-Time Date=YMD Year=Basic Time=HMS Local-or-UTC=Z" "2016-12-31T23:59:60Z" "2016-12-31T23:59:60Z"
    "2EFD7EFC" 32 "0E14323031362D31322D33315432333A35393A36305A" ∷
    value "Basic=Date-Time Date=YMD Year=Basic Time=HMS Local-or-UTC=Z" "2006-06-13T23:59:60Z" "2006-06-13T23:59:60Z"
    "05597EFC" 32 "0E14323030362D30362D31335432333A35393A36305A" ∷
    value "Basic=Date-Time Date=YMD Year=Basic Time=HMS Local-or-UTC=LD" "2017-01-01T05:29:60+05:30" "2017-01-01T05:29:60+05:30"
    "3000577CD1D0" 44 "0E19323031372D30312D30315430353A32393A36302B30353A3330" ∷
    value "Basic=Date-Time Date=YMD Year=Basic Time=HMS Local-or-UTC=LD" "2016-12-31T18:59:60-05" "2016-12-31T18:59:60-05"
    "2EFD2EFC28" 38 "0E16323031362D31322D33315431383A35393A36302D3035" ∷
    value "Basic=Date-Time Date=YD Year=Proleptic Time=HMSF3 Local-or-UTC=Z" "0000-366T23:59:60.500Z" "0000-366T23:59:60.500Z"
    "C0402DB7EFC3E8" 55 "0E16303030302D3336365432333A35393A36302E3530305A" ∷
    value "Basic=Date-Time Date=YWD Year=L5 Time=HMS Local-or-UTC=LD" "+12006-W24-2T00:59:60+01" "+12006-W24-2T00:59:60+01"
    "022EE65C83BF10" 56 "0E182B31323030362D5732342D325430303A35393A36302B3031" ∷
    value "Basic=Date-Time Date=YW Year=Negative Time=HMS Local-or-UTC=L" "-0001-W24T12:34:60" "-0001-W24T12:34:60"
    "01FF5D9178" 39 "0E122D303030312D5732345431323A33343A3630" ∷
    -- other seconds are in any minute
    value "Basic=Time Time=HMS Local-or-UTC=Z" "12:34:59Z" "12:34:59Z" "645D80" 17 "0E0931323A33343A35395A" ∷
    value "Basic=Time Time=HMS Local-or-UTC=LD" "05:30:59+05:30" "05:30:59+05:30" "2BDDE8E8" 29 "0E0E30353A33303A35392B30353A3330" ∷
    value "Basic=Time Time=HMS Local-or-UTC=LD" "23:59:59-05" "23:59:59-05" "BF7D94" 23 "0E0B32333A35393A35392D3035" ∷
    value "Basic=Time Time=HMS Local-or-UTC=Z" "24:00:00Z" "24:00:00Z" "C00000" 17 "0E0932343A30303A30305A" ∷
    []

-- "This holds for text, PER and DER."
leaps_checked : all_right values ≡ true
unfolding hex values answers both_ways all_right computed
leaps_checked = refl

texts : List Refused
texts =
    -- "Refusals: 4 for the others", the request's own first; minutes before and after, and the same minute of another hour
    refuses "Basic=Time Time=HMS Local-or-UTC=Z" no_limits "12:34:60Z" 4 ∷
    refuses "Basic=Time Time=HMS Local-or-UTC=Z" no_limits "23:58:60Z" 4 ∷
    refuses "Basic=Time Time=HMS Local-or-UTC=Z" no_limits "00:00:60Z" 4 ∷
    refuses "Basic=Time Time=HMS Local-or-UTC=Z" no_limits "22:59:60Z" 4 ∷
    refuses "Basic=Time Time=HMS Local-or-UTC=Z" no_limits "00:59:60Z" 4 ∷
    -- a minute beside it; without the difference's minutes; the difference added; without the difference; the other sign
    refuses "Basic=Time Time=HMS Local-or-UTC=LD" no_limits "05:30:60+05:30" 4 ∷
    refuses "Basic=Time Time=HMS Local-or-UTC=LD" no_limits "05:28:60+05:30" 4 ∷
    refuses "Basic=Time Time=HMS Local-or-UTC=LD" no_limits "04:59:60+05:30" 4 ∷
    refuses "Basic=Time Time=HMS Local-or-UTC=LD" no_limits "18:29:60+05:30" 4 ∷
    refuses "Basic=Time Time=HMS Local-or-UTC=LD" no_limits "23:59:60+05:30" 4 ∷
    refuses "Basic=Time Time=HMS Local-or-UTC=LD" no_limits "05:29:60-05:30" 4 ∷
    -- the last minute of the local day, the other side of midnight, and the minutes beside the right one at the widest differences
    refuses "Basic=Time Time=HMS Local-or-UTC=LD" no_limits "23:59:60+01" 4 ∷
    refuses "Basic=Time Time=HMS Local-or-UTC=LD" no_limits "22:59:60+01" 4 ∷
    refuses "Basic=Time Time=HMS Local-or-UTC=LD" no_limits "00:59:60-01" 4 ∷
    refuses "Basic=Time Time=HMS Local-or-UTC=LD" no_limits "23:59:60-05" 4 ∷
    refuses "Basic=Time Time=HMS Local-or-UTC=LD" no_limits "04:59:60-05" 4 ∷
    refuses "Basic=Time Time=HMS Local-or-UTC=LD" no_limits "15:59:60+15:59" 4 ∷
    refuses "Basic=Time Time=HMS Local-or-UTC=LD" no_limits "08:01:60-15:59" 4 ∷
    refuses "Basic=Time Time=HMS Local-or-UTC=LD" no_limits "00:00:60+00" 4 ∷
    -- no such difference, wherever the second is
    refuses "Basic=Time Time=HMS Local-or-UTC=LD" no_limits "23:59:60-00" 4 ∷
    refuses "Basic=Time Time=HMS Local-or-UTC=LD" no_limits "23:59:60-00:00" 4 ∷
    refuses "Basic=Time Time=HMS Local-or-UTC=LD" no_limits "23:29:60-00:30" 4 ∷
    refuses "Basic=Time Time=HMS Local-or-UTC=LD" no_limits "15:59:60+16" 4 ∷
    refuses "Basic=Time Time=HMS Local-or-UTC=LD" no_limits "07:59:60-16" 4 ∷
    refuses "Basic=Time Time=HMS Local-or-UTC=LD" no_limits "00:59:60+00:60" 4 ∷
    -- no such second, minute or hour
    refuses "Basic=Time Time=HMS Local-or-UTC=Z" no_limits "23:59:61Z" 4 ∷
    refuses "Basic=Time Time=HMS Local-or-UTC=Z" no_limits "23:60:60Z" 4 ∷
    refuses "Basic=Time Time=HMS Local-or-UTC=Z" no_limits "24:00:60Z" 4 ∷
    refuses "Basic=Time Time=HMS Local-or-UTC=Z" no_limits "24:59:60Z" 4 ∷
    refuses "Basic=Time Time=HMS Local-or-UTC=Z" no_limits "47:59:60Z" 4 ∷
    refuses "Basic=Time Time=HMS Local-or-UTC=LD" no_limits "24:59:60+01" 4 ∷
    -- before a fraction, in both spellings, and after a date
    refuses "Basic=Time Time=HMSF1 Local-or-UTC=Z" no_limits "12:34:60.5Z" 4 ∷
    refuses "Basic=Time Time=HMSF1 Local-or-UTC=Z" no_limits "12:34:60,0Z" 4 ∷
    refuses "Basic=Time Time=HMSF4 Local-or-UTC=LD" no_limits "05:30:60.1000+05:30" 4 ∷
    refuses "Basic=Date-Time Date=YMD Year=Basic Time=HMS Local-or-UTC=Z" no_limits "2016-12-31T12:34:60Z" 4 ∷
    refuses "Basic=Date-Time Date=YMD Year=Basic Time=HMS Local-or-UTC=LD" no_limits "2017-01-01T05:30:60+05:30" 4 ∷
    -- 3 before 4
    refuses "Basic=Time Time=HMS Local-or-UTC=Z" no_limits "12:34:60" 3 ∷
    refuses "Basic=Time Time=HMS Local-or-UTC=Z" no_limits "12:34:60+00" 3 ∷
    refuses "TIME-OF-DAY" no_limits "12:34:60Z" 3 ∷
    refuses "Basic=Time Time=HMS Local-or-UTC=LD" no_limits "05:30:60+05:3" 3 ∷
    -- 4 before 5, of a window and of a Year; where the second can be, 5
    refuses "Basic=Date-Time Date=YMD Year=Basic Time=HMS Local-or-UTC=Z" from2000 "1999-12-31T12:34:60Z" 4 ∷
    refuses "Basic=Date-Time Date=YMD Year=Basic Time=HMS Local-or-UTC=Z" from2000 "1999-12-31T23:59:60Z" 5 ∷
    refuses "Basic=Date-Time Date=YMD Year=Basic Time=HMS Local-or-UTC=Z" no_limits "1581-12-31T12:34:60Z" 4 ∷
    refuses "Basic=Date-Time Date=YMD Year=Basic Time=HMS Local-or-UTC=Z" no_limits "1581-12-31T23:59:60Z" 5 ∷
    refuses "Basic=Time Time=HMS Local-or-UTC=Z" no_hour24 "12:34:60Z" 4 ∷
    []

-- "Refusals: 4 for the others", in text.
leap_texts_checked : all_refused texts ≡ true
unfolding texts refused_by all_refused computed
leap_texts_checked = refl

causes : List Cause
causes =
    -- PER. 4 and not 3, since 60 is in the range of the seconds: 12:34:60Z, 23:58:60Z, 00:00:60Z, 22:59:60Z
    per_cause "Basic=Time Time=HMS Local-or-UTC=Z" no_limits "645E00" 64 4 ∷
    per_cause "Basic=Time Time=HMS Local-or-UTC=Z" no_limits "BF5E00" 64 4 ∷
    per_cause "Basic=Time Time=HMS Local-or-UTC=Z" no_limits "001E00" 64 4 ∷
    per_cause "Basic=Time Time=HMS Local-or-UTC=Z" no_limits "B77E00" 64 4 ∷
    -- 05:30:60+05:30, and at 05:28, 04:59, 18:29 and 23:59; 05:29:60-05:30; 23:59:60-05, 04:59:60-05; 23:59:60+01, 22:59:60+01, 00:59:60-01
    per_cause "Basic=Time Time=HMS Local-or-UTC=LD" no_limits "2BDE68E8" 64 4 ∷
    per_cause "Basic=Time Time=HMS Local-or-UTC=LD" no_limits "2B9E68E8" 64 4 ∷
    per_cause "Basic=Time Time=HMS Local-or-UTC=LD" no_limits "277E68E8" 64 4 ∷
    per_cause "Basic=Time Time=HMS Local-or-UTC=LD" no_limits "93BE68E8" 64 4 ∷
    per_cause "Basic=Time Time=HMS Local-or-UTC=LD" no_limits "BF7E68E8" 64 4 ∷
    per_cause "Basic=Time Time=HMS Local-or-UTC=LD" no_limits "2BBE54E8" 64 4 ∷
    per_cause "Basic=Time Time=HMS Local-or-UTC=LD" no_limits "BF7E14" 64 4 ∷
    per_cause "Basic=Time Time=HMS Local-or-UTC=LD" no_limits "277E14" 64 4 ∷
    per_cause "Basic=Time Time=HMS Local-or-UTC=LD" no_limits "BF7E20" 64 4 ∷
    per_cause "Basic=Time Time=HMS Local-or-UTC=LD" no_limits "B77E20" 64 4 ∷
    per_cause "Basic=Time Time=HMS Local-or-UTC=LD" no_limits "077E1C" 64 4 ∷
    -- with fractions: 12:34:60.5Z, 05:30:60.1000+05:30; with dates: 2016-12-31T12:34:60Z, 2017-01-01T05:30:60+05:30
    per_cause "Basic=Time Time=HMSF1 Local-or-UTC=Z" no_limits "645E0050" 64 4 ∷
    per_cause "Basic=Time Time=HMSF4 Local-or-UTC=LD" no_limits "2BDE4080FA3474" 64 4 ∷
    per_cause "Basic=Date-Time Date=YMD Year=Basic Time=HMS Local-or-UTC=Z" no_limits "2EFCC8BC" 64 4 ∷
    per_cause "Basic=Date-Time Date=YMD Year=Basic Time=HMS Local-or-UTC=LD" no_limits "300057BCD1D0" 64 4 ∷
    -- second 61 is still 3
    per_cause "Basic=Time Time=HMS Local-or-UTC=Z" no_limits "BF7E80" 64 3 ∷
    per_cause "Basic=Time Time=HMS Local-or-UTC=LD" no_limits "2BBEE8E8" 64 3 ∷
    -- 4 before 5: a year outside the window, or of another setting; where the second can be, 5
    per_cause "Basic=Date-Time Date=YMD Year=Basic Time=HMS Local-or-UTC=Z" from2000 "BEAFCC8BC0" 64 4 ∷
    per_cause "Basic=Date-Time Date=YMD Year=Basic Time=HMS Local-or-UTC=Z" from2000 "BEAFD7EFC0" 64 5 ∷
    per_cause "Basic=Date-Time Date=YMD Year=Basic Time=HMS Local-or-UTC=Z" no_limits "C0818B6FCC8BC0" 64 4 ∷
    per_cause "Basic=Date-Time Date=YMD Year=Basic Time=HMS Local-or-UTC=Z" no_limits "C0818B6FD7EFC0" 64 5 ∷
    -- 4 before 6: filling, octets left over, a fraction up to 999 after a 1 bit, choice 3 for 2006; where the second can be, 6
    per_cause "Basic=Time Time=HMS Local-or-UTC=Z" no_limits "645E01" 64 4 ∷
    per_cause "Basic=Time Time=HMS Local-or-UTC=Z" no_limits "BF7E01" 64 6 ∷
    per_cause "Basic=Time Time=HMS Local-or-UTC=LD" no_limits "2BDE68E800" 64 4 ∷
    per_cause "Basic=Time Time=HMS Local-or-UTC=LD" no_limits "2BBE68E800" 64 6 ∷
    per_cause "Basic=Time Time=HMSF1 Local-or-UTC=Z" no_limits "645E404140" 64 4 ∷
    per_cause "Basic=Time Time=HMSF1 Local-or-UTC=Z" no_limits "BF7E404140" 64 6 ∷
    per_cause "Basic=Date-Time Date=YMD Year=Basic Time=HMS Local-or-UTC=Z" no_limits "C081F5958C8BC0" 64 4 ∷
    per_cause "Basic=Date-Time Date=YMD Year=Basic Time=HMS Local-or-UTC=Z" no_limits "C081F59597EFC0" 64 6 ∷
    -- 4 before 7; where the second can be, 7
    per_cause "Basic=Time Time=HMS Local-or-UTC=Z" no_limits "645E00" 0 4 ∷
    per_cause "Basic=Time Time=HMS Local-or-UTC=Z" no_limits "BF7E00" 8 7 ∷
    -- a local time in any minute: 0
    per_cause "TIME-OF-DAY" no_limits "645E00" 64 0 ∷
    per_cause "Basic=Time Time=HMS Local-or-UTC=L" no_hour24 "645E00" 64 0 ∷
    -- DER, in the same order
    der_cause "Basic=Time Time=HMS Local-or-UTC=Z" no_limits "0E0931323A33343A36305A" 64 4 ∷
    der_cause "Basic=Time Time=HMS Local-or-UTC=Z" no_limits "0E0932333A35383A36305A" 64 4 ∷
    der_cause "Basic=Time Time=HMS Local-or-UTC=Z" no_limits "0E0930303A30303A36305A" 64 4 ∷
    der_cause "Basic=Time Time=HMS Local-or-UTC=Z" no_limits "0E0932323A35393A36305A" 64 4 ∷
    der_cause "Basic=Time Time=HMS Local-or-UTC=LD" no_limits "0E0E30353A33303A36302B30353A3330" 64 4 ∷
    der_cause "Basic=Time Time=HMS Local-or-UTC=LD" no_limits "0E0E30353A32383A36302B30353A3330" 64 4 ∷
    der_cause "Basic=Time Time=HMS Local-or-UTC=LD" no_limits "0E0E30343A35393A36302B30353A3330" 64 4 ∷
    der_cause "Basic=Time Time=HMS Local-or-UTC=LD" no_limits "0E0E31383A32393A36302B30353A3330" 64 4 ∷
    der_cause "Basic=Time Time=HMS Local-or-UTC=LD" no_limits "0E0E32333A35393A36302B30353A3330" 64 4 ∷
    der_cause "Basic=Time Time=HMS Local-or-UTC=LD" no_limits "0E0E30353A32393A36302D30353A3330" 64 4 ∷
    der_cause "Basic=Time Time=HMS Local-or-UTC=LD" no_limits "0E0B32333A35393A36302D3035" 64 4 ∷
    der_cause "Basic=Time Time=HMS Local-or-UTC=LD" no_limits "0E0B30343A35393A36302D3035" 64 4 ∷
    der_cause "Basic=Time Time=HMS Local-or-UTC=LD" no_limits "0E0B32333A35393A36302B3031" 64 4 ∷
    der_cause "Basic=Time Time=HMS Local-or-UTC=LD" no_limits "0E0B32323A35393A36302B3031" 64 4 ∷
    der_cause "Basic=Time Time=HMS Local-or-UTC=LD" no_limits "0E0B30303A35393A36302D3031" 64 4 ∷
    der_cause "Basic=Time Time=HMS Local-or-UTC=LD" no_limits "0E0B32333A35393A36302D3030" 64 4 ∷
    der_cause "Basic=Time Time=HMS Local-or-UTC=LD" no_limits "0E0E32333A35393A36302D30303A3030" 64 4 ∷
    der_cause "Basic=Time Time=HMS Local-or-UTC=LD" no_limits "0E0B31353A35393A36302B3136" 64 4 ∷
    der_cause "Basic=Time Time=HMS Local-or-UTC=LD" no_limits "0E0B30373A35393A36302D3136" 64 4 ∷
    der_cause "Basic=Time Time=HMSF1 Local-or-UTC=Z" no_limits "0E0B31323A33343A36302E355A" 64 4 ∷
    der_cause "Basic=Time Time=HMSF4 Local-or-UTC=LD" no_limits "0E1330353A33303A36302E313030302B30353A3330" 64 4 ∷
    der_cause "Basic=Date-Time Date=YMD Year=Basic Time=HMS Local-or-UTC=Z" no_limits "0E14323031362D31322D33315431323A33343A36305A" 64 4 ∷
    der_cause "Basic=Date-Time Date=YMD Year=Basic Time=HMS Local-or-UTC=LD" no_limits "0E19323031372D30312D30315430353A33303A36302B30353A3330" 64 4 ∷
    -- not of the form: 3
    der_cause "Basic=Time Time=HMS Local-or-UTC=Z" no_limits "0E0831323A33343A3630" 64 3 ∷
    der_cause "Basic=Time Time=HMS Local-or-UTC=L" no_limits "0E0931323A33343A36305A" 64 3 ∷
    der_cause "Basic=Time Time=HMS Local-or-UTC=LD" no_limits "0E0D30353A33303A36302B30353A33" 64 3 ∷
    -- 4 before 5
    der_cause "Basic=Date-Time Date=YMD Year=Basic Time=HMS Local-or-UTC=Z" from2000 "0E14313939392D31322D33315431323A33343A36305A" 64 4 ∷
    der_cause "Basic=Date-Time Date=YMD Year=Basic Time=HMS Local-or-UTC=Z" from2000 "0E14313939392D31322D33315432333A35393A36305A" 64 5 ∷
    der_cause "Basic=Date-Time Date=YMD Year=Basic Time=HMS Local-or-UTC=Z" no_limits "0E14313538312D31322D33315431323A33343A36305A" 64 4 ∷
    der_cause "Basic=Date-Time Date=YMD Year=Basic Time=HMS Local-or-UTC=Z" no_limits "0E14313538312D31322D33315432333A35393A36305A" 64 5 ∷
    -- 4 before 6: comma, `:00` in a difference, octets left over
    der_cause "Basic=Time Time=HMSF1 Local-or-UTC=Z" no_limits "0E0B31323A33343A36302C355A" 64 4 ∷
    der_cause "Basic=Time Time=HMSF1 Local-or-UTC=Z" no_limits "0E0B32333A35393A36302C355A" 64 6 ∷
    der_cause "Basic=Time Time=HMS Local-or-UTC=LD" no_limits "0E0E30313A30303A36302B30313A3030" 64 4 ∷
    der_cause "Basic=Time Time=HMS Local-or-UTC=LD" no_limits "0E0E30303A35393A36302B30313A3030" 64 6 ∷
    der_cause "Basic=Time Time=HMS Local-or-UTC=Z" no_limits "0E0931323A33343A36305A00" 64 4 ∷
    der_cause "Basic=Time Time=HMS Local-or-UTC=Z" no_limits "0E0932333A35393A36305A00" 64 6 ∷
    -- 4 before 7
    der_cause "Basic=Time Time=HMS Local-or-UTC=Z" no_limits "0E0931323A33343A36305A" 0 4 ∷
    der_cause "Basic=Time Time=HMS Local-or-UTC=Z" no_limits "0E0932333A35393A36305A" 8 7 ∷
    -- a local time
    der_cause "TIME-OF-DAY" no_limits "1F2006313233343630" 64 0 ∷
    der_cause "Basic=Time Time=HMS Local-or-UTC=L" no_hour24 "0E0831323A33343A3630" 64 0 ∷
    []

-- The same in octets: 4 after 3, and before 5, 6 and 7.
leap_causes_checked : all_caused causes ≡ true
unfolding hex causes number_given all_caused computed
leap_causes_checked = refl
