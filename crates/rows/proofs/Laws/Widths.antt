-- How many bits a value takes at most.
use mathlib.Core.Bool.{Bool, true, false, cond}
use mathlib.Core.List.{List}
use Prim.Native.Nat.{ℕ, zero, suc, ◌≤◌}
use native.Mathlib.Omega.{arith}
use lib.Dec.{ltb}
use lib.IntN.{ℤ, pos, negsuc}
use Rattle.calendar.specs.Years.{astronomical_of}
use Rattle.calendar.specs.declared.dates.Date.{Date}
use Rattle.texts.specs.Forms.{year_of}
use Rattle.texts.specs.declared.values.Clock.{Clock}
use Rattle.texts.specs.declared.values.Time.{Time}
use Rattle.texts.specs.declared.values.Value.{Value}
use Rattle.texts.specs.declared.values.Zone.{Zone}
use Rattle.fields.specs.Fields.{Field, width, binary_digits, field_width, bit_count}
use Rattle.fields.proofs.Laws.Fields.{count-append, free-width}
use Rattle.types.specs.declared.years.YearRow.{YearRow}
use Rattle.rows.specs.Fields.{other_year, choice_of_year, year_fields, day_fields, date_fields, clock_fields, long_fraction, fraction_fields, hours_field}
use Rattle.rows.specs.Fields.{difference_fields, zone_fields, time_fields, fields_of}

at_most : (t : Bool) (n : ℕ) (fs gs : List Field) → bit_count fs ≤ n → bit_count gs ≤ n → bit_count (cond t fs gs) ≤ n
at_most true n fs gs f g = f
at_most false n fs gs f g = g

other_most : (y : ℤ) → bit_count (other_year y) ≤ 42
unfolding other_year bit_count field_width width binary_digits
other_most y = let h = free-width y in omega arith

pub year_most : (row : YearRow) (y : ℤ) → bit_count (year_fields row y) ≤ 42
unfolding year_fields choice_of_year bit_count field_width width binary_digits
year_most YearRow.Year (negsuc n) = other_most (negsuc n)
year_most YearRow.Year (pos y) =
    let o = other_most (pos y) in
    at_most (ltb y 1749) 42 _ _ o
    (at_most (ltb y 2005) 42 _ _ (omega arith)
    (at_most (ltb y 2021) 42 _ _ (omega arith)
    (at_most (ltb y 2277) 42 _ _ (omega arith) o)))
year_most YearRow.AnyYear y = let h = free-width y in omega arith

pub day_most : (date : Date) → bit_count (day_fields date) ≤ 9
unfolding day_fields bit_count field_width width binary_digits
day_most (Date.Y y) = omega arith
day_most (Date.YM y m) = omega arith
day_most (Date.YMD y m d) = omega arith
day_most (Date.YD y d) = omega arith
day_most (Date.YW y w) = omega arith
day_most (Date.YWD y w d) = omega arith

pub date_most : (row : YearRow) (date : Date) → bit_count (date_fields row date) ≤ 51
unfolding date_fields
date_most row date =
    let y = year_most row (astronomical_of (year_of date)) in
    let d = day_most date in
    simp count-append (omega arith)

pub clock_most : (clock : Clock) → bit_count (clock_fields clock) ≤ 17
unfolding clock_fields bit_count field_width width binary_digits
clock_most (Clock.H h) = omega arith
clock_most (Clock.HM h m) = omega arith
clock_most (Clock.HMS h m s) = omega arith

long_most : (f : ℕ) → bit_count (long_fraction f) ≤ 41
unfolding long_fraction bit_count field_width width binary_digits
long_most f = let h = free-width (pos f) in omega arith

pub fraction_most : (digits f : ℕ) → bit_count (fraction_fields digits f) ≤ 41
unfolding fraction_fields bit_count field_width width binary_digits
fraction_most zero f = omega arith
fraction_most (suc n) f = at_most (ltb f 1000) 41 _ _ (omega arith) (long_most f)

difference_most : (h m : ℕ) → bit_count (difference_fields h m) ≤ 12
unfolding difference_fields bit_count field_width width binary_digits
difference_most h zero = omega arith
difference_most h (suc m) = omega arith

pub zone_most : (zone : Zone) → bit_count (zone_fields zone) ≤ 12
unfolding zone_fields bit_count
zone_most Zone.L = omega arith
zone_most Zone.Z = omega arith
zone_most (Zone.LD d) = difference_most (hours_field d.behind d.hours) d.minutes

pub time_most : (time : Time) → bit_count (time_fields time) ≤ 70
unfolding time_fields
time_most time =
    let c = clock_most time.clock in
    let f = fraction_most time.digits time.fraction in
    let z = zone_most time.zone in
    simp count-append (omega arith)

-- A value takes at most 121 bits: 51 are the date's, 17 the clock's, 41 the fraction's and 12 the difference's.
pub most_bits : (row : YearRow) (v : Value) → bit_count (fields_of row v) ≤ 121
unfolding fields_of
most_bits row (Value.Date d) = let h = date_most row d in omega arith
most_bits row (Value.Time t) = let h = time_most t in omega arith
most_bits row (Value.DateTime d t) =
    let h = date_most row d in
    let g = time_most t in
    simp count-append (omega arith)
