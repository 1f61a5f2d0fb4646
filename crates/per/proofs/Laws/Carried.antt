-- What a type holds has each part in the range of its field.
use mathlib.Core.Path.{◌≡◌}
use mathlib.Core.Bool.{true}
use Prim.Native.Nat.{ℕ, ◌^◌, ◌≤◌, ◌<◌}
use native.Mathlib.Omega.{arith}
use native.Mathlib.Nat.{pow-le-pow_right}
use lib.IntN.{ℤ, pos, negsuc, nat_abs}
use lib.Signed.{mag}
use Rattle.octets.proofs.Laws.Cases.{both}
use Rattle.calendar.specs.Dates.{exists_of}
use Rattle.calendar.specs.Years.{astronomical_of}
use Rattle.calendar.specs.declared.dates.Date.{Date}
use Rattle.calendar.proofs.Laws.Dates.{in-range}
use Rattle.texts.specs.Forms.{year_of}
use Rattle.texts.specs.Years.{longest_year}
use Rattle.texts.specs.declared.values.Clock.{Clock}
use Rattle.texts.specs.declared.values.Time.{Time}
use Rattle.texts.specs.declared.values.Value.{Value}
use Rattle.texts.specs.declared.values.Zone.{Zone}
use Rattle.texts.proofs.Laws.Fits.{Fits, DateFits, YearFits}
use Rattle.types.specs.Years.{in_setting}
use Rattle.types.specs.declared.types.«Type».{«Type» as Ty}
use Rattle.types.specs.declared.years.YearSetting.{YearSetting}
use Rattle.types.proofs.Laws.YearRanges.{setting_range}
use Rattle.held_values.specs.Existence.{exists_time, exists_value, hours_of, minutes_of, seconds_of}
use Rattle.held_values.specs.Holding.{holds_of}
use Rattle.held_values.proofs.Laws.Existence.{ZoneInRange, time_range}
use Rattle.held_values.proofs.Laws.Existing.{held_fits}
use Rattle.held_values.proofs.Laws.Holding.{held}
use Rattle.fields.specs.Integers.{within, half}
use Rattle.fields.proofs.Laws.Integers.{within_in}
use Rattle.rows.specs.Ranges.{carried}
use Rattle.rows.proofs.Laws.Carried.{ClockInFields, DateInFields, InFields, TimeInFields, ZoneInFields, carried-value}

-- a year that a text can show has at most four octets
year_within : (y : ℤ) → nat_abs y < 10 ^ longest_year → within 4 y ≡ true
year_within y h = within_in 4 y (small y h)
  where
    small : (y : ℤ) → nat_abs y < 10 ^ longest_year → mag y < half 4
    small (pos n) h = unfold half in omega arith
    small (negsuc n) h = unfold half in omega arith

-- "Free integers still need at most four octets" (#103): four are enough for each year of a Year setting, ..
pub four_octets : (s : YearSetting) (y : ℤ) → in_setting s y ≡ true → within 4 y ≡ true
four_octets s y e = year_within y (setting_range s y e)

-- .. and for each fraction.
pub fraction_octets : (n f : ℕ) → n ≤ 9 → f < 10 ^ n → within 4 (pos f) ≡ true
fraction_octets n f h k =
    let m : f < half 4 = unfold half in omega (arith, k, pow-le-pow_right {n = 10} (omega arith) h) in
    within_in 4 (pos f) m

date-in : (d : Date) → exists_of d ≡ true → DateFits longest_year d → DateInFields d
unfolding DateFits YearFits
date-in d e f = record { year = year_within (astronomical_of (year_of d)) f.0; day = in-range d e }

clock_in : (c : Clock) → hours_of c ≤ 24 → minutes_of c ≤ 59 → seconds_of c ≤ 60 → ClockInFields c
clock_in (Clock.H h) a b d = a
clock_in (Clock.HM h m) a b d = (a, b)
clock_in (Clock.HMS h m s) a b d = (a, b, d)

zone-in : (z : Zone) → ZoneInRange z → ZoneInFields z
zone-in Zone.L r = tt
zone-in Zone.Z r = tt
zone-in (Zone.LD d) r = record { behind = λ e. (r.signed e, r.hours); ahead = λ e. omega (arith, r.hours); minutes = r.minutes }

time-in : (t : Time) → exists_time t ≡ true → TimeInFields t
time-in t e =
    let r = time_range t e in
    record {
      clock = clock_in t.clock r.hours r.minutes r.seconds;
      fraction = r.fraction;
      octets = fraction_octets t.digits t.fraction r.digits r.fraction;
      zone = zone-in t.zone r.zone;
    }

in_fields : (v : Value) → exists_value v ≡ true → Fits longest_year v → InFields v
unfolding Fits
in_fields (Value.Date d) e f = date-in d e f
in_fields (Value.Time t) e f = time-in t e
in_fields (Value.DateTime d t) e f = let b = both (exists_of d) (exists_time t) e in (date-in d b.0 f.0, time-in t b.1)

pub held_carried : (t : Ty) (v : Value) → holds_of t v ≡ true → carried v ≡ true
held_carried t v h = carried-value v (in_fields v (held t v h).0 (held_fits t v h))
