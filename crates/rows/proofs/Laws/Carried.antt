-- Which values fields can carry, in numbers and exactly. So what is read is no less than this, whether it exists or not.
use mathlib.Core.Path.{◌≡◌, refl, sym}
use mathlib.Core.Bool.{Bool, true, false, ◌&&◌, and-eq-true_iff, false≢true}
use Prim.Native.Nat.{ℕ, ◌≤◌, ◌<◌, ◌^◌}
use lib.Dec.{leb, ltb}
use lib.IntN.{pos}
use borrow.Author.Tests.{leb-true, le-leb, ltb-true, lt-ltb}
use Rattle.calendar.specs.Years.{astronomical_of}
use Rattle.calendar.specs.declared.dates.Date.{Date}
use Rattle.calendar.proofs.Laws.Dates.{InRange}
use Rattle.texts.specs.Forms.{year_of}
use Rattle.texts.specs.declared.values.Clock.{Clock}
use Rattle.texts.specs.declared.values.Difference.{Difference}
use Rattle.texts.specs.declared.values.Time.{Time}
use Rattle.texts.specs.declared.values.Value.{Value}
use Rattle.texts.specs.declared.values.Zone.{Zone}
use Rattle.fields.specs.Integers.{within}
use Rattle.rows.specs.Ranges.{carried, clock_carried, date_carried, day_carried, fraction_carried, from_one, hours_carried, time_carried, zone_carried}

-- A date: its year in at most four octets, months 1 to 12, days 1 to 31 or 366, weeks 1 to 53, weekdays 1 to 7.
pub record DateInFields (d : Date) : Type 0 where
  pub year : within 4 (astronomical_of (year_of d)) ≡ true
  pub day : InRange d

-- Hours 0 to 24, minutes 0 to 59, seconds 0 to 60.
abbrev pub ClockInFields : Clock → Type 0
ClockInFields (Clock.H hours) = hours ≤ 24
ClockInFields (Clock.HM hours minutes) = (hours ≤ 24) × (minutes ≤ 59)
ClockInFields (Clock.HMS hours minutes seconds) = (hours ≤ 24) × (minutes ≤ 59) × (seconds ≤ 60)

-- A difference of -15 to -1 or of 0 to 16 hours, with any minutes from 0 to 59.
pub record DifferenceInFields (d : Difference) : Type 0 where
  pub behind : d.behind ≡ true → (1 ≤ d.hours) × (d.hours ≤ 15)
  pub ahead : d.behind ≡ false → d.hours ≤ 16
  pub minutes : d.minutes ≤ 59

abbrev pub ZoneInFields : Zone → Type 0
ZoneInFields Zone.L = Unit {0}
ZoneInFields Zone.Z = Unit {0}
ZoneInFields (Zone.LD d) = DifferenceInFields d

-- A time: a fraction of at most its digits, in at most four octets.
pub record TimeInFields (t : Time) : Type 0 where
  pub clock : ClockInFields t.clock
  pub fraction : t.fraction < 10 ^ t.digits
  pub octets : within 4 (pos t.fraction) ≡ true
  pub zone : ZoneInFields t.zone

abbrev pub InFields : Value → Type 0
InFields (Value.Date d) = DateInFields d
InFields (Value.Time t) = TimeInFields t
InFields (Value.DateTime d t) = DateInFields d × TimeInFields t

-- ---- what is carried is so

and : (a b : Bool) → a && b ≡ true → (a ≡ true) × (b ≡ true)
and a b e = (and-eq-true_iff a b).0 e

in_one : (highest n : ℕ) → from_one highest n ≡ true → (1 ≤ n) × (n ≤ highest)
unfolding from_one
in_one highest n e = let p = and (leb 1 n) (leb n highest) e in (leb-true 1 n p.0, leb-true n highest p.1)

two_in_one : (a b m n : ℕ) → from_one a m && from_one b n ≡ true → (1 ≤ m) × (m ≤ a) × (1 ≤ n) × (n ≤ b)
two_in_one a b m n e =
    let p = and (from_one a m) (from_one b n) e in
    let q = in_one a m p.0 in
    let r = in_one b n p.1 in
    (q.0, q.1, r.0, r.1)

day_in : (d : Date) → day_carried d ≡ true → InRange d
unfolding day_carried
day_in (Date.Y y) e = tt
day_in (Date.YM y m) e = in_one 12 m e
day_in (Date.YMD y m d) e = two_in_one 12 31 m d e
day_in (Date.YD y d) e = in_one 366 d e
day_in (Date.YW y w) e = in_one 53 w e
day_in (Date.YWD y w d) e = two_in_one 53 7 w d e

date-in : (d : Date) → date_carried d ≡ true → DateInFields d
unfolding date_carried
date-in d e = let p = and (within 4 (astronomical_of (year_of d))) (day_carried d) e in record { year = p.0; day = day_in d p.1 }

clock_in : (c : Clock) → clock_carried c ≡ true → ClockInFields c
unfolding clock_carried
clock_in (Clock.H h) e = leb-true h 24 e
clock_in (Clock.HM h m) e = let p = and (leb h 24) (leb m 59) e in (leb-true h 24 p.0, leb-true m 59 p.1)
clock_in (Clock.HMS h m s) e =
    let p = and (leb h 24 && leb m 59) (leb s 60) e in
    let q = and (leb h 24) (leb m 59) p.0 in
    (leb-true h 24 q.0, leb-true m 59 q.1, leb-true s 60 p.1)

hours_behind : (hours : ℕ) (b : Bool) → hours_carried b hours ≡ true → b ≡ true → (1 ≤ hours) × (hours ≤ 15)
unfolding hours_carried
hours_behind hours true e z = in_one 15 hours e
hours_behind hours false e z = absurd (false≢true z)

hours_ahead : (hours : ℕ) (b : Bool) → hours_carried b hours ≡ true → b ≡ false → hours ≤ 16
unfolding hours_carried
hours_ahead hours true e z = absurd (false≢true (sym z))
hours_ahead hours false e z = leb-true hours 16 e

zone-in : (z : Zone) → zone_carried z ≡ true → ZoneInFields z
unfolding zone_carried
zone-in Zone.L e = tt
zone-in Zone.Z e = tt
zone-in (Zone.LD d) e =
    let p = and (hours_carried d.behind d.hours) (leb d.minutes 59) e in
    record { behind = hours_behind d.hours d.behind p.0; ahead = hours_ahead d.hours d.behind p.0; minutes = leb-true d.minutes 59 p.1 }

time-in : (t : Time) → time_carried t ≡ true → TimeInFields t
unfolding time_carried fraction_carried
time-in t e =
    let p = and (clock_carried t.clock && fraction_carried t.digits t.fraction) (zone_carried t.zone) e in
    let q = and (clock_carried t.clock) (fraction_carried t.digits t.fraction) p.0 in
    let f = and (ltb t.fraction (10 ^ t.digits)) (within 4 (pos t.fraction)) q.1 in
    record { clock = clock_in t.clock q.0; fraction = ltb-true t.fraction (10 ^ t.digits) f.0; octets = f.1; zone = zone-in t.zone p.1 }

pub value-carried : (v : Value) → carried v ≡ true → InFields v
unfolding carried
value-carried (Value.Date d) e = date-in d e
value-carried (Value.Time t) e = time-in t e
value-carried (Value.DateTime d t) e = let p = and (date_carried d) (time_carried t) e in (date-in d p.0, time-in t p.1)

-- ---- and what is so is carried

from_one_lem : (highest n : ℕ) → 1 ≤ n → n ≤ highest → from_one highest n ≡ true
unfolding from_one
from_one_lem highest n h l = simp (le-leb 1 n h, le-leb n highest l)

in_day : (d : Date) → InRange d → day_carried d ≡ true
unfolding day_carried
in_day (Date.Y y) r = refl
in_day (Date.YM y m) r = from_one_lem 12 m r.0 r.1
in_day (Date.YMD y m d) r = simp (from_one_lem 12 m r.0 r.1, from_one_lem 31 d r.2 r.3)
in_day (Date.YD y d) r = from_one_lem 366 d r.0 r.1
in_day (Date.YW y w) r = from_one_lem 53 w r.0 r.1
in_day (Date.YWD y w d) r = simp (from_one_lem 53 w r.0 r.1, from_one_lem 7 d r.2 r.3)

in_date : (d : Date) → DateInFields d → date_carried d ≡ true
unfolding date_carried
in_date d r = simp (r.year, in_day d r.day)

in_clock : (c : Clock) → ClockInFields c → clock_carried c ≡ true
unfolding clock_carried
in_clock (Clock.H h) r = le-leb h 24 r
in_clock (Clock.HM h m) r = simp (le-leb h 24 r.0, le-leb m 59 r.1)
in_clock (Clock.HMS h m s) r = simp (le-leb h 24 r.0, le-leb m 59 r.1, le-leb s 60 r.2)

in_hours : (d : Difference) → DifferenceInFields d → (b : Bool) → d.behind ≡ b → hours_carried b d.hours ≡ true
unfolding hours_carried
in_hours d r true e = let p = r.behind e in from_one_lem 15 d.hours p.0 p.1
in_hours d r false e = le-leb d.hours 16 (r.ahead e)

in_zone : (z : Zone) → ZoneInFields z → zone_carried z ≡ true
unfolding zone_carried
in_zone Zone.L r = refl
in_zone Zone.Z r = refl
in_zone (Zone.LD d) r = simp (in_hours d r d.behind refl, le-leb d.minutes 59 r.minutes)

in_time : (t : Time) → TimeInFields t → time_carried t ≡ true
unfolding time_carried fraction_carried
in_time t r = simp (in_clock t.clock r.clock, lt-ltb t.fraction (10 ^ t.digits) r.fraction, r.octets, in_zone t.zone r.zone)

pub carried-value : (v : Value) → InFields v → carried v ≡ true
unfolding carried
carried-value (Value.Date d) r = in_date d r
carried-value (Value.Time t) r = in_time t r
carried-value (Value.DateTime d t) r = simp (in_date d r.0, in_time t r.1)
