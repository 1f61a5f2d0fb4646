-- "What exists", exactly: which times, differences and values.
use mathlib.Core.Path.{◌≡◌, refl}
use mathlib.Core.Bool.{Bool, true, false, cond, ◌&&◌}
use Prim.Native.Nat.{ℕ, ◌+◌, ◌*◌, ◌≤◌, ◌<◌, ◌^◌}
use native.Mathlib.Omega.{arith}
use lib.Dec.{leb, ltb, eqb}
use borrow.Author.Tests.{leb-true, le-leb, lt-ltb, eqb-true, eqb-false, eq-eqb, ne_eqb}
use Rattle.octets.proofs.Laws.Cases.{both}
use Rattle.calendar.proofs.Laws.Existing.{Existing, date_existing, existing_date}
use Rattle.calendar.specs.Dates.{exists_of}
use Rattle.calendar.specs.declared.dates.Date.{Date}
use Rattle.texts.specs.declared.values.Difference.{Difference}
use Rattle.texts.specs.declared.values.Zone.{Zone}
use Rattle.texts.specs.declared.values.Time.{Time}
use Rattle.texts.specs.declared.values.Value.{Value}
use Rattle.held_values.specs.Existence.{exists_clock, exists_difference, exists_fraction, exists_leap, exists_time, exists_value, exists_zone}
use Rattle.held_values.specs.Existence.{hours_of, minutes_of, seconds_of}
use Rattle.held_values.proofs.Laws.Existence.{DifferenceInRange, ZoneInRange, fraction_range, parts_exist, three, zone_range}
use Rattle.held_values.proofs.Laws.Leaps.{LeapExists, exists-leap, leap_exists, no_leap}

-- "Hours 0 to 24; at 24 all smaller fields and the fraction are 0. Minutes 0 to 59. Seconds 0 to 60".
pub data ClockExists (hours minutes seconds fraction : ℕ) : Type 0 where
  before_24 : hours ≤ 23 → minutes ≤ 59 → seconds ≤ 60 → ClockExists hours minutes seconds fraction
  at_24 : hours ≡ 24 → minutes ≡ 0 → seconds ≡ 0 → fraction ≡ 0 → ClockExists hours minutes seconds fraction

-- A time, its fraction with the digits that it has, its zone, and where a second 60 is.
pub record TimeExists (time : Time) : Type 0 where
  pub clock : ClockExists (hours_of time.clock) (minutes_of time.clock) (seconds_of time.clock) time.fraction
  pub digits : time.digits ≤ 9
  pub fraction : time.fraction < 10 ^ time.digits
  pub zone : ZoneInRange time.zone
  pub leap : seconds_of time.clock ≡ 60 → LeapExists (hours_of time.clock * 60 + minutes_of time.clock) time.zone

-- "A value is a date, a time, or a date with a time": each of them exists.
pub data ValueExists : Value → Type 0 where
  date : (d : Date) → Existing d → ValueExists (Value.Date d)
  time : (t : Time) → TimeExists t → ValueExists (Value.Time t)
  date_time : (d : Date) (t : Time) → Existing d → TimeExists t → ValueExists (Value.DateTime d t)

-- ---- what exists is so

clock_exists : (hours minutes seconds fraction : ℕ) → exists_clock hours minutes seconds fraction ≡ true → ClockExists hours minutes seconds fraction
unfolding exists_clock
clock_exists hours minutes seconds fraction = go (eqb hours 24) refl
  where
    go : (b : Bool) → eqb hours 24 ≡ b → cond b (eqb minutes 0 && eqb seconds 0 && eqb fraction 0) (leb hours 23 && leb minutes 59 && leb seconds 60) ≡ true
        → ClockExists hours minutes seconds fraction
    go true h e =
        let p = three (eqb minutes 0) (eqb seconds 0) (eqb fraction 0) e in
        at_24 (eqb-true hours 24 h) (eqb-true minutes 0 p.0) (eqb-true seconds 0 p.1) (eqb-true fraction 0 p.2)
    go false h e =
        let p = three (leb hours 23) (leb minutes 59) (leb seconds 60) e in
        before_24 (leb-true hours 23 p.0) (leb-true minutes 59 p.1) (leb-true seconds 60 p.2)

-- a second 60 is before hour 24
leap_told : (hours minutes seconds fraction : ℕ) (z : Zone) → ClockExists hours minutes seconds fraction → ZoneInRange z
    → exists_leap hours minutes seconds z ≡ true → seconds ≡ 60 → LeapExists (hours * 60 + minutes) z
leap_told hours minutes seconds fraction z (before_24 h m s) r e l = leap_exists hours minutes z h m r (rw l at e)
leap_told hours minutes seconds fraction z (at_24 h m s f) r e l = absurd (omega arith)

time_exists : (t : Time) → exists_time t ≡ true → TimeExists t
time_exists t e =
    let p = parts_exist t e in
    let k = clock_exists _ _ _ _ p.0 in
    let f = fraction_range t.digits t.fraction p.1 in
    let z = zone_range t.zone p.2 in
    record { clock = k; digits = f.0; fraction = f.1; zone = z; leap = leap_told _ _ _ _ t.zone k z p.3 }

pub value-exists : (v : Value) → exists_value v ≡ true → ValueExists v
value-exists (Value.Date d) e = date d (date_existing d e)
value-exists (Value.Time t) e = time t (time_exists t e)
value-exists (Value.DateTime d t) e = let p = both (exists_of d) (exists_time t) e in date_time d t (date_existing d p.0) (time_exists t p.1)

-- ---- and what is so exists

exists-clock : (hours minutes seconds fraction : ℕ) → ClockExists hours minutes seconds fraction → exists_clock hours minutes seconds fraction ≡ true
unfolding exists_clock
exists-clock hours minutes seconds fraction (before_24 h m s) =
    simp (ne_eqb hours 24 (λ z. omega arith), le-leb hours 23 h, le-leb minutes 59 m, le-leb seconds 60 s)
exists-clock hours minutes seconds fraction (at_24 h m s f) = simp (eq-eqb hours 24 h, eq-eqb minutes 0 m, eq-eqb seconds 0 s, eq-eqb fraction 0 f)

exists-difference : (d : Difference) → DifferenceInRange d → exists_difference d ≡ true
unfolding exists_difference
exists-difference d r = simp (le-leb d.hours 15 r.hours, le-leb d.minutes 59 r.minutes) (go d.behind refl)
  where
    go : (b : Bool) → d.behind ≡ b → cond b (ltb 0 d.hours) true ≡ true
    go true e = lt-ltb 0 d.hours (r.signed e)
    go false e = refl

exists-zone : (z : Zone) → ZoneInRange z → exists_zone z ≡ true
exists-zone Zone.L r = refl
exists-zone Zone.Z r = refl
exists-zone (Zone.LD d) r = exists-difference d r

leap_there : (hours minutes seconds fraction : ℕ) (z : Zone) → ClockExists hours minutes seconds fraction → ZoneInRange z
    → (seconds ≡ 60 → LeapExists (hours * 60 + minutes) z) → exists_leap hours minutes seconds z ≡ true
leap_there hours minutes seconds fraction z (before_24 h m s) r x = go (eqb seconds 60) refl
  where
    go : (b : Bool) → eqb seconds 60 ≡ b → exists_leap hours minutes seconds z ≡ true
    go true b = let l = eqb-true seconds 60 b in rw l (exists-leap hours minutes z h m r (x l))
    go false b = no_leap hours minutes seconds z (eqb-false seconds 60 b)
leap_there hours minutes seconds fraction z (at_24 h m s f) r x = no_leap hours minutes seconds z (λ l. omega arith)

exists-time : (t : Time) → TimeExists t → exists_time t ≡ true
unfolding exists_time exists_fraction
exists-time t x =
    simp (
      exists-clock (hours_of t.clock) (minutes_of t.clock) (seconds_of t.clock) t.fraction x.clock,
      le-leb t.digits 9 x.digits,
      lt-ltb t.fraction (10 ^ t.digits) x.fraction,
      exists-zone t.zone x.zone,
      leap_there (hours_of t.clock) (minutes_of t.clock) (seconds_of t.clock) t.fraction t.zone x.clock x.zone x.leap,
    )

pub exists-value : (v : Value) → ValueExists v → exists_value v ≡ true
exists-value v (date d x) = existing_date d x
exists-value v (time t x) = exists-time t x
exists-value v (date_time d t x y) = rw (existing_date d x, exists-time t y)
