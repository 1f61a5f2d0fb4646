-- What existing says of a time's fields.
use mathlib.Core.Path.{◌≡◌, refl}
use mathlib.Core.Bool.{Bool, true, false, cond, ◌&&◌}
use Prim.Native.Nat.{ℕ, ◌≤◌, ◌<◌, ◌^◌}
use native.Mathlib.Omega.{arith}
use lib.Dec.{leb, ltb, eqb}
use borrow.Author.Tests.{leb-true, ltb-true, eqb-true}
use Rattle.octets.proofs.Laws.Cases.{both}
use Rattle.texts.specs.declared.values.Difference.{Difference}
use Rattle.texts.specs.declared.values.Zone.{Zone}
use Rattle.texts.specs.declared.values.Time.{Time}
use Rattle.held_values.specs.Existence.{hours_of, minutes_of, seconds_of, exists_clock, exists_fraction, exists_difference, exists_zone, exists_leap, exists_time}

-- what three joined tests say
pub three : (a b d : Bool) → (a && b && d) ≡ true → (a ≡ true) × (b ≡ true) × (d ≡ true)
three a b d e =
    let p = both (a && b) d e in
    let q = both a b p.0 in
    (q.0, q.1, p.1)

-- what four of them say
pub four : (a b d f : Bool) → (a && b && d && f) ≡ true → (a ≡ true) × (b ≡ true) × (d ≡ true) × (f ≡ true)
four a b d f e =
    let p = both (a && b && d) f e in
    let q = three a b d p.0 in
    (q.0, q.1, q.2, p.1)

-- At hour 24 all smaller fields and the fraction are 0.
pub hour_24 : (minutes seconds fraction : ℕ) → exists_clock 24 minutes seconds fraction ≡ true → (minutes ≡ 0) × (seconds ≡ 0) × (fraction ≡ 0)
unfolding exists_clock
hour_24 minutes seconds fraction e =
    let p = three (eqb minutes 0) (eqb seconds 0) (eqb fraction 0) e in
    (eqb-true minutes 0 p.0, eqb-true seconds 0 p.1, eqb-true fraction 0 p.2)

-- Each field of a clock that exists lies in its range.
pub clock_range : (hours minutes seconds fraction : ℕ) → exists_clock hours minutes seconds fraction ≡ true → (hours ≤ 24) × (minutes ≤ 59) × (seconds ≤ 60)
unfolding exists_clock
clock_range hours minutes seconds fraction = go (eqb hours 24) refl where
  go : (t : Bool) → eqb hours 24 ≡ t
      → cond t (eqb minutes 0 && eqb seconds 0 && eqb fraction 0) (leb hours 23 && leb minutes 59 && leb seconds 60) ≡ true
      → (hours ≤ 24) × (minutes ≤ 59) × (seconds ≤ 60)
  go true h e = let p = three (eqb minutes 0) (eqb seconds 0) (eqb fraction 0) e in omega (arith, eqb-true)
  go false h e = let p = three (leb hours 23) (leb minutes 59) (leb seconds 60) e in omega (arith, leb-true)

pub fraction_range : (digits fraction : ℕ) → exists_fraction digits fraction ≡ true → (digits ≤ 9) × (fraction < 10 ^ digits)
unfolding exists_fraction
fraction_range digits fraction e =
    let p = both (leb digits 9) (ltb fraction (10 ^ digits)) e in
    (leb-true digits 9 p.0, ltb-true fraction (10 ^ digits) p.1)

-- The ranges of a difference; one that is behind has hours.
pub record DifferenceInRange (difference : Difference) : Type 0 where
  pub hours : difference.hours ≤ 15
  pub minutes : difference.minutes ≤ 59
  pub signed : difference.behind ≡ true → 0 < difference.hours

pub difference_range : (difference : Difference) → exists_difference difference ≡ true → DifferenceInRange difference
unfolding exists_difference
difference_range difference e =
    let p = three (leb difference.hours 15) (leb difference.minutes 59) (cond difference.behind (ltb 0 difference.hours) true) e in
    record {
      hours = leb-true difference.hours 15 p.0;
      minutes = leb-true difference.minutes 59 p.1;
      signed = λ b. ltb-true 0 difference.hours (rw b at p.2);
    }

abbrev pub ZoneInRange : Zone → Type 0
ZoneInRange Zone.L = Unit {0}
ZoneInRange Zone.Z = Unit {0}
ZoneInRange (Zone.LD difference) = DifferenceInRange difference

pub zone_range : (zone : Zone) → exists_zone zone ≡ true → ZoneInRange zone
zone_range Zone.L e = tt
zone_range Zone.Z e = tt
zone_range (Zone.LD difference) e = difference_range difference e

-- What existing says of each of a time's parts.
pub parts_exist : (time : Time) → exists_time time ≡ true →
    (exists_clock (hours_of time.clock) (minutes_of time.clock) (seconds_of time.clock) time.fraction ≡ true)
    × (exists_fraction time.digits time.fraction ≡ true)
    × (exists_zone time.zone ≡ true)
    × (exists_leap (hours_of time.clock) (minutes_of time.clock) (seconds_of time.clock) time.zone ≡ true)
unfolding exists_time
parts_exist time e =
    let clock = exists_clock (hours_of time.clock) (minutes_of time.clock) (seconds_of time.clock) time.fraction in
    let leap = exists_leap (hours_of time.clock) (minutes_of time.clock) (seconds_of time.clock) time.zone in
    four clock (exists_fraction time.digits time.fraction) (exists_zone time.zone) leap e

-- The range that each part of an existing time lies in.
pub record TimeInRange (time : Time) : Type 0 where
  pub hours : hours_of time.clock ≤ 24
  pub minutes : minutes_of time.clock ≤ 59
  pub seconds : seconds_of time.clock ≤ 60
  pub digits : time.digits ≤ 9
  pub fraction : time.fraction < 10 ^ time.digits
  pub zone : ZoneInRange time.zone

pub time_range : (time : Time) → exists_time time ≡ true → TimeInRange time
time_range time e =
    let hours = hours_of time.clock in
    let minutes = minutes_of time.clock in
    let seconds = seconds_of time.clock in
    let p = parts_exist time e in
    let k = clock_range hours minutes seconds time.fraction p.0 in
    let f = fraction_range time.digits time.fraction p.1 in
    record { hours = k.0; minutes = k.1; seconds = k.2; digits = f.0; fraction = f.1; zone = zone_range time.zone p.2 }
