-- "What exists": times, differences and values. Which dates exist is the calendar's.
use Rattle.std.specs.Prelude.{ℕ, ◌+◌, ◌-◌, ◌*◌, ◌%◌, ◌^◌, Bool, true, cond, ◌&&◌, leb, ltb, eqb}
use Rattle.calendar.specs.Dates.{exists_of}
use Rattle.texts.specs.declared.values.Clock.{Clock}
use Rattle.texts.specs.declared.values.Difference.{Difference}
use Rattle.texts.specs.declared.values.Zone.{Zone}
use Rattle.texts.specs.declared.values.Time.{Time}
use Rattle.texts.specs.declared.values.Value.{Value}

-- The hours of a clock.
abbrev pub hours_of : Clock → ℕ
hours_of (Clock.H hours) = hours
hours_of (Clock.HM hours minutes) = hours
hours_of (Clock.HMS hours minutes seconds) = hours

-- The minutes of a clock, 0 where it does not show them.
abbrev pub minutes_of : Clock → ℕ
minutes_of (Clock.H hours) = 0
minutes_of (Clock.HM hours minutes) = minutes
minutes_of (Clock.HMS hours minutes seconds) = minutes

-- The seconds of a clock, 0 where it does not show them.
abbrev pub seconds_of : Clock → ℕ
seconds_of (Clock.H hours) = 0
seconds_of (Clock.HM hours minutes) = 0
seconds_of (Clock.HMS hours minutes seconds) = seconds

-- "Hours 0 to 24; at 24 all smaller fields and the fraction are 0. Minutes 0 to 59. Seconds 0 to 60": second 60 only where `exists_leap` has it.
unfoldable pub exists_clock : ℕ → ℕ → ℕ → ℕ → Bool
exists_clock hours minutes seconds fraction =
    cond (eqb hours 24) (eqb minutes 0 && eqb seconds 0 && eqb fraction 0) (leb hours 23 && leb minutes 59 && leb seconds 60)

-- "HFn, HMFn, HMSFn, with n from 1 to 9": at most nine digits, and the number that they give.
unfoldable pub exists_fraction : ℕ → ℕ → Bool
exists_fraction digits fraction = leb digits 9 && ltb fraction (10 ^ digits)

-- "Difference hours 0 to 15, minutes 0 to 59; a zero difference has `+`, and `-00` is refusal 4", whatever its minutes.
unfoldable pub exists_difference : Difference → Bool
exists_difference difference = leb difference.hours 15 && leb difference.minutes 59 && cond difference.behind (ltb 0 difference.hours) true

-- "nothing (L), `Z`, or a sign with two-digit hours and optionally `:` and minutes (LD)": only a difference can fail to exist.
abbrev pub exists_zone : Zone → Bool
exists_zone Zone.L = true
exists_zone Zone.Z = true
exists_zone (Zone.LD difference) = exists_difference difference

-- #102, "UTC puts a leap second at the end of 23:59 UTC": the minute of the day that an hour and a minute are, and how many a day has.
abbrev pub minute_of : ℕ → ℕ → ℕ
minute_of hours minutes = hours * 60 + minutes

abbrev pub day_minutes : ℕ
day_minutes = 1440

-- "local time less the difference, around the day": a difference behind UTC is less than 0.
unfoldable pub less_difference : ℕ → Difference → ℕ
less_difference local difference =
    cond difference.behind ((local + minute_of difference.hours difference.minutes) % day_minutes)
    ((local + (day_minutes - minute_of difference.hours difference.minutes % day_minutes)) % day_minutes)

-- "with Z, second 60 is accepted only at 23:59; with a difference, only where local time less the difference, around the day, is 23:59 ..; for a
-- local time without one we can't know and keep accepting it."
abbrev pub last_minute : ℕ → Zone → Bool
last_minute local Zone.L = true
last_minute local Zone.Z = eqb local (minute_of 23 59)
last_minute local (Zone.LD difference) = eqb (less_difference local difference) (minute_of 23 59)

-- All other seconds are in any minute. The zone is an argument of its own, since a time may be judged by another's difference.
unfoldable pub exists_leap : ℕ → ℕ → ℕ → Zone → Bool
exists_leap hours minutes seconds zone = cond (eqb seconds 60) (last_minute (minute_of hours minutes) zone) true

-- A time exists where its clock, its fraction and its zone do, and a second 60 is where it can be.
unfoldable pub exists_time : Time → Bool
exists_time time =
    exists_clock (hours_of time.clock) (minutes_of time.clock) (seconds_of time.clock) time.fraction
    && exists_fraction time.digits time.fraction
    && exists_zone time.zone
    && exists_leap (hours_of time.clock) (minutes_of time.clock) (seconds_of time.clock) time.zone

-- "A value is a date, a time, or a date with a time".
abbrev pub exists_value : Value → Bool
exists_value (Value.Date date) = exists_of date
exists_value (Value.Time time) = exists_time time
exists_value (Value.DateTime date time) = exists_of date && exists_time time
