-- The readings of rows in the words of the code's tests.
use mathlib.Core.Path.{◌≡◌, refl, sym}
use mathlib.Core.Bool.{Bool, true, false, false≢true}
use Prim.Native.Nat.{ℕ, zero, suc, ◌^◌, ◌≤◌}
use native.Mathlib.Omega.{arith}
use lib.Dec.{ltb}
use Rattle.octets.specs.Found.{nothing}
use Rattle.texts.specs.declared.forms.ClockForm.{ClockForm}
use Rattle.texts.specs.declared.forms.DateForm.{DateForm}
use Rattle.texts.specs.declared.forms.TimeForm.{TimeForm}
use Rattle.calendar.specs.Years.{year_at}
use Rattle.types.specs.declared.years.YearRow.{YearRow}
use Rattle.fields.specs.Bits.{BitString}
use Rattle.fields.specs.Fields.{binary_digits, width}
use Rattle.fields.specs.Readings.{Reading, give, ◌>>=◌, a_ranged, a_free, a_natural, require, run}
use Rattle.rows.specs.Readings.{read_choice, read_clock, read_date, read_day, read_extended, read_fraction, read_minutes, read_time, read_year, read_zone}
use Rattle.unpacking.proofs.Laws.Steps.{steps}
use Rattle.unpacking.specs.Steps.{after_hours}

-- The widths of the ranges.
pub widths : (width 2 ≡ 1) × (width 3 ≡ 2) × (width 4 ≡ 2) × (width 7 ≡ 3) × (width 12 ≡ 4) × (width 16 ≡ 4) × (width 25 ≡ 5) × (width 31 ≡ 5)
    × (width 32 ≡ 5) × (width 53 ≡ 6) × (width 59 ≡ 6) × (width 60 ≡ 6) × (width 61 ≡ 6) × (width 64 ≡ 6) × (width 256 ≡ 8) × (width 366 ≡ 9)
    × (width 999 ≡ 10) × (width 1000 ≡ 10)
unfolding width binary_digits
widths = (refl, refl, refl, refl, refl, refl, refl, refl, refl, refl, refl, refl, refl, refl, refl, refl, refl, refl)

-- The years of the rows.
pub year_chosen : read_year YearRow.Year ≡ (a_ranged 4 >>= read_choice)
unfolding read_year
year_chosen = refl

pub year_free : read_year YearRow.AnyYear ≡ a_free
unfolding read_year
year_free = refl

-- Choice 3 of a year, which is remainder, and the choices that no two bits make.
pub other_choice : (n : ℕ) → 3 ≤ n → read_choice n ≡ a_free
unfolding read_choice
other_choice zero h = absurd (omega arith)
other_choice (suc zero) h = absurd (omega arith)
other_choice (suc (suc zero)) h = absurd (omega arith)
other_choice (suc (suc (suc n))) h = refl

-- A date has its year in front.
pub date_year : (row : YearRow) (form : DateForm) → read_date row form ≡ (read_year row >>= λ y. read_day (year_at y) form)
unfolding read_date
date_year row form = refl

-- Every clock has its hours in front.
pub clock_hours : (form : ClockForm) → read_clock form ≡ (a_ranged 25 >>= λ h. after_hours h form)
unfolding read_clock
clock_hours ClockForm.H = refl
clock_hours ClockForm.HM = refl
clock_hours ClockForm.HMS = refl

-- A time has its clock in front, then its fraction and its zone.
pub time_parts : (form : TimeForm) → read_time form ≡ (read_clock form.clock >>= λ c. read_fraction form.digits >>= λ f. read_zone form.zone
    >>= λ z. give (record { clock = c; digits = form.digits; fraction = f; zone = z }))
unfolding read_time
time_parts form = refl

-- What a bit says.
pub extended-ranged : (n : ℕ) → n ≡ 0 → read_extended n ≡ a_ranged 1000
unfolding read_extended
extended-ranged zero h = refl
extended-ranged (suc n) h = absurd (omega arith)

pub extended-free : (n : ℕ) → 1 ≤ n → read_extended n ≡ a_natural
unfolding read_extended
extended-free zero h = absurd (omega arith)
extended-free (suc n) h = refl

pub minutes_none : (n : ℕ) → n ≡ 0 → read_minutes n ≡ give 0
unfolding read_minutes
minutes_none zero h = refl
minutes_none (suc n) h = absurd (omega arith)

pub minutes_some : (n : ℕ) → 1 ≤ n → read_minutes n ≡ (a_ranged 59 >>= λ m. give (suc m))
unfolding read_minutes
minutes_some zero h = absurd (omega arith)
minutes_some (suc n) h = refl

-- A fraction that has no digits, and one that has.
pub fraction_none : (n : ℕ) → n ≡ 0 → read_fraction n ≡ give 0
unfolding read_fraction
fraction_none zero h = refl
fraction_none (suc n) h = absurd (omega arith)

pub fraction_some : (n : ℕ) → 1 ≤ n → read_fraction n ≡ (a_ranged 2 >>= λ x. read_extended x >>= λ f. require (ltb f (10 ^ n)) (give f))
unfolding read_fraction
fraction_some zero h = absurd (omega arith)
fraction_some (suc n) h = refl

-- A reading after a test.
pub required : {A : Type 0} (t : Bool) (r : Reading A) → t ≡ true → require t r ≡ r
unfolding require
required true r h = refl
required false r h = absurd (false≢true h)

pub not_required : {A : Type 0} (t : Bool) (r : Reading A) (s : BitString) → t ≡ false → run (require t r) s ≡ nothing
unfolding require run
not_required true r s h = absurd (false≢true (sym h))
not_required false r s h = refl

-- The readings of rows, for the goals of the code.
pub ruleset rows = (
  steps,
  widths,
  year_chosen,
  year_free,
  other_choice,
  date_year,
  clock_hours,
  time_parts,
  extended-ranged,
  extended-free,
  minutes_none,
  minutes_some,
  fraction_none,
  fraction_some,
  required,
  not_required,
)
