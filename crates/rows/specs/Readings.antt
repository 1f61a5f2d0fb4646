-- What is to be read for a form, in the standard's order, with no regard to what exists or how it should have been written.
use Rattle.std.specs.Prelude.{ℕ, zero, suc, ◌+◌, ◌-◌, ◌^◌, Bool, true, false, cond, List, ltb, ℤ, pos}
use Rattle.octets.specs.Found.{Found}
use Rattle.calendar.specs.Years.{year_at}
use Rattle.calendar.specs.declared.dates.Date.{Date}
use Rattle.calendar.specs.declared.years.Year.{Year}
use Rattle.texts.specs.declared.forms.ClockForm.{ClockForm}
use Rattle.texts.specs.declared.forms.DateForm.{DateForm}
use Rattle.texts.specs.declared.forms.Form.{Form}
use Rattle.texts.specs.declared.forms.TimeForm.{TimeForm}
use Rattle.texts.specs.declared.forms.ZoneForm.{ZoneForm}
use Rattle.texts.specs.declared.values.Clock.{Clock}
use Rattle.texts.specs.declared.values.Difference.{Difference}
use Rattle.texts.specs.declared.values.Time.{Time}
use Rattle.texts.specs.declared.values.Value.{Value}
use Rattle.texts.specs.declared.values.Zone.{Zone}
use Rattle.fields.specs.Bits.{unpacked}
use Rattle.fields.specs.Readings.{Reading, give, ◌>>=◌, a_ranged, a_free, a_natural, require, run}
use Rattle.types.specs.declared.years.YearRow.{YearRow}

-- The year after its two choice bits: immediate, near-future, near-past, or remainder, which is "3: other years", of any number.
unfoldable pub read_choice : ℕ → Reading ℤ
read_choice zero = a_ranged 16 >>= λ n. give (pos (2005 + n))
read_choice (suc zero) = a_ranged 256 >>= λ n. give (pos (2021 + n))
read_choice (suc (suc zero)) = a_ranged 256 >>= λ n. give (pos (1749 + n))
read_choice (suc (suc (suc c))) = a_free

-- The year of a row.
unfoldable pub read_year : YearRow → Reading ℤ
read_year YearRow.Year = a_ranged 4 >>= read_choice
read_year YearRow.AnyYear = a_free

-- A date after its year.
unfoldable pub read_day : Year → DateForm → Reading Date
read_day y DateForm.Y = give (Date.Y y)
read_day y DateForm.YM = do
  m ← a_ranged 12
  give (Date.YM y (m + 1))
read_day y DateForm.YMD = do
  m ← a_ranged 12
  d ← a_ranged 31
  give (Date.YMD y (m + 1) (d + 1))
read_day y DateForm.YD = do
  d ← a_ranged 366
  give (Date.YD y (d + 1))
read_day y DateForm.YW = do
  w ← a_ranged 53
  give (Date.YW y (w + 1))
read_day y DateForm.YWD = do
  w ← a_ranged 53
  d ← a_ranged 7
  give (Date.YWD y (w + 1) (d + 1))

unfoldable pub read_date : YearRow → DateForm → Reading Date
read_date row form = do
  y ← read_year row
  read_day (year_at y) form

unfoldable pub read_clock : ClockForm → Reading Clock
read_clock ClockForm.H = do
  h ← a_ranged 25
  give (Clock.H h)
read_clock ClockForm.HM = do
  h ← a_ranged 25
  m ← a_ranged 60
  give (Clock.HM h m)
read_clock ClockForm.HMS = do
  h ← a_ranged 25
  m ← a_ranged 60
  s ← a_ranged 61
  give (Clock.HMS h m s)

-- The number of a fraction after its 0 bit or its 1 bit: "a fraction negative" is nothing.
unfoldable pub read_extended : ℕ → Reading ℕ
read_extended zero = a_ranged 1000
read_extended (suc x) = a_natural

-- A fraction "of more than n digits" is nothing.
unfoldable pub read_fraction : ℕ → Reading ℕ
read_fraction zero = give 0
read_fraction (suc n) = do
  x ← a_ranged 2
  f ← read_extended x
  require (ltb f (10 ^ suc n)) (give f)

-- The minutes of a difference after its presence bit and its hours.
unfoldable pub read_minutes : ℕ → Reading ℕ
read_minutes zero = give 0
read_minutes (suc p) = a_ranged 59 >>= λ m. give (suc m)

-- A difference of hours that are counted from -15.
unfoldable pub difference_at : ℕ → ℕ → Difference
difference_at hours minutes =
    cond (ltb hours 15) (record { behind = true; hours = 15 - hours; minutes = minutes })
    (record { behind = false; hours = hours - 15; minutes = minutes })

unfoldable pub read_zone : ZoneForm → Reading Zone
read_zone ZoneForm.L = give Zone.L
read_zone ZoneForm.Z = give Zone.Z
read_zone ZoneForm.LD = do
  p ← a_ranged 2
  h ← a_ranged 32
  m ← read_minutes p
  give (Zone.LD (difference_at h m))

unfoldable pub read_time : TimeForm → Reading Time
read_time form = do
  c ← read_clock form.clock
  f ← read_fraction form.digits
  z ← read_zone form.zone
  give (record { clock = c; digits = form.digits; fraction = f; zone = z })

-- "Date-time: the date's bits, then the time's."
unfoldable pub read_value : YearRow → Form → Reading Value
read_value row (Form.Date f) = read_date row f >>= λ d. give (Value.Date d)
read_value row (Form.Time g) = read_time g >>= λ t. give (Value.Time t)
read_value row (Form.DateTime f g) = do
  d ← read_date row f
  t ← read_time g
  give (Value.DateTime d t)

-- What octets give at a form: a value, whatever is left after its bits; or nothing.
unfoldable pub read_octets : YearRow → Form → List ℕ → Found Bool Value
read_octets row form octets = run (read_value row form) (unpacked octets)
