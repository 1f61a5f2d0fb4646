-- Which types are well-formed: those that settings or the name of a useful time type can give, under any limits, and no others.
use Rattle.std.specs.Prelude.{Option, None}
use mathlib.Core.Path.{◌≡◌, refl}
use Rattle.calendar.specs.declared.years.Year.{Year}
use mathlib.Core.Bool.{Bool, true, false}
use Prim.Native.Nat.{ℕ, ◌≤◌}
use native.Mathlib.Omega.{arith}
use borrow.Author.Tests.{le-leb, leb-true}
use Rattle.octets.proofs.Laws.Cases.{both}
use Rattle.texts.specs.declared.forms.ClockForm.{ClockForm}
use Rattle.texts.specs.declared.forms.DateForm.{DateForm}
use Rattle.texts.specs.declared.forms.ZoneForm.{ZoneForm}
use Rattle.types.specs.AnyTypes.{DURATION, name_of, well_formed}
use Rattle.types.specs.Types as Points
use Rattle.types.specs.Types.{DATE, TIME-OF-DAY, DATE-TIME, few_digits, listed, parts_of, well_parts}
use Rattle.types.specs.Years.{names, some_year}
use Rattle.types.specs.declared.types.AnyType.{AnyType}
use Rattle.types.specs.declared.types.DateType.{DateType}
use Rattle.types.specs.declared.types.Name.{Name}
use Rattle.types.specs.declared.types.Parts.{Parts}
use Rattle.types.specs.declared.types.TimeType.{TimeType}
use Rattle.types.specs.declared.years.YearSetting.{YearSetting}
use Rattle.types.specs.declared.years.Years.{Years}
use Rattle.types.specs.declared.types.«Type».{«Type»}
use Rattle.types.proofs.Laws.Years.{named_some, some_named}

-- `Year` is there: one is named.
abbrev pub SomeYear : Years → Type 0
SomeYear years = (y : YearSetting) × (names years y ≡ true)

-- What settings and names give, whatever the restrictions.
pub data Givable : AnyType → Type 0 where
  date-list : (d : DateType) → SomeYear d.years → Givable (AnyType.Point (listed (Parts.Date d)))
  time-list : (t : TimeType) → t.form.digits ≤ 9 → Givable (AnyType.Point (listed (Parts.Time t)))
  date-time-list : (d : DateType) (t : TimeType) → SomeYear d.years → t.form.digits ≤ 9 → Givable (AnyType.Point (listed (Parts.DateTime d t)))
  duration-list : Givable AnyType.ListedDuration
  DATE-named : (w : Option (Year × Year)) → Givable (AnyType.Point («Type».Date w))
  TIME-OF-DAY-named : (h : Bool) → Givable (AnyType.Point («Type».TimeOfDay h))
  DATE-TIME-named : (w : Option (Year × Year)) (h : Bool) → Givable (AnyType.Point («Type».DateTime w h))
  DURATION-named : Givable AnyType.Duration

-- ---- what is given is well-formed

pub given_well : (t : AnyType) → Givable t → well_formed t ≡ true
given_well t (date-list d y) = some_named d.years y.0 y.1
given_well t (time-list u k) = rw (le-leb u.form.digits 9 k)
given_well t (date-time-list d u y k) = rw (some_named d.years y.0 y.1, le-leb u.form.digits 9 k)
given_well t duration-list = refl
given_well t (DATE-named w) = refl
given_well t (TIME-OF-DAY-named h) = refl
given_well t (DATE-TIME-named w h) = refl
given_well t DURATION-named = refl

-- ---- and what is well-formed is given

pub well_given : (t : AnyType) → well_formed t ≡ true → Givable t
well_given (AnyType.Point («Type».Listed (Parts.Date d))) h = date-list d (named_some d.years h)
well_given (AnyType.Point («Type».Listed (Parts.Time t))) h = time-list t (leb-true t.form.digits 9 h)
well_given (AnyType.Point («Type».Listed (Parts.DateTime d t))) h =
    let p = both (some_year d.years) (few_digits t) h in date-time-list d t (named_some d.years p.0) (leb-true t.form.digits 9 p.1)
well_given (AnyType.Point («Type».Date w)) h = DATE-named w
well_given (AnyType.Point («Type».TimeOfDay x)) h = TIME-OF-DAY-named x
well_given (AnyType.Point («Type».DateTime w x)) h = DATE-TIME-named w x
well_given AnyType.Duration h = DURATION-named
well_given AnyType.ListedDuration h = duration-list

-- The settings of a well-formed type of points are such as are listed.
pub well-settings : (t : «Type») → Points.well_formed t ≡ true → well_parts (parts_of t) ≡ true
unfolding some_year
well-settings («Type».Listed p) h = h
well-settings («Type».Date w) h = refl
well-settings («Type».TimeOfDay x) h = refl
well-settings («Type».DateTime w x) h = refl

-- ---- names

-- "YMD with Year=Basic", whatever the restriction.
abbrev ymd_in : Option (Year × Year) → DateType
ymd_in w = record { form = DateForm.YMD; years = Years.Plain (record { basic = true; proleptic = false }); window = w }

-- "HMS with L", whatever the restriction.
abbrev hms_with : Bool → TimeType
hms_with h = record { form = record { clock = ClockForm.HMS; digits = 0; zone = ZoneForm.L }; hour24 = h }

-- "YMD with Year=Basic, HMS with L, and both together": the settings that the names stand for, whatever the restrictions.
pub DATE-settings : (w : Option (Year × Year)) → parts_of («Type».Date w) ≡ Parts.Date (ymd_in w)
DATE-settings w = refl

pub TIME-OF-DAY-settings : (h : Bool) → parts_of («Type».TimeOfDay h) ≡ Parts.Time (hms_with h)
TIME-OF-DAY-settings h = refl

pub DATE-TIME-settings : (w : Option (Year × Year)) (h : Bool) → parts_of («Type».DateTime w h) ≡ Parts.DateTime (ymd_in w) (hms_with h)
DATE-TIME-settings w h = refl

-- A type of a name is told apart by it; settings that are listed have none.
pub names_told : (p : Parts) (w : Option (Year × Year)) (h : Bool)
    → (name_of (AnyType.Point (listed p)) ≡ Name.Listed)
    × (name_of (AnyType.Point («Type».Date w)) ≡ Name.Date)
    × (name_of (AnyType.Point («Type».TimeOfDay h)) ≡ Name.TimeOfDay)
    × (name_of (AnyType.Point («Type».DateTime w h)) ≡ Name.DateTime)
    × (name_of AnyType.Duration ≡ Name.Duration)
    × (name_of AnyType.ListedDuration ≡ Name.Listed)
names_told p w h = (refl, refl, refl, refl, refl, refl)

-- The name of durations is that of the type DURATION alone.
pub DURATION-only : (t : AnyType) → name_of t ≡ Name.Duration → t ≡ DURATION
DURATION-only (AnyType.Point («Type».Listed p)) e = absurd (let z : ◌≡◌ {A = ℕ} 0 1 = cc in omega arith)
DURATION-only (AnyType.Point («Type».Date w)) e = absurd (let z : ◌≡◌ {A = ℕ} 0 1 = cc in omega arith)
DURATION-only (AnyType.Point («Type».TimeOfDay h)) e = absurd (let z : ◌≡◌ {A = ℕ} 0 1 = cc in omega arith)
DURATION-only (AnyType.Point («Type».DateTime w h)) e = absurd (let z : ◌≡◌ {A = ℕ} 0 1 = cc in omega arith)
DURATION-only AnyType.Duration e = refl
DURATION-only AnyType.ListedDuration e = absurd (let z : ◌≡◌ {A = ℕ} 0 1 = cc in omega arith)

-- The types DATE, TIME-OF-DAY, DATE-TIME and DURATION are those of that name, without a restriction.
pub ready_named :
    (DATE ≡ «Type».Date None)
    × (TIME-OF-DAY ≡ «Type».TimeOfDay true)
    × (DATE-TIME ≡ «Type».DateTime None true)
    × (DURATION ≡ AnyType.Duration)
ready_named = (refl, refl, refl, refl)
