-- "A type may carry two restrictions": under limits a type carries exactly them, or one of them has no place; and the numbers of types.
use Rattle.std.specs.Prelude.{Option, Some, None}
use mathlib.Core.Path.{◌≡◌, refl, sym, ap, ◌∙◌}
use mathlib.Core.Bool.{Bool, true, false, cond, ◌&&◌, ◌||◌}
use Prim.Native.Nat.{ℕ}
use native.Mathlib.Omega.{arith}
use Rattle.calendar.specs.declared.years.Year.{Year}
use Rattle.types.specs.AnyTypes.{limited_to, limits_of}
use Rattle.types.specs.Types as Points
use Rattle.types.specs.Types.{carrying, every_year, has_date, has_time, name_of, no_limits, parts_of, placed, restricted, type_number}
use Rattle.types.specs.Types.{listed, unlimited_date, unlimited_time}
use Rattle.texts.specs.declared.forms.DateForm.{DateForm}
use Rattle.texts.specs.declared.forms.TimeForm.{TimeForm}
use Rattle.types.specs.declared.types.AnyType.{AnyType}
use Rattle.types.specs.declared.types.DateType.{DateType}
use Rattle.types.specs.declared.types.Limits.{Limits}
use Rattle.types.specs.declared.types.Parts.{Parts}
use Rattle.types.specs.declared.types.TimeType.{TimeType}
use Rattle.types.specs.declared.types.TypeRead.{TypeRead}
use Rattle.types.specs.declared.years.Years.{Years}
use Rattle.types.specs.declared.types.«Type».{«Type»}
use Rattle.types.proofs.Laws.Durations.{OfDurations, named, as_listed, duration_unlimited}

-- That settings differ from others in the restrictions alone, and have exactly those of these limits.
pub data Carried (limits : Limits) : Parts → Parts → Type 0 where
  date : (d : DateType) → limits.hour24 ≡ true
      → Carried limits (Parts.Date d) (Parts.Date (record { form = d.form; years = d.years; window = limits.window }))
  time : (t : TimeType) → limits.window ≡ None
      → Carried limits (Parts.Time t) (Parts.Time (record { form = t.form; hour24 = limits.hour24 }))
  date_time : (d : DateType) (t : TimeType)
      → Carried limits (Parts.DateTime d t)
      (Parts.DateTime (record { form = d.form; years = d.years; window = limits.window }) (record { form = t.form; hour24 = limits.hour24 }))

-- Types without a date: those of a time alone, and those of durations.
pub data NoDate : AnyType → Type 0 where
  time_alone : (t : «Type») (u : TimeType) → parts_of t ≡ Parts.Time u → NoDate (AnyType.Point t)
  undated : {t : AnyType} → OfDurations t → NoDate t

-- Types without a time: those of a date alone, and those of durations.
pub data NoTime : AnyType → Type 0 where
  date_alone : (t : «Type») (d : DateType) → parts_of t ≡ Parts.Date d → NoTime (AnyType.Point t)
  untimed : {t : AnyType} → OfDurations t → NoTime t

-- What a type gives under limits, and why.
pub data WhyLimited (limits : Limits) (t : AnyType) : TypeRead → Type 0 where
  carried : (u v : «Type») (p q : Parts) → t ≡ AnyType.Point u → name_of v ≡ name_of u → parts_of u ≡ p → parts_of v ≡ q → Carried limits p q
      → WhyLimited limits t (TypeRead.«Type» (AnyType.Point v))
  -- A type of durations stays as it is, where there is no restriction.
  unlimited : OfDurations t → limits.window ≡ None → limits.hour24 ≡ true → WhyLimited limits t (TypeRead.«Type» t)
  -- "a lowest and a highest year (only where there is a date, else refusal 1)"
  no-date : (lowest highest : Year) → limits.window ≡ Some (lowest, highest) → NoDate t → WhyLimited limits t TypeRead.Unreadable
  -- ""no hour 24" (only where there is a time, else refusal 1)"
  no-time : limits.hour24 ≡ false → NoTime t → WhyLimited limits t TypeRead.Unreadable

-- Limits leave the name, and the settings but for the restrictions.
pub carrying-kept : (limits : Limits) (t : «Type»)
    → (name_of (carrying limits t) ≡ name_of t) × (parts_of (carrying limits t) ≡ restricted limits (parts_of t))
carrying-kept limits («Type».Listed p) = (refl, refl)
carrying-kept limits («Type».Date w) = (refl, refl)
carrying-kept limits («Type».TimeOfDay h) = (refl, refl)
carrying-kept limits («Type».DateTime w h) = (refl, refl)

point_why : (limits : Limits) (t : «Type») → WhyLimited limits (AnyType.Point t) (limited_to limits (AnyType.Point t))
unfolding limited_to placed
point_why limits t = go (parts_of t) refl limits.window refl limits.hour24 refl
  where
    so : {p : Parts} → parts_of t ≡ p → Carried limits p (restricted limits p)
        → WhyLimited limits (AnyType.Point t) (TypeRead.«Type» (AnyType.Point (carrying limits t)))
    so e k = let c = carrying-kept limits t in carried t (carrying limits t) _ _ refl c.0 e (c.1 ∙ ap (restricted limits) e) k

    go : (p : Parts) → parts_of t ≡ p → (w : Option (Year × Year)) → limits.window ≡ w → (h : Bool) → limits.hour24 ≡ h
        → WhyLimited limits (AnyType.Point t)
        (cond ((every_year w || has_date p) && (h || has_time p)) (TypeRead.«Type» (AnyType.Point (carrying limits t))) TypeRead.Unreadable)
    go (Parts.Date d) e None f true g = so e (date d g)
    go (Parts.Date d) e (Some (lowest, highest)) f true g = so e (date d g)
    go (Parts.Date d) e None f false g = no-time g (date_alone t d e)
    go (Parts.Date d) e (Some (lowest, highest)) f false g = no-time g (date_alone t d e)
    go (Parts.Time u) e None f true g = so e (time u f)
    go (Parts.Time u) e None f false g = so e (time u f)
    go (Parts.Time u) e (Some (lowest, highest)) f h g = no-date lowest highest f (time_alone t u e)
    go (Parts.DateTime d u) e None f true g = so e (date_time d u)
    go (Parts.DateTime d u) e None f false g = so e (date_time d u)
    go (Parts.DateTime d u) e (Some (lowest, highest)) f true g = so e (date_time d u)
    go (Parts.DateTime d u) e (Some (lowest, highest)) f false g = so e (date_time d u)

no_place : (limits : Limits) (t : AnyType) → OfDurations t → WhyLimited limits t (cond (placed limits false false) (TypeRead.«Type» t) TypeRead.Unreadable)
unfolding placed
no_place limits t d = go limits.window refl limits.hour24 refl
  where
    go : (w : Option (Year × Year)) → limits.window ≡ w → (h : Bool) → limits.hour24 ≡ h
        → WhyLimited limits t (cond ((every_year w || false) && (h || false)) (TypeRead.«Type» t) TypeRead.Unreadable)
    go None f true g = unlimited d f g
    go None f false g = no-time g (untimed d)
    go (Some (lowest, highest)) f h g = no-date lowest highest f (undated d)

duration_why : (limits : Limits) (t : AnyType) → OfDurations t → WhyLimited limits t (limited_to limits t)
unfolding limited_to
duration_why limits t named = no_place limits t named
duration_why limits t as_listed = no_place limits t as_listed

pub limited_why : (limits : Limits) (t : AnyType) → WhyLimited limits t (limited_to limits t)
limited_why limits (AnyType.Point t) = point_why limits t
limited_why limits AnyType.Duration = duration_why limits AnyType.Duration named
limited_why limits AnyType.ListedDuration = duration_why limits AnyType.ListedDuration as_listed

same_limits : (limits : Limits) (w : Option (Year × Year)) (h : Bool) → limits.window ≡ w → limits.hour24 ≡ h → record { window = w; hour24 = h } ≡ limits
same_limits limits w h e f = λ i. record { window = sym e i; hour24 = sym f i }

limits_of_lem : (limits : Limits) (p q : Parts) → Carried limits p q → Points.limits_of q ≡ limits
limits_of_lem limits p q (date d h) = same_limits limits limits.window true refl h
limits_of_lem limits p q (time t w) = same_limits limits None limits.hour24 w refl
limits_of_lem limits p q (date_time d t) = same_limits limits limits.window limits.hour24 refl refl

abbrev type_in : AnyType → TypeRead → AnyType
type_in u (TypeRead.«Type» t) = t
type_in u TypeRead.Unreadable = u
type_in u TypeRead.NoRow = u

-- A type under limits carries exactly these.
pub limits_carried : (limits : Limits) (u t : AnyType) → limited_to limits u ≡ TypeRead.«Type» t → limits_of t ≡ limits
limits_carried limits u t = go (limited_to limits u) (limited_why limits u)
  where
    go : (r : TypeRead) → WhyLimited limits u r → r ≡ TypeRead.«Type» t → limits_of t ≡ limits
    go r (carried x v p q f n i j k) e = ap (λ (x : TypeRead). limits_of (type_in u x)) (sym e) ∙ ap Points.limits_of j ∙ limits_of_lem limits p q k
    go r (unlimited d w h) e =
        ap (λ (x : TypeRead). limits_of (type_in u x)) (sym e) ∙ duration_unlimited u d ∙ same_limits limits None true w h
    go r (no-date lowest highest w d) e = absurd (let z : ◌≡◌ {A = ℕ} 0 1 = cc in omega arith)
    go r (no-time h d) e = absurd (let z : ◌≡◌ {A = ℕ} 0 1 = cc in omega arith)

-- What `Type::date`, `Type::time` and `Type::date_time` give carries no limits.
pub built_unlimited : (f : DateForm) (y : Years) (t : TimeForm)
    → (limits_of (AnyType.Point (listed (Parts.Date (unlimited_date f y)))) ≡ no_limits)
    × (limits_of (AnyType.Point (listed (Parts.Time (unlimited_time t)))) ≡ no_limits)
    × (limits_of (AnyType.Point (listed (Parts.DateTime (unlimited_date f y) (unlimited_time t)))) ≡ no_limits)
built_unlimited f y t = (refl, refl, refl)

-- No limits: every year, and hour 24.
pub none_restricted : (no_limits.window ≡ None) × (no_limits.hour24 ≡ true)
none_restricted = (refl, refl)

-- "The seven numbers" of types: 1 for "settings ..; a restriction where it has no place", 2 for "two lists that don't make one row".
pub numbers_told : (t : AnyType) → (type_number (TypeRead.«Type» t) ≡ 0) × (type_number TypeRead.Unreadable ≡ 1) × (type_number TypeRead.NoRow ≡ 2)
numbers_told t = (refl, refl, refl)
