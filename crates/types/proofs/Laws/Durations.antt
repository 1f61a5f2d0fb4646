-- Types of durations.
use mathlib.Core.Path.{◌≡◌, refl, ap, sym}
use mathlib.Core.Bool.{Bool, true, false}
use Rattle.answers.specs.declared.refusals.Refusal.{Refusal}
use Rattle.types.specs.AnyTypes.{duration_type, found_type, fraction_digits, limits_of}
use Rattle.types.specs.Types as Points
use Rattle.types.specs.Types.{no_limits}
use Rattle.types.specs.declared.types.AnyType.{AnyType}
use Rattle.types.specs.declared.types.TypeFound.{TypeFound}
use Rattle.types.specs.declared.types.TypeRead.{TypeRead}
use Rattle.types.specs.declared.types.«Type».{«Type»}

-- The types of durations: DURATION, and its settings as they are listed.
pub data OfDurations : AnyType → Type 0 where
  named : OfDurations AnyType.Duration
  as_listed : OfDurations AnyType.ListedDuration

-- A duration's type carries no limits.
pub duration_unlimited : (t : AnyType) → OfDurations t → limits_of t ≡ no_limits
duration_unlimited t named = refl
duration_unlimited t as_listed = refl

-- "A type's number of fraction digits is n, or 0 without Fn": a duration's type has 0, and a point's its own.
pub duration-digits : (t : AnyType) → OfDurations t → fraction_digits t ≡ 0
duration-digits t named = refl
duration-digits t as_listed = refl

pub point-digits : (t : «Type») → fraction_digits (AnyType.Point t) ≡ Points.fraction_digits t
point-digits t = refl

-- ---- what is found, as the code hands it on

abbrev pub type_read : TypeFound → TypeRead
type_read (TypeFound.Point t) = TypeRead.«Type» (AnyType.Point t)
type_read (TypeFound.Duration listed) = TypeRead.«Type» (duration_type listed)
type_read (TypeFound.NoType Refusal.Rows) = TypeRead.NoRow
type_read (TypeFound.NoType why) = TypeRead.Unreadable

-- What is found is what a type's text and its limits give, and nothing is lost.
pub found_back : (r : TypeRead) {f : TypeFound} → f ≡ found_type r → r ≡ type_read f
found_back (TypeRead.«Type» (AnyType.Point t)) e = sym (ap type_read e)
found_back (TypeRead.«Type» AnyType.Duration) e = sym (ap type_read e)
found_back (TypeRead.«Type» AnyType.ListedDuration) e = sym (ap type_read e)
found_back TypeRead.Unreadable e = sym (ap type_read e)
found_back TypeRead.NoRow e = sym (ap type_read e)

-- A type of durations is the one or the other.
pub duration-type : (listed : Bool) → OfDurations (duration_type listed)
duration-type true = as_listed
duration-type false = named
