-- Types of points and of durations: what a type's text gives.
use Rattle.std.specs.Prelude.{ℕ, Bool, true, false, cond}
use Rattle.answers.specs.declared.refusals.Refusal.{Refusal}
use Rattle.types.specs.Types as Points
use Rattle.types.specs.Types.{has_date, has_time, no_limits, parts_of, placed}
use Rattle.types.specs.declared.types.AnyType.{AnyType}
use Rattle.types.specs.declared.types.Limits.{Limits}
use Rattle.types.specs.declared.types.Name.{Name}
use Rattle.types.specs.declared.types.TypeFound.{TypeFound}
use Rattle.types.specs.declared.types.TypeRead.{TypeRead}

-- The type DURATION: "the name DURATION" (#101).
abbrev pub DURATION : AnyType
DURATION = AnyType.Duration

-- A type of durations: its settings as they are listed, or DURATION.
abbrev pub duration_type : Bool → AnyType
duration_type true = AnyType.ListedDuration
duration_type false = AnyType.Duration

-- A type's name, or that its settings are listed: what decides the tag.
abbrev pub name_of : AnyType → Name
name_of (AnyType.Point t) = Points.name_of t
name_of AnyType.Duration = Name.Duration
name_of AnyType.ListedDuration = Name.Listed

-- Whether the value has a date: a duration has none.
abbrev pub dated_type : AnyType → Bool
dated_type (AnyType.Point t) = has_date (parts_of t)
dated_type AnyType.Duration = false
dated_type AnyType.ListedDuration = false

-- Whether the value has a time: a duration has none.
abbrev pub timed_type : AnyType → Bool
timed_type (AnyType.Point t) = has_time (parts_of t)
timed_type AnyType.Duration = false
timed_type AnyType.ListedDuration = false

-- A type with the restrictions of these limits, and no other; a duration has none.
abbrev pub carrying : Limits → AnyType → AnyType
carrying limits (AnyType.Point t) = AnyType.Point (Points.carrying limits t)
carrying limits AnyType.Duration = AnyType.Duration
carrying limits AnyType.ListedDuration = AnyType.ListedDuration

-- A type under limits, or refusal 1: "a restriction where it has no place".
unfoldable pub limited_to : Limits → AnyType → TypeRead
limited_to limits t = cond (placed limits (dated_type t) (timed_type t)) (TypeRead.«Type» (carrying limits t)) TypeRead.Unreadable

-- What is found, as the code hands it on.
abbrev pub found_type : TypeRead → TypeFound
found_type (TypeRead.«Type» (AnyType.Point t)) = TypeFound.Point t
found_type (TypeRead.«Type» AnyType.Duration) = TypeFound.Duration false
found_type (TypeRead.«Type» AnyType.ListedDuration) = TypeFound.Duration true
found_type TypeRead.Unreadable = TypeFound.NoType Refusal.Settings
found_type TypeRead.NoRow = TypeFound.NoType Refusal.Rows

-- Those restrictions that a type carries.
abbrev pub limits_of : AnyType → Limits
limits_of (AnyType.Point t) = Points.limits_of (parts_of t)
limits_of AnyType.Duration = no_limits
limits_of AnyType.ListedDuration = no_limits

-- A type that settings or a name can give; any other is refusal 1.
abbrev pub well_formed : AnyType → Bool
well_formed (AnyType.Point t) = Points.well_formed t
well_formed AnyType.Duration = true
well_formed AnyType.ListedDuration = true

-- "A type's number of fraction digits is n, or 0 without Fn": a duration's type has no n.
abbrev pub fraction_digits : AnyType → ℕ
fraction_digits (AnyType.Point t) = Points.fraction_digits t
fraction_digits AnyType.Duration = 0
fraction_digits AnyType.ListedDuration = 0
