-- Which points and durations exist, and which of them a type holds.
use Rattle.std.specs.Prelude.{Bool, true, false}
use Rattle.types.specs.declared.types.AnyType.{AnyType}
use Rattle.durations.specs.Durations.{exists_duration}
use Rattle.held_values.specs.Existence as Existence
use Rattle.held_values.specs.Holding as Holding
use Rattle.any_values.specs.declared.AnyValue.{AnyValue}

-- "What exists": of durations all that is read exists, so that none meets 4.
abbrev pub exists_value : AnyValue → Bool
exists_value (AnyValue.Point v) = Existence.exists_value v
exists_value (AnyValue.Duration d) = exists_duration d

-- "A type holds a value, .. when": a type of durations holds each of them, since it has no restriction, so that none meets 5.
abbrev pub in_type : AnyType → AnyValue → Bool
in_type (AnyType.Point t) (AnyValue.Point v) = Holding.in_type t v
in_type (AnyType.Point t) (AnyValue.Duration d) = false
in_type AnyType.Duration (AnyValue.Point v) = false
in_type AnyType.Duration (AnyValue.Duration d) = true
in_type AnyType.ListedDuration (AnyValue.Point v) = false
in_type AnyType.ListedDuration (AnyValue.Duration d) = true
