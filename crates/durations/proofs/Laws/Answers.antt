-- The number of what was read.
use mathlib.Core.Path.{◌≡◌, refl}
use Rattle.std.specs.Prelude.{Some, None}
use Rattle.durations.specs.Answers.{duration_number}
use Rattle.durations.specs.declared.Duration.{Duration}

-- The number of a duration is 0, and of nothing 3.
pub durations_told : (d : Duration) → (duration_number (Some d) ≡ 0) × (duration_number None ≡ 3)
durations_told d = (refl, refl)
