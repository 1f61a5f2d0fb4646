-- What is answered for what was read.
use Rattle.std.specs.Prelude.{ℕ, Option, Some, None}
use Rattle.answers.specs.Refusals.{number_of}
use Rattle.answers.specs.declared.refusals.Refusal.{Refusal}
use Rattle.durations.specs.declared.Duration.{Duration}

-- The number of what was read: 0 for a duration, and 3 where there is none.
abbrev pub duration_number : Option Duration → ℕ
duration_number (Some d) = 0
duration_number None = number_of Refusal.Form
