-- "The seven numbers."
use Rattle.std.specs.Prelude.{ℕ}
use Rattle.answers.specs.declared.refusals.Refusal.{Refusal}

-- The number of each refusal; success is 0.
abbrev pub number_of : Refusal → ℕ
number_of Refusal.Settings = 1
number_of Refusal.Rows = 2
number_of Refusal.Form = 3
number_of Refusal.Existence = 4
number_of Refusal.Membership = 5
number_of Refusal.Encoding = 6
number_of Refusal.Room = 7
