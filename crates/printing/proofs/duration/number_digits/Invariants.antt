use mathlib.Core.Path.{◌≡◌}
use Prim.Native.Nat.{◌+◌, ◌-◌}
use Rattle.texts.specs.Years.{size_in}
use Rattle.durations.specs.Texts.{number_digits}
use Rattle.printing.proofs.duration.number_digits.Given as goal

abbrev pub invariant-loop-width : goal.invariant-loop-width
invariant-loop-width l = l.width + size_in (9 - l.width) l.left ≡ number_digits l.number
