use mathlib.Core.Path.{◌≡◌}
use Rattle.unpacking.specs.Steps.{number_at}
use Rattle.unpacking.proofs.numbers.gathered.Given as goal

abbrev pub invariant-loop-k : goal.invariant-loop-k
invariant-loop-k l = l.number ≡ number_at l.fn.octets l.fn.from.count l.k
