use native.Mathlib.Omega.{arith}
use Rattle.packing.specs.Groups.{group_bits}
use Rattle.packing.proofs.Laws.Groups.{joined-lt, joined-fits, shifted_fits, joined-bits}
use Rattle.packing.proofs.groups.Group.join.Goals as goal

pub overflow_mul-result : goal.overflow_mul-result
overflow_mul-result c = record { fits = shifted_fits _ _ _ _ _ c.power.ensures c.args.self.within c.args.second.within (omega arith) }

pub overflow_add-result : goal.overflow_add-result
overflow_add-result c = record { fits = joined-fits _ _ _ _ _ c.power.ensures c.args.self.within c.args.second.within (omega arith) }

pub invariant_of-result : goal.invariant_of-result
invariant_of-result c = record { within = joined-lt _ _ _ _ _ c.power.ensures c.args.self.within c.args.second.within }

pub returns-clause-bits : goal.returns-clause-bits
unfolding group_bits
returns-clause-bits c = joined-bits _ _ _ _ _ c.power.ensures c.args.self.within c.args.second.within
