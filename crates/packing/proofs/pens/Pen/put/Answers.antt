use native.Mathlib.Omega.{arith}
use Rattle.packing.proofs.Laws.Groups.{joined-fits, shifted_fits}
use Rattle.packing.proofs.Laws.Writing.{appended}
use Rattle.packing.proofs.pens.Pen.put.Goals as goal

pub overflow_mul-acc : goal.overflow_mul-acc
overflow_mul-acc c = record { fits = shifted_fits _ _ _ _ _ c.power.ensures c.args.self.within c.args.group.within (omega arith) }

pub overflow_add-acc : goal.overflow_add-acc
overflow_add-acc c = record { fits = joined-fits _ _ _ _ _ c.power.ensures c.args.self.within c.args.group.within (omega arith) }

pub returns : goal.returns
returns c = appended c.args.self c.args.group _ c.power.ensures _ _ _ c.flush.ensures
