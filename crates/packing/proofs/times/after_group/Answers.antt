use Rattle.fields.proofs.Laws.Fields.{layout-append}
use Rattle.packing.proofs.times.after_group.Goals as goal

pub returns-clause-bits : goal.returns-clause-bits
returns-clause-bits c = rw (c.join.ensures.bits, c.fraction_group.ensures.bits, c.zone_group.ensures.bits, layout-append)
