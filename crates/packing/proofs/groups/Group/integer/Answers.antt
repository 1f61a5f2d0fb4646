use mathlib.Core.Path.{◌∙◌}
use Rattle.packing.proofs.Laws.Groups.{integer-bits}
use Rattle.packing.proofs.groups.Group.integer.Goals as goal

pub returns-clause-bits : goal.returns-clause-bits
returns-clause-bits c = c.counted.ensures.bits ∙ integer-bits _ _ c.integer_width.ensures.bits
