use mathlib.Core.Path.{◌∙◌}
use Rattle.packing.proofs.Laws.Groups.{negative_bits}
use Rattle.packing.proofs.groups.Group.negative.Goals as goal

pub returns-clause-bits : goal.returns-clause-bits
returns-clause-bits c =
    c.counted.ensures.bits ∙ negative_bits _ _ _ _ c.integer_width-width.ensures.bits c.power.ensures c.saturating_sub.ensures
