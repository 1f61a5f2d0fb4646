use mathlib.Core.Path.{◌∙◌}
use Rattle.packing.proofs.Laws.Durations.{presence-bit}
use Rattle.packing.proofs.duration.presence.Goals as goal

pub returns-clause-bits : goal.returns-clause-bits
returns-clause-bits c = c.field.ensures.bits ∙ presence-bit c.args.there
