use Rattle.type_texts.specs.TypeTexts.{time_at}
use Rattle.settings.proofs.joining.time_at.Goals as goal

pub returns : goal.returns
unfolding time_at
returns c = rw (c.clock_at-clock.ensures, c.zone_at-zone.ensures)
