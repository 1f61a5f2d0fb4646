use mathlib.Core.Path.{refl}
use Rattle.calendar.proofs.Laws.Years.{from_zero}
use Rattle.calendar.proofs.years.Year.since_zero.Goals as goal

pub returns : goal.returns
returns c = from_zero _ c.args.years refl
