use Rattle.unpacking.proofs.Laws.Presences.{last_told}
use Rattle.unpacking.proofs.duration.last_place.Goals as goal

pub overflow_sub-result : goal.overflow_sub-result
overflow_sub-result c = (last_told _ c.requires.octet c.requires.component).0

pub returns : goal.returns
returns c = (last_told _ c.requires.octet c.requires.component).1
