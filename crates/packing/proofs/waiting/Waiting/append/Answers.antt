use mathlib.Core.Path.{refl}
use Rattle.packing.proofs.Laws.Waiting.{added_joined, added_put}
use Rattle.packing.proofs.waiting.Waiting.append.Goals as goal

pub returns-then-self-group-le56 : goal.returns-then-self-group-le56
returns-then-self-group-le56 c = added_joined _ c.args.self _ refl c.join.ensures.bits

pub returns : goal.returns
returns c = added_put c.args.self _ c.put.ensures refl refl
