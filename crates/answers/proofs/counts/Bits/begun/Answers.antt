use mathlib.Core.Path.{refl}
use Rattle.answers.specs.Counts.{begun_by}
use Rattle.answers.proofs.counts.Bits.begun.Goals as goal

pub returns : goal.returns
unfolding begun_by
returns c = refl
