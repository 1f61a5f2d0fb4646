use mathlib.Core.Path.{refl}
use Rattle.answers.specs.Counts.{octets_for}
use Rattle.answers.proofs.counts.Bits.octets.Goals as goal

pub returns : goal.returns
unfolding octets_for
returns c = refl
