use mathlib.Core.Path.{refl}
use Rattle.fields.specs.Bits.{bits_of}
use Rattle.packing.specs.Groups.{group_bits}
use Rattle.packing.proofs.groups.Group.nothing.Goals as goal

pub returns-clause-bits : goal.returns-clause-bits
unfolding group_bits bits_of
returns-clause-bits c = refl
