use mathlib.Core.Path.{ap, ◌∙◌}
use Prim.Native.Nat.{ℕ, ◌%◌}
use Rattle.fields.specs.Bits.{bits_of}
use Rattle.fields.proofs.Laws.Bits.{bits_mod}
use Rattle.packing.specs.Groups.{group_bits}
use Rattle.packing.proofs.groups.Group.field.Goals as goal

pub returns-clause-bits : goal.returns-clause-bits
unfolding group_bits
returns-clause-bits c = let a = c.args in
    ap (λ (m : ℕ). bits_of a.width.count (a.number % m)) c.power.ensures ∙ bits_mod a.width.count a.number
