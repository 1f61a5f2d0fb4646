use mathlib.Core.Path.{refl, ◌∙◌}
use native.Mathlib.Omega.{arith}
use Rattle.packing.specs.Groups.{group_bits}
use Rattle.packing.proofs.Laws.Short.{short-packed, word_lt, word_of}
use Rattle.packing.proofs.writing.short.Goals as goal

pub overflow_mul-word : goal.overflow_mul-word
overflow_mul-word g c = let l = word_lt _ _ c.requires.most c.args.group.within c.power.ensures in omega arith

pub overflow_mul-word-2 : goal.overflow_mul-word-2
overflow_mul-word-2 g c = record { fits = word_lt _ _ c.requires.most c.args.group.within c.power.ensures }

pub returns : goal.returns
unfolding group_bits
returns g c =
    let h = c.requires.most in
    short-packed _ _ _ _ c.requires.room h (word_of _ _ h c.args.group.within c.power.ensures refl) (c.copy_from_slice.ensures.after ∙ c.to_be_bytes.ensures)
