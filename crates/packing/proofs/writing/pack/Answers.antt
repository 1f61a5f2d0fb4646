use mathlib.Core.Path.{◌∙◌}
use Rattle.packing.proofs.Laws.Packed.{packed-fields}
use Rattle.packing.proofs.Laws.Parts.{layout_parts}
use Rattle.packing.proofs.writing.pack.Goals as goal

pub returns-then-date-clock-le56 : goal.returns-then-date-clock-le56
returns-then-date-clock-le56 c =
    let e = layout_parts _ _ c.date_part-date.ensures.bits c.clock_part-clock.ensures.bits c.after_part-after.ensures.bits in
    c.short.ensures ∙ packed-fields _ _ (c.join-then-date-clock-le56.ensures.bits ∙ rw c.join.ensures.bits e)

pub returns : goal.returns
returns c =
    let e = layout_parts _ _ c.date_part-date.ensures.bits c.clock_part-clock.ensures.bits c.after_part-after.ensures.bits in
    c.write.ensures ∙ packed-fields _ _ e
