use Rattle.fields.specs.Fields.{width, binary_digits, field_bits}
use Rattle.packing.proofs.Laws.Groups.{two_fields}
use Rattle.packing.proofs.Laws.Durations.{number_below, number_inside, number_above}
use Rattle.packing.proofs.duration.extended.Goals as goal
use Rattle.packing.proofs.duration.extended.Goals.{else-range-number-via-then-range-number+else-number-range, else-range-number-via-else-range-number}

pub returns-then-number-range-clause-bits : goal.returns-then-number-range-clause-bits
unfolding field_bits width binary_digits
returns-then-number-range-clause-bits c =
    let r = c.args.range in
    let e = number_inside _ _ _ c.if-range-number.true c.if-number-range.true in
    two_fields e c.join.ensures.bits c.field-inside.ensures.bits (rw (← c.requires.width) c.field.ensures.bits)

pub returns-clause-bits : goal.returns-clause-bits
unfolding field_bits width binary_digits
returns-clause-bits c = two_fields (elim c.else-range-number.branch [
  | else-range-number-via-then-range-number+else-number-range w ↦ number_above _ _ _ w.if-range-number.true w.if-number-range.false
  | else-range-number-via-else-range-number w ↦ number_below _ _ _ w.if-range-number.false
]) c.join-2.ensures.bits c.field-2.ensures.bits c.integer.ensures.bits
