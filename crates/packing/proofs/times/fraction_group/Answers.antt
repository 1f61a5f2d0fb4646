use Rattle.fields.specs.Fields.{width, binary_digits, field_bits}
use Rattle.packing.proofs.Laws.Groups.{no_fraction_lem, short-fraction, long-fraction, two_fields}
use Rattle.packing.proofs.times.fraction_group.Goals as goal

pub returns-then-digits-eq0-clause-bits : goal.returns-then-digits-eq0-clause-bits
returns-then-digits-eq0-clause-bits c = rw (no_fraction_lem _ _ c.if-digits-eq0.true) c.nothing.ensures.bits

pub returns-then-fraction-lt1000-clause-bits : goal.returns-then-fraction-lt1000-clause-bits
unfolding field_bits width binary_digits
returns-then-fraction-lt1000-clause-bits c = let some = c.if-digits-eq0.false in two_fields (short-fraction _ _ some c.if-fraction-lt1000.true) c.join.ensures.bits c.field-choice.ensures.bits c.field.ensures.bits

pub returns-clause-bits : goal.returns-clause-bits
unfolding field_bits width binary_digits
returns-clause-bits c = let some = c.if-digits-eq0.false in two_fields (long-fraction _ _ some c.if-fraction-lt1000.false) c.join-2.ensures.bits c.field-2.ensures.bits c.integer.ensures.bits
