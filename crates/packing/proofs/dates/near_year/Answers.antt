use native.Mathlib.Omega.{arith}
use Rattle.fields.specs.Fields.{width, binary_digits, field_bits}
use Rattle.packing.proofs.Laws.Groups.{choice_0, choice_1, choice_2, choice_3_early, choice_3_late, two_fields}
use Rattle.packing.proofs.dates.near_year.Goals as goal

pub returns-then-n-lt1749-clause-bits : goal.returns-then-n-lt1749-clause-bits
unfolding field_bits width binary_digits
returns-then-n-lt1749-clause-bits c = let n = c.args.n in two_fields (choice_3_early n (omega arith)) c.join.ensures.bits c.field.ensures.bits c.integer.ensures.bits

pub returns-then-n-lt2005-clause-bits : goal.returns-then-n-lt2005-clause-bits
unfolding field_bits width binary_digits
returns-then-n-lt2005-clause-bits c = let n = c.args.n in two_fields (choice_2 n (omega arith) (omega arith)) c.join-then-n-lt2005.ensures.bits c.field-then-n-lt2005.ensures.bits c.field-then-n-lt2005-2.ensures.bits

pub returns-then-n-lt2021-clause-bits : goal.returns-then-n-lt2021-clause-bits
unfolding field_bits width binary_digits
returns-then-n-lt2021-clause-bits c = let n = c.args.n in two_fields (choice_0 n (omega arith) (omega arith)) c.join-then-n-lt2021.ensures.bits c.field-then-n-lt2021.ensures.bits c.field-then-n-lt2021-2.ensures.bits

pub returns-then-n-lt2277-clause-bits : goal.returns-then-n-lt2277-clause-bits
unfolding field_bits width binary_digits
returns-then-n-lt2277-clause-bits c = let n = c.args.n in two_fields (choice_1 n (omega arith) (omega arith)) c.join-then-n-lt2277.ensures.bits c.field-then-n-lt2277.ensures.bits c.field-then-n-lt2277-2.ensures.bits

pub returns-clause-bits : goal.returns-clause-bits
unfolding field_bits width binary_digits
returns-clause-bits c = let n = c.args.n in two_fields (choice_3_late n (omega arith)) c.join-2.ensures.bits c.field-2.ensures.bits c.integer-2.ensures.bits
