use mathlib.Core.Path.{sym}
use native.Mathlib.Omega.{arith}
use Rattle.packing.proofs.Laws.Groups.{width_8, width_16, width_24, width_32}
use Rattle.packing.proofs.groups.Group.integer_width.Goals as goal

pub returns-then-n-lt128-clause-bits : goal.returns-then-n-lt128-clause-bits
returns-then-n-lt128-clause-bits c = sym (width_8 c.args.n (omega arith))

pub returns-then-n-lt32768-clause-bits : goal.returns-then-n-lt32768-clause-bits
returns-then-n-lt32768-clause-bits c = sym (width_16 c.args.n (omega arith) (omega arith))

pub returns-then-n-lt8388608-clause-bits : goal.returns-then-n-lt8388608-clause-bits
returns-then-n-lt8388608-clause-bits c = sym (width_24 c.args.n (omega arith) (omega arith))

pub returns-clause-bits : goal.returns-clause-bits
returns-clause-bits c = sym (width_32 c.args.n (omega arith))
