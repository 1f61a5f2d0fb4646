use native.Mathlib.Omega.{arith}
use Rattle.octets.proofs.Laws.Pieces.{span_end}
use Rattle.octets.proofs.find.Goals as goal

pub returns-then-s-from : goal.returns-then-s-from
returns-then-s-from c = omega (arith, span_end c.args.octet c.args.s.now c.args.from (omega arith))
