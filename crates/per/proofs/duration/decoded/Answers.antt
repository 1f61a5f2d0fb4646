use native.Mathlib.Omega.{arith}
use Rattle.per.proofs.Laws.AnyPer.{coding}
use Rattle.per.proofs.duration.decoded.Goals as goal

pub returns-in_err-bits-clause-answer : goal.returns-in_err-bits-clause-answer
returns-in_err-bits-clause-answer c =
    grind (arith, coding, c.in_ok-duration.ensures.value, c.in_err-bits.ensures, c.unpack_duration.ensures, c.from_residual-in_err-bits.ensures)
