use native.Mathlib.Omega.{arith}
use borrow.Author.Tests.{lt-ltb, le-ltb}
use Rattle.line_replies.specs.Lines.{hex_digit}
use Rattle.lines.proofs.hex.hex_digit.Goals as goal

pub returns-then-number-lt10 : goal.returns-then-number-lt10
unfolding hex_digit
returns-then-number-lt10 c = rw (lt-ltb _ _ c.if-number-lt10.true)

pub returns : goal.returns
unfolding hex_digit
returns c = rw (le-ltb _ _ c.if-number-lt10.false) (omega arith)
