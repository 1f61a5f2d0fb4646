use mathlib.Core.Path.{sym}
use Rattle.line_replies.specs.Lines.{worked}
use Rattle.lines.proofs.replies.work_reply.Goals as goal

pub returns-in_default : goal.returns-in_default
unfolding worked
returns-in_default c = let named = c.named in rw (sym named.ensures, c.in_default.is) (c.unasked_reply.ensures)

pub returns : goal.returns
unfolding worked
returns c = let named = c.named in rw (sym named.ensures, c.in-Some.is) (c.entry_reply.ensures)
