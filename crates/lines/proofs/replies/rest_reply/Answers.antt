use mathlib.Core.Path.{sym}
use native.Mathlib.Omega.{arith}
use lib.Seq.{length-take-le}
use Rattle.lines.proofs.Laws.Replies.{uncut, cut}
use Rattle.lines.proofs.replies.rest_reply.Goals as goal

pub returns-then-rest-second : goal.returns-then-rest-second
returns-then-rest-second c = let find = c.find-second in rw (uncut _ _ find.ensures c.if-rest-second.true) (c.unasked_reply.ensures)

pub slice_bounds-work_reply-end : goal.slice_bounds-work_reply-end
slice_bounds-work_reply-end c = sym (length-take-le _ _ (omega arith))

pub returns : goal.returns
returns c = let find = c.find-second in rw (cut _ _ find.ensures c.if-rest-second.false) (c.work_reply.ensures)
