use mathlib.Core.Path.{sym}
use Prim.Native.Nat.{◌≤◌}
use native.Mathlib.Omega.{arith}
use lib.ListN.{length}
use lib.Seq.{length-take-le}
use Rattle.types.specs.Types.{no_limits}
use Rattle.line_replies.specs.Lines.{gives_octets, result_shown}
use Rattle.exchanges.proofs.Laws.Results.{answer_most}
use Rattle.lines.proofs.Laws.Replies.{answer_put, length_most, number_most, reply_done, reply_refused}
use Rattle.lines.proofs.replies.answer_reply.Goals as goal
use Rattle.lines.proofs.replies.answer_reply.Goals.{After-answer-outcome}

pub number_reply-requires : goal.number_reply-requires
number_reply-requires c = (number_most _ _ c.answer-outcome.ensures.value, c.requires)

pub returns-then-outcome-ne0-clause-stored_text : goal.returns-then-outcome-ne0-clause-stored_text
returns-then-outcome-ne0-clause-stored_text c =
    let a = c.args in
    let o = c.answer-outcome in
    answer_put (result_shown (gives_octets a.entry)) _ _ (λ result bits. answer_most result bits a.entry a.settings.now no_limits a.input.now)
    o.ensures.value o.ensures.room_after
    (rw (reply_refused (result_shown (gives_octets a.entry)) o.result.number o.result.length.count o.new.room c.if-outcome-ne0.true) c.number_reply.ensures.stored_text)

-- The result lies in the buffer.
fits : (k : After-answer-outcome) → k.answer-outcome.result.length.count ≤ length k.answer-outcome.new.room
fits k =
    let l = length_most _ _ k.answer-outcome.ensures.value in
    omega (arith, k.answer-outcome.auto.room)

pub slice_bounds-buffer-end : goal.slice_bounds-buffer-end
slice_bounds-buffer-end c = fits (goal.at.slice_bounds-buffer-end c).After-answer-outcome

pub slice_bounds-result_reply-end : goal.slice_bounds-result_reply-end
slice_bounds-result_reply-end c = sym (length-take-le _ _ (fits (goal.at.slice_bounds-result_reply-end c).After-answer-outcome))

pub returns-clause-stored_text : goal.returns-clause-stored_text
returns-clause-stored_text c =
    let a = c.args in
    let o = c.answer-outcome in
    answer_put (result_shown (gives_octets a.entry)) _ _ (λ result bits. answer_most result bits a.entry a.settings.now no_limits a.input.now)
    o.ensures.value o.ensures.room_after
    (rw (reply_done (result_shown (gives_octets a.entry)) o.result.number o.result.length.count o.new.room (omega (arith, c.if-outcome-ne0.false)), ← c.gives_octets.ensures) c.result_reply.ensures.stored_text)
