use mathlib.Core.Path.{◌∙◌}
use mathlib.Core.List.{◌++◌, append_assoc}
use native.Mathlib.Omega.{arith}
use Rattle.packing.specs.Groups.{group_bits}
use Rattle.packing.proofs.Laws.Writing.{Wrote, wrote_put, wrote_finish, wrote_first, length_group, length_two, length_three, zeros}
use Rattle.packing.proofs.Laws.Packed.{packed-bits}
use Rattle.packing.proofs.writing.write.Goals as goal
use Rattle.packing.proofs.writing.write.Goals.{After-put-dated, After-put-end, After-put-timed}

-- What the buffer holds after each group.
dated : (c : After-put-dated) → Wrote zeros (group_bits c.args.date) c.put-dated.new.out c.put-dated.result
dated c = wrote_first c.front.ensures.octets c.front.ensures.held c.put-dated.ensures

timed : (c : After-put-timed) → let a = c.args in
    Wrote zeros (group_bits a.date ++ group_bits a.clock) c.put-timed.new.out c.put-timed.result
timed c = wrote_put (dated c.before.before.before) c.put-timed.ensures

ended : (c : After-put-end) → let a = c.args in
    Wrote zeros ((group_bits a.date ++ group_bits a.clock) ++ group_bits a.after) c.put-end.new.out c.put-end.result
ended c = wrote_put (timed c.before.before.before) c.put-end.ensures

pub put-timed-requires-clause-room : goal.put-timed-requires-clause-room
put-timed-requires-clause-room c = let w = dated (goal.at.put-timed-requires-clause-room c).After-put-dated in
    omega (arith, w.place, w.len, length_group c.args.date)

pub put-end-requires-clause-room : goal.put-end-requires-clause-room
put-end-requires-clause-room c = let w = timed (goal.at.put-end-requires-clause-room c).After-put-timed in
    omega (arith, w.place, w.len, length_two c.args.date c.args.clock)

pub finish-requires : goal.finish-requires
finish-requires c = let w = ended (goal.at.finish-requires c).After-put-end in
    omega (arith, w.place, w.len, length_three c.args.date c.args.clock c.args.after)

pub returns : goal.returns
returns c =
    let a = c.args in
    let n = length_three a.date a.clock a.after in
    packed-bits 16 _ _ (c.finish.ensures ∙ wrote_finish (ended (goal.at.returns c).After-put-end)) (omega arith) (append_assoc (group_bits a.date) _ _)
