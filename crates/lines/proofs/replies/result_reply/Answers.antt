use native.Mathlib.Omega.{arith}
use Rattle.octets.proofs.Laws.Stores.{put_then, put_there}
use Rattle.lines.proofs.replies.result_reply.Goals as goal

pub put_result-end-requires : goal.put_result-end-requires
put_result-end-requires c =
    let f = put_there (c.put_octets-start.ensures.value, c.put_octets-start.ensures.room_after) (omega arith) in
    omega (arith, f.end)

pub returns : goal.returns
returns c = let f = put_there (c.put_octets-start.ensures.value, c.put_octets-start.ensures.room_after) (omega arith) in
    let g = c.put_result-end.ensures in
    let h = put_there (c.put_octets.ensures.value, c.put_octets.ensures.room_after) (omega (arith, f.end, g.upper_bound)) in record {
      stored_text = put_then f (put_then g.stored_text h);
      upper_bound = omega (arith, f.end, g.upper_bound, h.end);
    }
