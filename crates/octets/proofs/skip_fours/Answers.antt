use Prim.Native.Nat.{◌-◌}
use native.Mathlib.Omega.{arith}
use lib.ListN.{drop, length, length-drop}
use lib.Seq.{take_all}
use Rattle.octets.proofs.Laws.Pieces.{span_four}
use Rattle.octets.proofs.skip_fours.Goals as goal

pub loop-left-preserved : goal.loop-left-preserved
loop-left-preserved c =
    let l = c.loop-left.left.now in
    let i = c.loop-left.invariant in
    let d = length-drop 4 l in
    let f = span_four c.args.octet l 0 (omega (arith, c.in-len4-up.len_at_least)) c.if-a-octet.false c.if-b-octet.false c.if-c-octet.false c.if-d-octet.false in
    rw (take_all (length l - 4) (drop 4 l) (omega (arith, d))) (
      omega (arith, d, i.0),
      omega (arith, d, f, i.0, i.1, c.in-len4-up.len_at_least),
    )
