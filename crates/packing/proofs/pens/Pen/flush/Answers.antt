use mathlib.Core.Path.{◌≡◌, refl}
use Prim.Native.Nat.{◌<◌, ◌+◌, ◌*◌}
use native.Mathlib.Omega.{arith}
use lib.ListN.{length-take, length-drop}
use lib.Pow.{pow_pos}
use native.Mathlib.Nat.{mod-lt}
use Rattle.packing.proofs.Laws.Writing.{begun_le, cut, flushed, low_written}
use Rattle.packing.proofs.pens.Pen.flush.Goals as goal
use Rattle.packing.proofs.pens.Pen.flush.Goals.{After-octets-whole}

-- The whole octets, counted.
count : (c : After-octets-whole) → let left = c.args.left in
    let held = c.begun-held.result in
    (left.count ≡ 8 * c.octets-whole.result.count + held.count) × (held.count < 8)
count c = cut _ c.begun-held.ensures c.octets-whole.ensures

pub overflow_sub-left : goal.overflow_sub-left
overflow_sub-left c = begun_le _ c.begun-held.ensures

pub overflow_add-end : goal.overflow_add-end
overflow_add-end c = omega (arith, count (goal.at.overflow_add-end c).After-octets-whole)

pub overflow_shr-acc : goal.overflow_shr-acc
overflow_shr-acc c = omega (arith, count (goal.at.overflow_shr-acc c).After-octets-whole)

pub slice_bounds-copy_from_slice-end : goal.slice_bounds-copy_from_slice-end
slice_bounds-copy_from_slice-end c = let k = count (goal.at.slice_bounds-copy_from_slice-end c).After-octets-whole in omega arith

pub overflow_sub-whole : goal.overflow_sub-whole
overflow_sub-whole c = omega (arith, count (goal.at.overflow_sub-whole c).After-octets-whole)

pub copy_from_slice-requires : goal.copy_from_slice-requires
copy_from_slice-requires c =
    let k = count (goal.at.copy_from_slice-requires c).After-octets-whole in
    simp (length-take, length-drop) (omega arith)

pub power-requires : goal.power-requires
power-requires c = omega (arith, count (goal.at.power-requires c).After-octets-whole)

pub invariant_of-result : goal.invariant_of-result
invariant_of-result c = record {
  few = (count (goal.at.invariant_of-result c).After-octets-whole).1;
  within = rw c.power.ensures (mod-lt c.args.acc (pow_pos c.begun-held.result.count));
}

pub returns : goal.returns
returns c =
    let k = count (goal.at.returns c).After-octets-whole in
    let n = c.args.at.count in
    let w = c.octets-whole.result.count in
    let o = low_written c.args.out.now n w _ (omega arith) c.to_be_bytes-octets.ensures c.copy_from_slice.ensures.after in
    flushed _ _ _ _ w _ k.0 (omega arith) o refl c.power.ensures refl
