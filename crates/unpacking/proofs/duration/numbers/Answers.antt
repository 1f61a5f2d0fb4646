use mathlib.Core.Path.{◌≡◌, refl, sym, ◌∙◌}
use Prim.Native.Nat.{◌<◌}
use native.Mathlib.Omega.{arith}
use lib.ListN.{length-set, replicate}
use Rattle.unpacking.specs.Durations.{bits_in}
use Rattle.unpacking.proofs.Laws.Components.{by_place, numbers-end, numbers_next, numbers_none, numbers_start}
use Rattle.unpacking.proofs.Laws.Components.{values-end, values_next, values_start}
use Rattle.unpacking.proofs.duration.numbers.Goals as goal

pub loop-place-init : goal.loop-place-init
loop-place-init c = record {
  near = omega arith;
  count = refl;
  left = numbers_start (bits_in c.args.bits) (replicate 7 0) _;
  zeros = values_start (bits_in c.args.bits) (replicate 7 0);
}

pub returns-in_err-value : goal.returns-in_err-value
returns-in_err-value c =
    let l = c.loop-place in
    let z : l.place < 7 = omega arith in
    let e = by_place c.args.bits l.place _ c.range_at.ensures z _ c.in_err-value.ensures.value in
    rw c.from_residual.ensures (record {
      is = sym (numbers_none _ _ l.place refl l.invariant.count z _ _ l.invariant.left e);
      values = tt;
      count = tt;
      near = tt;
    })

pub loop-place-preserved : goal.loop-place-preserved
loop-place-preserved c =
    let l = c.loop-place in
    let z : l.place < 7 = omega arith in
    let e = by_place c.args.bits l.place _ c.range_at.ensures z _ c.in_ok-value.ensures.value in
    record {
      near = omega (arith, l.invariant.near, c.in_ok-value.ensures.end);
      count = simp length-set l.invariant.count;
      left = numbers_next _ _ l.place refl l.invariant.count z _ _ l.invariant.left _ _ e;
      zeros = values_next _ _ l.place refl l.invariant.count z _ _ _ _ e l.invariant.zeros;
    }

pub returns : goal.returns
returns c =
    let l = c.loop-place in
    let n : l.place ≡ 7 = omega arith in
    record {
      is = sym (rw n at l.invariant.left ∙ numbers-end _ l.values l.invariant.count _);
      values = values-end _ l.values l.invariant.count (rw n at l.invariant.zeros);
      count = l.invariant.count;
      near = omega (arith, l.invariant.near);
    }
