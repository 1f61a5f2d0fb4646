use mathlib.Core.Path.{◌≡◌, refl, sym, ap, ◌∙◌}
use mathlib.Core.List.{List, [], ◌++◌, append-nil}
use Prim.Native.Nat.{ℕ}
use native.Mathlib.Omega.{arith}
use lib.ListN.{get_or}
use Rattle.packing.proofs.Laws.Writing.{length_group}
use Rattle.packing.proofs.Laws.Waiting.{added_none, added_twice}
use Rattle.packing.proofs.Laws.Durations.{numbers_next, numbers-end}
use Rattle.packing.proofs.duration.append_numbers.Goals as goal

pub loop-place-init : goal.loop-place-init
loop-place-init c = record { bits = []; added = added_none _ c.args.waiting; all = refl; most = omega arith }

pub append-so_far-requires : goal.append-so_far-requires
append-so_far-requires c =
    let l = c.loop-place.invariant in
    record { most = omega (arith, c.component-group.ensures.width); room = omega (arith, l.most, l.added.len) }

pub loop-place-preserved : goal.loop-place-preserved
loop-place-preserved c =
    let l = c.loop-place in
    let a = c.append-so_far.ensures in
    let k = c.component-group.ensures in
    let e = ap (λ (v : List ℕ). get_or v l.place 0) c.numbers_of-numbers.ensures in
    record {
      bits = _;
      added = added_twice l.invariant.added a;
      all = numbers_next c.args.duration l.place _ c.loop-place-test.true e l.invariant.bits l.invariant.all k.bits;
      most = omega (arith, a.place, length_group c.component-group.result, k.width, l.invariant.most);
    }

pub returns : goal.returns
returns c = let l = c.loop-place in
    let d = c.args.duration in
    let n : l.place ≡ 7 = omega arith in
    let g = rw n at l.invariant.all in record {
      added = rw (← (sym (append-nil l.invariant.bits) ∙ ap (l.invariant.bits ++◌) (sym (numbers-end d)) ∙ g)) l.invariant.added;
      most = omega (arith, l.invariant.most);
    }
