use mathlib.Core.Path.{refl}
use Prim.Native.Nat.{◌<◌}
use native.Mathlib.Omega.{arith}
use Rattle.fields.specs.Fields.{width, binary_digits}
use Rattle.packing.proofs.Laws.Writing.{length_group}
use Rattle.packing.proofs.Laws.Waiting.{added_none, added_twice}
use Rattle.packing.proofs.Laws.Durations.{no_digits, digits-bits}
use Rattle.packing.proofs.duration.append_fraction.Goals as goal

pub returns-then-digits-eq0-clause-added : goal.returns-then-digits-eq0-clause-added
returns-then-digits-eq0-clause-added c = rw (no_digits _ c.args.fraction c.if-digits-eq0.true) (added_none _ c.args.waiting)

pub extended-requires : goal.extended-requires
unfolding width binary_digits
extended-requires c = record { most = omega arith; width = refl }

pub extended-requires-2 : goal.extended-requires-2
unfolding width binary_digits
extended-requires-2 c = record { most = omega arith; width = refl }

pub append-requires-clause-room : goal.append-requires-clause-room
append-requires-clause-room c = let a = c.append-counted.ensures in
    let k = c.extended in omega (arith, a.place, a.len, length_group k.result, k.ensures.width)

pub returns : goal.returns
returns c = let a = c.append.ensures in
    let b = c.append-counted.ensures in
    let k = c.extended in
    let m = c.extended-2 in
    let h : 0 < c.args.digits = omega (arith, c.if-digits-eq0.false) in record {
      added = rw (← digits-bits c.args.digits c.args.fraction h k.ensures.bits m.ensures.bits) (added_twice b a);
      most = omega (arith, a.place, b.place, length_group k.result, k.ensures.width, length_group m.result, m.ensures.width);
    }
