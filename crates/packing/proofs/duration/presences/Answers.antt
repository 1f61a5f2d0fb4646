use mathlib.Core.Path.{◌≡◌, sym, ap, ◌∙◌}
use mathlib.Core.List.{List, ◌++◌, append-nil}
use Prim.Native.Nat.{ℕ}
use native.Mathlib.Omega.{arith}
use lib.ListN.{get_or}
use Rattle.fields.specs.Fields.{layout}
use Rattle.durations.specs.Durations.{parts_of}
use Rattle.durations.specs.Fields.{presences as presencesOf}
use Rattle.packing.specs.Groups.{group_bits}
use Rattle.packing.proofs.Laws.Durations.{presences_next, presences-end, optionality-bits}
use Rattle.packing.proofs.duration.presences.Goals as goal

pub loop-place-init : goal.loop-place-init
loop-place-init c = record { width = c.nothing-group.ensures.width; bits = rw c.nothing-group.ensures.bits }

pub join-group-requires : goal.join-group-requires
join-group-requires c = omega (arith, c.loop-place.invariant.width, c.presence.ensures.width)

pub loop-place-preserved : goal.loop-place-preserved
loop-place-preserved c =
    let l = c.loop-place in
    let p = c.presence.ensures in
    let j = c.join-group.ensures in
    let e = ap (λ (v : List ℕ). get_or v l.place 0) c.numbers_of-numbers.ensures in
    record {
      width = omega (arith, j.width, l.invariant.width, p.width);
      bits = presences_next c.args.duration l.place _ c.loop-place-test.true e (group_bits l.group) l.invariant.bits j.bits p.bits c.is_there-there.ensures;
    }

pub returns : goal.returns
returns c =
    let l = c.loop-place in
    let d = c.args.duration in
    let j = c.join.ensures in
    let p = c.presence-2.ensures in
    let n : l.place ≡ 7 = omega arith in
    let g : group_bits l.group ≡ layout (presencesOf (parts_of d)) =
    sym (append-nil (group_bits l.group)) ∙ ap (group_bits l.group ++◌) (sym (presences-end d)) ∙ rw n at l.invariant.bits in
    record { bits = optionality-bits d j.bits g p.bits; width = omega (arith, j.width, l.invariant.width, p.width, n) }
