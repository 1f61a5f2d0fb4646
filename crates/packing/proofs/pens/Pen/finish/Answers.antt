use mathlib.Core.Path.{◌≡◌, refl}
use Prim.Native.Nat.{◌-◌, ◌*◌, ◌^◌, ◌<◌}
use native.Mathlib.Omega.{arith}
use Rattle.packing.specs.Groups.{group_bits}
use Rattle.packing.proofs.Laws.Writing.{filled, finished-whole, finished_part, last_lt, octet_filling}
use Rattle.packing.proofs.pens.Pen.finish.Goals as goal
use Rattle.packing.proofs.pens.Pen.finish.Goals.{After-filling, After-join-last}

pub returns-then-self-eq0 : goal.returns-then-self-eq0
returns-then-self-eq0 c = finished-whole c.args.out.now c.args.self c.requires (λ i. (c.type_inv.out i).fits) c.if-self-eq0.true

-- How many bits fill the octet.
missing : (c : After-filling) → c.filling.result.count ≡ 8 - c.args.self.held.count
missing c =
    let h : 0 < c.args.self.held.count = omega arith in
    octet_filling _ c.filling.ensures h c.args.self.few

pub field-requires : goal.field-requires
field-requires c = omega (arith, missing (goal.at.field-requires c).After-filling)

pub join-last-requires : goal.join-last-requires
join-last-requires c = omega (arith, missing (goal.at.join-last-requires c).After-filling)

-- The bits that wait, and zeros.
last : (c : After-join-last) → let p = c.args.self in
    c.join-last.result.number ≡ p.acc * 2 ^ (8 - p.held.count)
unfolding group_bits
last c =
    let p = c.args.self in
    let h : 0 < p.held.count = omega arith in
    rw (← octet_filling _ c.filling.ensures h p.few)
    (filled c.join-last.result p.held.count _ p.acc _ p.within c.join-last.ensures.bits c.field.ensures.bits refl)

pub overflow_cast-out : goal.overflow_cast-out
overflow_cast-out c =
    let l = last (goal.at.overflow_cast-out c).After-join-last in
    record { fits = last_lt c.args.out.now c.args.self c.requires (λ i. (c.slice_known-1.given i).fits) _ l }

pub returns : goal.returns
returns c =
    let l = last (goal.at.returns c).After-join-last in
    finished_part c.args.out.now c.args.self c.requires (λ i. (c.slice_known-1.given i).fits) _ l (omega arith)
