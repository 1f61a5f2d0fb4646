use mathlib.Core.Path.{refl, sym, ap, ◌∙◌}
use mathlib.Core.List.{◌++◌}
use native.Mathlib.Omega.{arith}
use lib.ListN.{length, length-append, replicate}
use Rattle.answers.specs.declared.counts.Bits.{Bits}
use Rattle.packing.specs.Groups.{group_bits}
use Rattle.packing.proofs.Laws.Writing.{front-bits, length_group}
use Rattle.packing.proofs.Laws.Waiting.{added_twice, closed_added, none_written_lem}
use Rattle.packing.proofs.Laws.Packed.{packed-bits, packed-duration}
use Rattle.packing.proofs.Laws.Durations.{duration-bits}
use Rattle.packing.proofs.duration.pack_duration.Goals as goal

pub returns-then-none_written : goal.returns-then-none_written
returns-then-none_written c =
    let d = c.args.duration in
    let a = c.append_fraction-end in
    let p = c.presences in
    let e = added_twice c.append_numbers-numbered.ensures.added a.ensures.added in
    let n = sym c.none_written.ensures ∙ c.if-none_written.true in
    let z = front-bits (replicate 48 0) c.front.result c.front.ensures.octets c.front.ensures.held in
    let all = duration-bits d (ap (◌++ group_bits p.result) z ∙ p.ensures.bits) in
    c.short.ensures ∙ packed-duration d (sym (none_written_lem a.new.out a.result n) ∙ e.bits ∙ all)

pub returns : goal.returns
returns c =
    let d = c.args.duration in
    let a = c.append_fraction-end in
    let p = c.presences in
    let numbers = c.append_numbers-numbered in
    let e = added_twice numbers.ensures.added a.ensures.added in
    let f = c.front.ensures in
    let z = front-bits (replicate 48 0) c.front.result f.octets f.held in
    let all = duration-bits d (ap (◌++ group_bits p.result) z ∙ p.ensures.bits) in
    let o = c.close-bits.ensures in
    let k = closed_added e (omega (arith, numbers.ensures.most, a.ensures.most, e.len, p.ensures.width, f.octets, f.held)) all in
    let l = simp length-append at (ap length (duration-bits d p.ensures.bits)) in
    let b = ap (λ (b : Bits). b.count) o.bits in
    packed-bits 48 _ _ (o.after ∙ k) (omega (arith, b, l, e.place, f.octets, f.held, length_group p.result)) refl ∙ packed-duration d refl
