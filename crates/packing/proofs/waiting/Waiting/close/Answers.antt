use mathlib.Core.Path.{◌≡◌, ap, ◌∙◌}
use Prim.Native.Nat.{ℕ, ◌+◌, ◌*◌}
use native.Mathlib.Omega.{arith}
use Rattle.packing.proofs.Laws.Writing.{length_group}
use Rattle.packing.proofs.Laws.Waiting.{closed_put}
use Rattle.packing.specs.Waiting.{waiting_count}
use Rattle.packing.proofs.waiting.Waiting.close.Goals as goal

pub finish-requires : goal.finish-requires
finish-requires c = let p = c.put-end.ensures in omega (arith, p.place, p.len, length_group c.args.self.group)

pub overflow_cast-result : goal.overflow_cast-result
overflow_cast-result c =
    let p = c.put-end.ensures in
    omega (arith, p.place, length_group c.args.self.group)

pub overflow_mul-result : goal.overflow_mul-result
overflow_mul-result c =
    let p = c.put-end.ensures in
    omega (arith, p.place, length_group c.args.self.group)

pub overflow_add-result : goal.overflow_add-result
overflow_add-result c =
    let p = c.put-end.ensures in
    omega (arith, p.place, length_group c.args.self.group)

pub returns : goal.returns
returns c = let p = c.put-end in record {
  bits = ap (λ (n : ℕ). record { count = n }) (let e : 8 * p.result.octets.count + p.result.held.count ≡ waiting_count c.args.self =
      omega (arith, p.ensures.place, length_group c.args.self.group) in e);
  after = c.finish.ensures ∙ closed_put c.args.self p.result c.requires.room p.ensures;
}
