use mathlib.Core.Path.{◌≡◌, ◌∙◌}
use Prim.Native.Nat.{◌+◌, ◌*◌, ◌<◌, ◌^◌}
use native.Mathlib.Omega.{arith}
use Rattle.unpacking.specs.Steps.{number_at}
use Rattle.unpacking.proofs.Laws.Numbers.{number_one, number_more, number_small}
use Rattle.unpacking.proofs.numbers.gathered.Goals as goal
use Rattle.unpacking.proofs.numbers.gathered.Goals.{After-from, After-from-one, In-loop-k}

-- the first octet, and the first two
one-is : (c : After-from-one) → c.from-one.result ≡ number_at c.args.octets.now c.args.from.count 1
one-is c = c.from-one.ensures ∙ number_one _ c.args.from.count (omega arith) (c.type_inv.octets c.args.from.count).fits

two_is : (c : After-from) → c.from-one.result * 256 + c.from.result ≡ number_at c.args.octets.now c.args.from.count 2
two_is c =
    let f = c.args.from.count in
    rw c.from.ensures
    (number_more c.args.octets.now f 1 _ (omega arith) (c.type_inv.octets (f + 1)).fits (c.from-one.ensures ∙ number_one _ f (omega arith) (c.type_inv.octets f).fits))

small : (c : In-loop-k) → c.loop-k.number < 2 ^ 48
small c = rw c.loop-k.invariant (number_small _ c.args.from.count c.loop-k.k (omega arith))

pub returns-then-many-eq1 : goal.returns-then-many-eq1
returns-then-many-eq1 c = rw c.if-many-eq1.true (one-is (goal.at.returns-then-many-eq1 c).After-from-one)

pub returns-then-many-eq2 : goal.returns-then-many-eq2
returns-then-many-eq2 c = rw c.if-many-eq2.true (two_is (goal.at.returns-then-many-eq2 c).After-from)

pub loop-k-init : goal.loop-k-init
loop-k-init c = two_is (goal.at.loop-k-init c).After-from

pub overflow_mul-number : goal.overflow_mul-number
overflow_mul-number c = omega (arith, small c)

pub overflow_add-number : goal.overflow_add-number
overflow_add-number c =
    omega (arith, small (goal.at.overflow_add-number c).In-loop-k, c.from-in-loop-k.ensures, c.type_inv.octets (c.args.from.count + c.loop-k.k))

pub loop-k-preserved : goal.loop-k-preserved
loop-k-preserved c =
    let f = c.args.from.count in
    let k = c.loop-k.k in
    rw c.from-in-loop-k.ensures (number_more c.args.octets.now f k _ (omega arith) (c.type_inv.octets (f + k)).fits c.loop-k.invariant)
