use mathlib.Core.Path.{◌∙◌, ◌≡◌, ap, sym}
use Prim.Native.Nat.{◌%◌, ◌*◌, ◌+◌, ◌-◌, ◌/◌, ◌<◌, ◌^◌, ◌≤◌, ℕ}
use native.Mathlib.Omega.{arith}
use lib.ListN.{length}
use lib.Pow.{pow_mono, pow_pos}
use Rattle.fields.proofs.Laws.Bits.{number_lt}
use Rattle.fields.specs.Bits.{number_in}
use Rattle.unpacking.proofs.Laws.Numbers.{carried, field_of, filled_up}
use Rattle.unpacking.proofs.Laws.Steps.{bits-short, bits_there}
use Rattle.unpacking.specs.Steps.{rest}
use borrow.Author.Rules.{rules}
use Rattle.unpacking.proofs.numbers.field.Goals as goal
use Rattle.unpacking.proofs.numbers.field.Goals.{After-octets-with_all, After-power}

-- how many octets carry the bits up to the first and those up to the end
counts : (c : After-octets-with_all) → let a = c.args in let n = a.at.count in let m = n + a.width.count in
    let first = c.octets-with_first.result.count in let all = c.octets-with_all.result.count in
    ((n + 1 ≤ 8 * first) × (8 * first < n + 1 + 8)) × ((m ≤ 8 * all) × (8 * all < m + 8))
counts c = (carried _ c.octets-with_first.ensures, carried _ c.octets-with_all.ensures)

-- what is left of the gathered octets is the number of the bits
value-is : (c : After-power) → let a =
    c.args in
    c.gathered-number.result / 2 ^ c.filling-after.result.count % c.power.result ≡ number_in a.width.count
    (rest a.octets.now a.at)
value-is c =
    let a = c.args in
    let from : ℕ = c.octets-with_first.result.count - 1 in
    let all : ℕ = c.octets-with_all.result.count in
    let first-is : (a.at.count + 1 ≤ 8 * c.octets-with_first.result.count) × (8 * c.octets-with_first.result.count < a.at.count + 1 + 8)
    = carried _ c.octets-with_first.ensures in
    let all-is : (a.at.count + a.width.count ≤ 8 * all) × (8 * all < a.at.count + a.width.count + 8) = carried _ c.octets-with_all.ensures in
    let f = filled_up _ c.octets-with_all.ensures c.filling-after.ensures in
    let first : from ≡ a.at.count / 8 = omega arith in
    let last : a.at.count + a.width.count + c.filling-after.result.count ≡ 8 * (from + (all - from)) = omega arith in
    ap (λ (n : ℕ). c.gathered-number.result / 2 ^ c.filling-after.result.count % n) c.power.ensures
    ∙ field_of a.octets.now a.at.count a.width.count from _ _ _ first last c.gathered-number.ensures

pub returns-then-octets-with_all : goal.returns-then-octets-with_all
returns-then-octets-with_all c = let a = c.args in
    let h : 8 * length a.octets.now < a.at.count + a.width.count = omega (arith, counts (goal.at.returns-then-octets-with_all c).After-octets-with_all) in
    record {
      value = sym (bits-short a.octets.now a.at a.width.count h c.requires.some_bits);
      number = search rules;
      end = search rules;
    }

pub overflow_sub-first : goal.overflow_sub-first
overflow_sub-first c = omega (arith, counts (goal.at.overflow_sub-first c).After-octets-with_all)

pub overflow_sub-count : goal.overflow_sub-count
overflow_sub-count c = omega (arith, counts (goal.at.overflow_sub-count c).After-octets-with_all)

pub gathered-number-requires : goal.gathered-number-requires
gathered-number-requires c =
    let k = counts (goal.at.gathered-number-requires c).After-octets-with_all in
    record { some = omega arith; few = omega arith; in_bounds = omega arith }

pub overflow_shr-result : goal.overflow_shr-result
overflow_shr-result c = omega (arith, filled_up _ c.octets-with_all.ensures c.filling-after.ensures)

pub nonzero_rem-result : goal.nonzero_rem-result
nonzero_rem-result c = rw c.power.ensures (pow_pos _)

pub overflow_cast-result-2 : goal.overflow_cast-result-2
overflow_cast-result-2 c =
    let a = c.args in
    omega (
      arith,
      value-is (goal.at.overflow_cast-result-2 c).After-power,
      number_lt a.width.count (rest a.octets.now a.at),
      pow_mono {i = a.width.count} {j = 32} c.requires.most_bits,
    )

pub returns : goal.returns
returns c = let a = c.args in
    let v = value-is (goal.at.returns c).After-power in
    let h : a.at.count + a.width.count ≤ 8 * length a.octets.now = omega (arith, counts (goal.at.returns c).After-octets-with_all) in
    record {
      value = rw v (sym (bits_there a.octets.now a.at a.width.count h));
      number = rw v (number_lt _ _);
      end = search rules;
    }
