use mathlib.Core.Path.{◌≡◌}
use Prim.Native.Nat.{ℕ, suc, ◌*◌, ◌-◌, ◌^◌, ◌≤◌, ◌<◌}
use native.Mathlib.Omega.{arith}
use lib.Pow.{pow_mono, pow_pos}
use native.Mathlib.Nat.{pow-suc}
use borrow.Author.Tests.{lt-ltb, le-ltb}
use Rattle.std.proofs.lemmas.Int.{ints}
use Rattle.unpacking.specs.Steps.{signed_of}
use Rattle.unpacking.proofs.numbers.signed.Goals as goal

doubled : (w v : ℕ) → w ≡ suc v → 2 ^ w ≡ 2 * 2 ^ v
doubled w v e = rw e (omega (arith, pow-suc 2 v))

pub returns-then-from-power : goal.returns-then-from-power
unfolding signed_of
returns-then-from-power c =
    let w = c.args.width.count in
    let h : c.args.number < 2 ^ (w - 1) = omega (arith, c.from.ensures, c.power.ensures) in
    simp (lt-ltb _ _ h) (omega (arith, ints, pow_mono {i = w - 1} {j = 31} (omega arith)))

pub returns : goal.returns
unfolding signed_of
returns c =
    let w = c.args.width.count in
    let h : 2 ^ (w - 1) ≤ c.args.number = omega (arith, c.from.ensures, c.power.ensures) in
    simp (le-ltb _ _ h)
    (omega (arith, ints, c.from-2.ensures, c.power-2.ensures, doubled w (w - 1) (omega arith), pow_pos (w - 1), pow_mono {i = w} {j = 32} (omega arith)))
