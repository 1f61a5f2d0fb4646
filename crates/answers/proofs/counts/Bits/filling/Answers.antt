use mathlib.Core.Path.{◌≡◌}
use Prim.Native.Nat.{◌+◌, ◌*◌, ◌-◌, ◌/◌, ◌%◌}
use native.Mathlib.Omega.{arith}
use Rattle.answers.specs.Counts.{octets_for, filling_for}
use Rattle.answers.proofs.counts.Bits.filling.Goals as goal

pub returns : goal.returns
unfolding filling_for octets_for
returns c =
    let n = c.args.self.count in
    let e : (8 - n % 8) % 8 ≡ 8 * ((n + 7) / 8) - n = omega arith in
    λ i. record { count = e i }
