use native.Mathlib.Omega.{arith}
use lib.Pow.{pow_mono}
use Rattle.unpacking.proofs.Laws.Extended.{extended}
use Rattle.unpacking.proofs.duration.extended.Goals as goal

pub returns-clause-value : goal.returns-clause-value
returns-clause-value c =
    let most = pow_mono {i = c.args.range.width.count} {j = 10} c.args.range.is_range.most_bits in
    grind (arith, extended, c.in_ok-number.ensures.value)
