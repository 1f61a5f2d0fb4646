use mathlib.Core.Path.{◌≡◌, sym, ap, ◌∙◌}
use Prim.Native.Nat.{suc, ◌-◌}
use native.Mathlib.Omega.{arith}
use Rattle.calendar.specs.Years.{distance_of}
use Rattle.calendar.specs.declared.years.Distance.{Distance}
use Rattle.calendar.proofs.Laws.Years.{zero_year, from_zero, below-zero}
use Rattle.calendar.proofs.years.Year.distance.Goals as goal

pub returns-then-number-lt-ZERO : goal.returns-then-number-lt-ZERO
returns-then-number-lt-ZERO c =
    let year = c.args.self in
    let k : zero_year - year.number ≡ suc (zero_year - suc year.number) = omega arith in
    ap Distance.Before k ∙ sym (ap distance_of (below-zero year (zero_year - suc year.number) (omega arith)))

pub returns : goal.returns
returns c =
    let year = c.args.self in
    sym (ap distance_of (from_zero year (year.number - zero_year) (omega arith)))
