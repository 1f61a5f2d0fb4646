use mathlib.Core.Path.{sym}
use Prim.Native.Nat.{◌-◌}
use native.Mathlib.Omega.{arith}
use Rattle.calendar.specs.Years.{astronomical_of}
use Rattle.calendar.proofs.Laws.Integers.{neg-pos}
use Rattle.calendar.proofs.Laws.Years.{zero_year}
use Rattle.calendar.proofs.years.Year.before_zero.Goals as goal

pub returns : goal.returns
unfolding astronomical_of
returns c = sym (neg-pos c.args.years zero_year (zero_year - c.args.years) (omega arith))
