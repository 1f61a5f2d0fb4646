use mathlib.Core.Path.{◌∙◌, ◌≡◌, ap}
use Prim.Native.Nat.{◌-◌, ◌<◌, suc, zero, ℕ}
use native.Mathlib.Omega.{arith}
use lib.IntN.{negsuc, neg_ℤ, pos}
use Rattle.calendar.proofs.Laws.Years.{year_is}
use Rattle.reading.proofs.years.signed_year.Goals as goal

below-zero-is : (n : ℕ) → 0 < n → neg_ℤ (pos n) ≡ negsuc (n - 1)
below-zero-is zero h = absurd (omega arith)
below-zero-is (suc k) h = ap negsuc (omega arith)

pub returns-then-below : goal.returns-then-below
returns-then-below c = rw c.if-below.true (year_is _ _ (c.before_zero.ensures ∙ below-zero-is _ (omega arith)))

pub returns-else-below : goal.returns-else-below
returns-else-below c = rw c.if-below.false (year_is _ _ c.since_zero.ensures)
