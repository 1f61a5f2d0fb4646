use mathlib.Core.Path.{◌≡◌, sym, ap, subst, ◌∙◌}
use Prim.Native.Nat.{◌<◌}
use native.Mathlib.Omega.{arith}
use lib.IntN.{ℤ, pos, ◌-ℤ◌}
use lib.Signed.{mag}
use mir.Syntax.{w32, w64}
use mir.Val.{SFits, to_z, of_z}
use mir.ValLaws.{to_z-of_z, to_z_pos}
use Rattle.calendar.specs.Years.{astronomical_of}
use Rattle.std.specs.Prelude.{Some}
use Rattle.calendar.specs.declared.years.Year.{Year}
use Rattle.calendar.proofs.Laws.Years.{zero_year, in32-within, in32_outside, size_within, size_below, size_above}
use Rattle.calendar.proofs.years.Year.astronomical.Goals as goal
use Rattle.calendar.proofs.years.Year.astronomical.Goals.{Else-number-gt-HIGHEST, then-number-lt-LOWEST-via-then-number-lt-LOWEST, then-number-lt-LOWEST-via-else-number-lt-LOWEST+then-number-gt-HIGHEST}

pub returns-then-number-lt-LOWEST : goal.returns-then-number-lt-LOWEST
returns-then-number-lt-LOWEST c = sym (in32_outside _
    (elim c.then-number-lt-LOWEST.branch [
      | then-number-lt-LOWEST-via-then-number-lt-LOWEST w ↦ size_below c.args.self (omega arith)
      | then-number-lt-LOWEST-via-else-number-lt-LOWEST+then-number-gt-HIGHEST w ↦ size_above c.args.self (omega arith)
    ]))

-- what the machine subtracts from is the number, and what it gets is the year, which fits
module _ (c : Else-number-gt-HIGHEST) where
  abbrev year : Year
  year = c.args.self

  size : mag (astronomical_of year) < 2147483648
  size = size_within year (omega arith) (omega arith)

  fits : SFits w32 (astronomical_of year)
  fits = record { sfits = size }

  wide : SFits w64 (astronomical_of year)
  wide = record { sfits = omega (arith, size) }

  diff : to_z w64 year.number -ℤ pos zero_year ≡ astronomical_of year
  unfolding astronomical_of
  diff = ap (λ (z : ℤ). z -ℤ pos zero_year) (to_z_pos w64 year.number (omega arith))

pub overflow_sub-result : goal.overflow_sub-result
overflow_sub-result c = subst (SFits w64) (sym (diff (goal.at.overflow_sub-result c).Else-number-gt-HIGHEST)) (wide (goal.at.overflow_sub-result c).Else-number-gt-HIGHEST)

back : (c : Else-number-gt-HIGHEST) → to_z w64 (of_z w64 (to_z w64 (year c).number -ℤ pos zero_year)) ≡ astronomical_of (year c)
back c = to_z-of_z w64 _ (overflow_sub-result c) ∙ diff c

pub overflow_cast-result-3 : goal.overflow_cast-result-3
overflow_cast-result-3 c = subst (SFits w32) (sym (back (goal.at.overflow_cast-result-3 c).Else-number-gt-HIGHEST)) (fits (goal.at.overflow_cast-result-3 c).Else-number-gt-HIGHEST)

pub returns : goal.returns
returns c = ap Some (to_z-of_z w32 _ (overflow_cast-result-3 c) ∙ back (goal.at.returns c).Else-number-gt-HIGHEST) ∙ sym (in32-within _ (size (goal.at.returns c).Else-number-gt-HIGHEST))
