use mathlib.Core.Path.{◌≡◌, sym, ap, subst, ◌∙◌}
use Prim.Native.Nat.{ℕ, ◌+◌, ◌≤◌, ◌^◌}
use native.Mathlib.Omega.{arith}
use lib.IntN.{ℤ, pos, ◌+ℤ◌, sub_ℕ, nat_abs}
use lib.Dec.{T}
use lib.Signed.{non_neg}
use mir.Syntax.{w32, w64}
use mir.Val.{Fits, SFits, to_z, of_z}
use mir.ValLaws.{to_z-of_z}
use Rattle.calendar.specs.Years.{astronomical_of}
use Rattle.calendar.proofs.Laws.Years.{Shifted, shifted}
use Rattle.calendar.proofs.years.YearFromI32.from.Goals as goal
use Rattle.calendar.proofs.years.YearFromI32.from.Goals.{Start}

-- the year, and what the machine makes of it when it adds k
module _ (c : Start) where
  abbrev y : ℤ
  y = c.args.astronomical

  wide : SFits w64 y
  wide = record { sfits = omega (arith, c.ranges.astronomical.sfits) }

  abbrev read : ℤ
  read = to_z w64 (of_z w64 (to_z w32 (of_z w32 y)))

  module _ (k : ℕ) (low : 2147483648 ≤ k) (high : k + 2147483648 ≤ 2 ^ 63) where
    s : Shifted k y
    s = shifted k y low (omega (arith, c.ranges.astronomical.sfits))

    sum : read +ℤ pos k ≡ pos s.number
    sum = ap (λ (z : ℤ). to_z w64 (of_z w64 z) +ℤ pos k) (to_z-of_z w32 y c.ranges.astronomical) ∙ ap (λ (z : ℤ). z +ℤ pos k) (to_z-of_z w64 y wide) ∙ s.sum

    fits : SFits w64 (read +ℤ pos k)
    fits = subst (SFits w64) (sym sum) (record { sfits = omega (arith, s.small) })

    back : to_z w64 (of_z w64 (read +ℤ pos k)) ≡ pos s.number
    back = to_z-of_z w64 _ fits ∙ sum

    casts : T (non_neg (to_z w64 (of_z w64 (read +ℤ pos k)))) × Fits w64 (nat_abs (to_z w64 (of_z w64 (read +ℤ pos k))))
    casts = subst (λ (z : ℤ). T (non_neg z) × Fits w64 (nat_abs z)) (sym back) (tt, record { fits = omega (arith, s.small) })

    made : sub_ℕ (nat_abs (to_z w64 (of_z w64 (read +ℤ pos k)))) k ≡ y
    made = ap (λ (z : ℤ). sub_ℕ (nat_abs z) k) back ∙ s.back

pub returns : goal.returns
unfolding astronomical_of
returns c = made (goal.at.returns c).Start _ (omega arith) (omega arith)
