use mathlib.Core.Path.{◌≡◌}
use Prim.Native.Nat.{◌%◌}
use native.Mathlib.Omega.{arith}
use borrow.Author.Tests.{eq-eqb, ne_eqb}
use Rattle.calendar.proofs.Laws.Days.{leap_number}
use Rattle.calendar.proofs.Laws.Numbers.{leap-number}
use Rattle.calendar.proofs.years.leap_year.Goals as goal

pub returns-then-number-ne0 : goal.returns-then-number-ne0
unfolding leap_number
returns-then-number-ne0 c =
    let number = c.args.year.number in
    let four : number % 4 ≡ 0 → ⊥ = c.if-number-ne0.true in
    let period : number % 400 ≡ 0 → ⊥ = λ e. four (omega arith) in
    rw leap-number (simp (ne_eqb _ _ four, ne_eqb _ _ period))

pub returns-then-number-ne0-2 : goal.returns-then-number-ne0-2
unfolding leap_number
returns-then-number-ne0-2 c = rw leap-number (simp (eq-eqb _ _ c.if-number-ne0.false, ne_eqb _ _ c.if-number-ne0-2.true))

pub returns : goal.returns
unfolding leap_number
returns c = rw leap-number (simp (eq-eqb _ _ c.if-number-ne0.false, eq-eqb _ _ c.if-number-ne0-2.false))
