use mathlib.Core.Path.{◌≡◌, ◌∙◌, sym}
use mathlib.Core.Bool.{true}
use Prim.Native.Nat.{◌^◌, ◌≤◌}
use native.Mathlib.Omega.{arith}
use lib.Dec.{ltb}
use borrow.Author.Tests.{le-leb}
use Rattle.unpacking.proofs.Laws.Extended.{extended}
use Rattle.unpacking.proofs.Laws.Rows.{rows}
use Rattle.unpacking.proofs.Laws.Steps.{steps}
use Rattle.unpacking.proofs.duration.tail.Goals as goal

pub returns-then-has_digits : goal.returns-then-has_digits
returns-then-has_digits c =
    let some : 1 ≤ c.args.present = omega arith in
    let fits : ltb c.in_ok-fraction.fraction (10 ^ c.in_ok-digits.digits) ≡ true = sym c.has_digits.ensures ∙ c.if-has_digits.true in
    grind (
      arith,
      extended,
      rows,
      steps,
      le-leb 1 c.in_ok-digits.digits c.if-digits-lt1.false,
      le-leb c.in_ok-digits.digits 9 c.if-digits-gt9.false,
      c.in_ok-digits.ensures.value,
      c.in_ok-fraction.ensures.value,
    )
