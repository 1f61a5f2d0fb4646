use mathlib.Core.Path.{sym, ◌∙◌}
use native.Mathlib.Omega.{arith}
use Rattle.lists.specs.Words.{fraction_words}
use Rattle.lists.proofs.Laws.Words.{fraction_at, no_fraction, place-in}
use Rattle.lists.proofs.words.fraction.Goals as goal

pub returns-in_err-digit : goal.returns-in_err-digit
returns-in_err-digit c = c.from_residual.ensures ∙ no_fraction _ c.in_err-digit.ensures.cases

pub returns-then-not-is_digit_count : goal.returns-then-not-is_digit_count
returns-then-not-is_digit_count c = rw (fraction_at _ _ _ c.in_ok-digit.ensures.cases, sym c.is_digit_count.ensures ∙ c.if-not-is_digit_count.true)

pub returns-in_err-place : goal.returns-in_err-place
returns-in_err-place c =
    rw (
      fraction_at _ _ _ c.in_ok-digit.ensures.cases,
      sym c.is_digit_count.ensures ∙ c.if-not-is_digit_count.false,
      sym c.place_in.ensures ∙ c.in_err-place.was,
    )
    c.from_residual-in_err-place.ensures

pub overflow_add-result : goal.overflow_add-result
overflow_add-result c = omega (arith, place-in fraction_words _ (sym c.place_in.ensures ∙ c.in_ok-place.was))

pub returns : goal.returns
returns c =
    rw (
      fraction_at _ _ _ c.in_ok-digit.ensures.cases,
      sym c.is_digit_count.ensures ∙ c.if-not-is_digit_count.false,
      sym c.place_in.ensures ∙ c.in_ok-place.was,
    )
