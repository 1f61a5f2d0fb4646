use mathlib.Core.Path.{◌∙◌, sym}
use native.Mathlib.Omega.{arith}
use Rattle.texts.proofs.Laws.Digits.{get_back}
use Rattle.texts.proofs.Laws.Years.{fits_back, signed_long}
use Rattle.texts.specs.Years.{longest_year}
use Rattle.reading.proofs.years.signed.Goals as goal

pub returns-then-width-gt-LONGEST : goal.returns-then-width-gt-LONGEST
returns-then-width-gt-LONGEST c = sym (signed_long longest_year _ _ (omega arith) (omega (arith, c.leading_digits-width.ensures)))

pub signed_year-requires : goal.signed_year-requires
signed_year-requires c =
    let small = (get_back _ _ _ _ (sym c.in_ok-number.ensures)).1 in
    (fits_back longest_year _ _ _ (omega arith) (omega arith) small (sym c.signed_fits.ensures ∙ c.if-not-signed_fits.false)).some
