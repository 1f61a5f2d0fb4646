use Rattle.std.proofs.Common.{◌≡◌, refl, ap, ◌∙◌, ℕ, Bool, ◌&&◌, List, [], ◌∷◌}
use Rattle.std.specs.Char.{is_ascii_digit}
use Rattle.std.specs.List.{list_all}
use borrow.Author.Tests.{eq-eqb, ne_eqb}
use Rattle.der_elements.specs.Readings.{all_digits, digits_only}
use Rattle.der.proofs.readings.digits_only.Goals as goal

digits : (l : List ℕ) → list_all is_ascii_digit l ≡ all_digits l
unfolding all_digits
digits [] = refl
digits (c ∷ l) = ap (λ (b : Bool). is_ascii_digit c && b) (digits l)

pub returns-then-octets-count : goal.returns-then-octets-count
unfolding digits_only
returns-then-octets-count c = rw (eq-eqb _ _ c.if-octets-count.true) (c.all_digits.ensures ∙ digits c.args.octets.now)

pub returns-else-octets-count : goal.returns-else-octets-count
unfolding digits_only
returns-else-octets-count c = simp (ne_eqb _ _ c.if-octets-count.false)
