use mathlib.Core.Path.{◌≡◌}
use lib.ListN.{drop}
use Rattle.texts.specs.Digits.{get_digits}
use Rattle.octets.specs.Found.{found}
use Rattle.reading.proofs.text_fields.digits.Given as goal

abbrev pub invariant-loop-c : goal.invariant-loop-c
invariant-loop-c l = get_digits l.c-index l.text ≡ found l.number (drop l.c-index l.text)
