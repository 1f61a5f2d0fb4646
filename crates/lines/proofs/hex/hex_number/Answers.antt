use Rattle.lines.proofs.Laws.Hex.{number_given}
use Rattle.lines.proofs.hex.hex_number.Goals as goal

pub returns : goal.returns
returns c = number_given _ _ (rw c.from.ensures at c.to_digit.ensures.value)
