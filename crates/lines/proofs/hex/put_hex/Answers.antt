use mathlib.Core.Path.{◌≡◌, ◌∙◌, sym}
use mathlib.Core.List.{[]}
use native.Mathlib.Omega.{arith}
use lib.ListN.{drop, length-set}
use Rattle.line_replies.specs.Lines.{to_hex}
use Rattle.lines.proofs.Laws.Hex.{pair_put, hex_length, hex_none}
use Rattle.lines.proofs.hex.put_hex.Goals as goal

pub loop-octet-preserved : goal.loop-octet-preserved
loop-octet-preserved c = (
  omega arith,
  simp length-set c.loop-octet.invariant.1,
  rw (c.hex_digit.ensures, c.hex_digit-in-loop-octet.ensures)
      (sym (pair_put _ _ _ _ c.loop-octet-test.true) ∙ c.loop-octet.invariant.2),
)

pub returns-clause-stored_text : goal.returns-clause-stored_text
returns-clause-stored_text c = let z : to_hex (drop c.loop-octet.octet-index c.args.octets.now) ≡ [] = hex_none _ c.loop-octet.octet-index (omega arith) in
    record { text = rw z at c.loop-octet.invariant.2; end = rw hex_length (omega arith) }
