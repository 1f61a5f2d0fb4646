use mathlib.Core.Path.{◌≡◌}
use Prim.Native.Nat.{◌+◌, ◌*◌}
use lib.ListN.{length, take}
use Rattle.line_replies.specs.Lines.{from_hex}
use Rattle.lines.proofs.Laws.Hex.{behind}
use Rattle.lines.proofs.hex.read_hex.Given as goal

abbrev pub invariant-loop-rest : goal.invariant-loop-rest
invariant-loop-rest l =
    (length l.rest + 2 * l.count ≡ length l.text) × (length l.buffer ≡ length l.initial.buffer) × (from_hex l.text ≡ behind (take l.count l.buffer) (from_hex l.rest))

abbrev pub decreases-loop-rest : goal.decreases-loop-rest
decreases-loop-rest l = length l.rest
