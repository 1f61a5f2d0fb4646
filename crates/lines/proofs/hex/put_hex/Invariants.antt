use mathlib.Core.Path.{◌≡◌}
use Prim.Native.Nat.{◌+◌, ◌*◌}
use lib.ListN.{length, drop}
use lib.Seq.{sets}
use Rattle.line_replies.specs.Lines.{to_hex}
use Rattle.lines.proofs.hex.put_hex.Given as goal

abbrev pub invariant-loop-octet : goal.invariant-loop-octet
invariant-loop-octet l = (l.place ≡ l.at + 2 * l.octet-index) × (length l.room ≡ length l.initial.room)
    × (sets l.room l.place (to_hex (drop l.octet-index l.octets)) ≡ sets l.initial.room l.at (to_hex l.octets))
