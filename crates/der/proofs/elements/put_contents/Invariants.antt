use mathlib.Core.Path.{◌≡◌}
use Prim.Native.Nat.{◌+◌}
use lib.ListN.{drop, length}
use lib.Seq.{sets}
use Rattle.octets.specs.Stores.{StoredText}
use Rattle.der_elements.specs.Elements.{contents_of}
use Rattle.der.proofs.elements.put_contents.Given as goal

abbrev pub invariant-loop-octet : goal.invariant-loop-octet
invariant-loop-octet l =
    (length l.room ≡ length l.initial.room)
    × StoredText l.room (sets l.initial.room l.at (contents_of l.name l.text)) l.place (contents_of l.name (drop l.octet-index l.text)) (l.at + length (contents_of l.name l.text))
