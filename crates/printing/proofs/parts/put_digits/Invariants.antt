use mathlib.Core.Path.{◌≡◌}
use lib.Seq.{sets}
use Rattle.texts.specs.Digits.{put_digits}
use Rattle.printing.proofs.parts.put_digits.Given as goal

abbrev pub invariant-loop-k : goal.invariant-loop-k
invariant-loop-k l = sets l.b l.at (put_digits l.k l.left) ≡ sets l.initial.b l.at (put_digits l.w l.n)
