-- Digits stored in a text.
use mathlib.Core.Path.{◌≡◌}
use mathlib.Core.List.{List}
use Prim.Native.Nat.{ℕ, suc, ◌+◌, ◌/◌, ◌%◌}
use native.Mathlib.Omega.{arith}
use lib.ListN.{length, set}
use lib.Seq.{sets}
use Rattle.octets.proofs.Laws.Stores.{sets-append, sets-set}
use Rattle.texts.specs.Digits.{put_digits}
use Rattle.texts.proofs.Laws.Digits.{length_put}

-- the last digit stored before those in front of it
pub digit_first : (l : List ℕ) (at j k n : ℕ) → suc j ≡ k → sets (set l (at + j) (48 + n % 10)) at (put_digits j (n / 10)) ≡ sets l at (put_digits k n)
unfolding put_digits
digit_first l at j k n e =
    let h : length (put_digits j (n / 10)) ≡ j = length_put j (n / 10) in
    rw (← e, sets-append, h) (sets-set l at (at + j) (48 + n % 10) (put_digits j (n / 10)) (omega arith))
