use mathlib.Core.Path.{◌≡◌, ◌∙◌}
use Prim.Native.Nat.{suc, ◌-◌}
use native.Mathlib.Omega.{arith}
use Rattle.texts.specs.Digits.{put_digits}
use Rattle.texts.proofs.Laws.Digits.{length_put}
use Rattle.printing.proofs.Laws.Stores.{digit_first}
use Rattle.printing.proofs.parts.put_digits.Goals as goal

pub loop-k-preserved : goal.loop-k-preserved
loop-k-preserved c = let e : suc (c.loop-k.k - 1) ≡ c.loop-k.k = omega arith in digit_first _ _ _ _ _ e ∙ c.loop-k.invariant

pub returns-clause-stored_text : goal.returns-clause-stored_text
unfolding put_digits
returns-clause-stored_text c = let z : c.loop-k.k ≡ 0 = omega arith in record { text = rw z at c.loop-k.invariant; end = rw length_put }
