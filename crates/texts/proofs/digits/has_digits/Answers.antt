use mathlib.Core.Path.{◌≡◌, refl, sym}
use mathlib.Core.List.{List, [], ◌∷◌}
use Prim.Native.Nat.{ℕ, zero, suc, ◌^◌, ◌≤◌}
use native.Mathlib.Omega.{arith}
use lib.ListN.{get_or}
use borrow.Author.Tests.{lt-ltb}
use Rattle.texts.proofs.Laws.Digits.{ten_le}
use Rattle.texts.proofs.digits.has_digits.Goals as goal

abbrev tens : List ℕ
tens = 1 ∷ 10 ∷ 100 ∷ 1000 ∷ 10000 ∷ 100000 ∷ 1000000 ∷ 10000000 ∷ 100000000 ∷ 1000000000 ∷ []

tens-at : (n : ℕ) → n ≤ 9 → get_or tens n 0 ≡ 10 ^ n
tens-at zero h = refl
tens-at (suc zero) h = refl
tens-at (suc (suc zero)) h = refl
tens-at (suc (suc (suc zero))) h = refl
tens-at (suc (suc (suc (suc zero)))) h = refl
tens-at (suc (suc (suc (suc (suc zero))))) h = refl
tens-at (suc (suc (suc (suc (suc (suc zero)))))) h = refl
tens-at (suc (suc (suc (suc (suc (suc (suc zero))))))) h = refl
tens-at (suc (suc (suc (suc (suc (suc (suc (suc zero)))))))) h = refl
tens-at (suc (suc (suc (suc (suc (suc (suc (suc (suc zero))))))))) h = refl
tens-at (suc (suc (suc (suc (suc (suc (suc (suc (suc (suc n)))))))))) h = absurd (omega arith)

pub returns-then-digits-gt9 : goal.returns-then-digits-gt9
returns-then-digits-gt9 c = sym (lt-ltb c.args.number (10 ^ c.args.digits)
    (omega (arith, ten_le 10 c.args.digits (let z : 10 ≤ c.args.digits = omega arith in z))))

pub returns : goal.returns
returns c = rw (tens-at c.args.digits c.if-digits-gt9.false)
