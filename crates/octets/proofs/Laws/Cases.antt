-- Tests: case distinctions, in which each side has the order that the test tells, and the test itself; and what bounds a choice.
use mathlib.Core.Path.{◌≡◌, refl}
use mathlib.Core.Bool.{Bool, true, false, ◌&&◌, cond, false≢true}
use Prim.Native.Nat.{ℕ, ◌≤◌, ◌<◌}
use lib.Dec.{leb, ltb}
use borrow.Author.Tests.{leb-true, leb-false, ltb-true, ltb-false}

module _ {ℓ} {C : Type ℓ} where
  pub by_test : (t : Bool) → (t ≡ true → C) → (t ≡ false → C) → C
  by_test true f g = f refl
  by_test false f g = g refl

  pub by_leb : (a b : ℕ) → (a ≤ b → leb a b ≡ true → C) → (b < a → leb a b ≡ false → C) → C
  by_leb a b f g = by_test (leb a b) (λ e. f (leb-true a b e) e) (λ e. g (leb-false a b e) e)

  pub by_ltb : (a b : ℕ) → (a < b → ltb a b ≡ true → C) → (b ≤ a → ltb a b ≡ false → C) → C
  by_ltb a b f g = by_test (ltb a b) (λ e. f (ltb-true a b e) e) (λ e. g (ltb-false a b e) e)

-- Both tests hold.
pub both : (a b : Bool) → a && b ≡ true → (a ≡ true) × (b ≡ true)
both true b e = (refl, e)
both false b e = absurd (false≢true e)

-- What bounds both cases bounds the choice.
pub cond-le : (t : Bool) (a b n : ℕ) → a ≤ n → b ≤ n → cond t a b ≤ n
cond-le true a b n h k = h
cond-le false a b n h k = k
