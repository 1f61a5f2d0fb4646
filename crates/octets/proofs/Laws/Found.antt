-- What a reader found is one thing, and what is left is one rest.
use mathlib.Core.Path.{◌≡◌, refl, sym, ap, ◌∙◌}
use mathlib.Core.Bool.{Bool, true, false, cond}
use mathlib.Core.List.{List, [], ◌∷◌}
use Prim.Native.Nat.{ℕ}
use native.Mathlib.Omega.{arith}
use Rattle.octets.specs.Found.{Found, found, nothing, onward}

module _ {X A : Type 0} where
  pub nothing-not : {a : A} {s : List X} {C : Type 0} → nothing ≡ found a s → C
  nothing-not e = absurd (let z : ◌≡◌ {A = ℕ} 0 1 = cc in omega arith)

  pub found-value : {a b : A} {s t : List X} → found a s ≡ found b t → a ≡ b
  found-value e = cc

  pub found-rest : {a b : A} {s t : List X} → found a s ≡ found b t → s ≡ t
  found-rest e = cc

  pub found-more : {a b : A} {x : X} {s : List X} {C : Type 0} → found a (x ∷ s) ≡ found b [] → C
  found-more e = absurd (let z : ◌≡◌ {A = ℕ} 0 1 = cc in omega arith)

  -- A chain of two readers that found something: what the first found, and the second from there on.
  pub onward-found : {B : Type 0} (m : Found X A) (k : A → List X → Found X B) (b : B) (r : List X) → onward m k ≡ found b r →
      (a : A) × (l : List X) × (m ≡ found a l) × (k a l ≡ found b r)
  onward-found (found a l) k b r e = (a, l, refl, e)
  onward-found nothing k b r e = absurd (let z : ◌≡◌ {A = ℕ} 0 1 = cc in omega arith)

  -- Where something was found after a test, the test was passed.
  pub cond-found : (t : Bool) (m : Found X A) (a : A) (r : List X) → cond t m nothing ≡ found a r → (t ≡ true) × (m ≡ found a r)
  cond-found true m a r e = (refl, e)
  cond-found false m a r e = nothing-not e

-- What a callee's answer says of a reading, once a match has told which answer it is.
pub told : {A B : Type 0} (f : A → B) {r k : A} {m : B} → f r ≡ m → r ≡ k → m ≡ f k
told f e h = sym e ∙ ap f h
