-- Equal lists of octets.
use mathlib.Core.Path.{◌≡◌, refl, ap}
use Rattle.std.specs.Prelude.{◌==◌, zip}
use Rattle.std.specs.List.{list_all}
use native.Mathlib.Omega.{arith}
use mathlib.Core.Bool.{true, false, and-false, and-eq-true_iff, false≢true}
use mathlib.Core.List.{List, [], ◌∷◌}
use Prim.Native.Nat.{ℕ, suc}
use lib.Dec.{eqb}
use lib.ListN.{length}
use borrow.Author.Tests.{eq-eqb, eqb-true}
use Rattle.octets.specs.Octets.{eq_list}

-- Lists that test as equal are equal.
pub equal : (a b : List ℕ) → eq_list a b ≡ true → a ≡ b
unfolding eq_list
equal [] [] e = refl
equal [] (y ∷ b) e = absurd (false≢true e)
equal (x ∷ a) [] e = absurd (false≢true e)
equal (x ∷ a) (y ∷ b) e =
    let p : (eqb x y ≡ true) × (eq_list a b ≡ true) = (and-eq-true_iff _ _).0 e in
    let q : x ≡ y = eqb-true x y p.0 in
    let t : a ≡ b = equal a b p.1 in
    cc

self : (l : List ℕ) → eq_list l l ≡ true
unfolding eq_list
self [] = refl
self (x ∷ l) = rw (eq-eqb x x refl, self l)

-- Equal lists test as equal.
pub equal_test : (a b : List ℕ) → a ≡ b → eq_list a b ≡ true
equal_test a b e = rw e (self b)

-- Lists of one length whose octets are the same in pairs are the same.
pub all-same : (a b : List ℕ) → length a ≡ length b → list_all (λ p. p.0 == p.1) (zip a b) ≡ eq_list a b
unfolding eq_list
all-same [] [] e = refl
all-same [] (y ∷ b) e = absurd (let z : ◌≡◌ {A = ℕ} 0 1 = cc in omega arith)
all-same (x ∷ a) [] e = absurd (let z : ◌≡◌ {A = ℕ} 0 1 = cc in omega arith)
all-same (x ∷ a) (y ∷ b) e = rw (all-same a b (omega arith))

-- Lists of two lengths differ.
pub unequal_length : (a b : List ℕ) → (length a ≡ length b → ⊥) → eq_list a b ≡ false
unfolding eq_list
unequal_length [] [] n = absurd (n refl)
unequal_length [] (y ∷ b) n = refl
unequal_length (x ∷ a) [] n = refl
unequal_length (x ∷ a) (y ∷ b) n = simp (unequal_length a b (λ e. n (ap suc e)), and-false)
