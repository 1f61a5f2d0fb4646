-- An integer as the difference of two naturals, `sub_ℕ a b`, whose parts `omega` reads, and what the operations make of it.
use mathlib.Core.Path.{◌≡◌, refl, sym, ap, subst, ◌∙◌}
use mathlib.Core.Bool.{Bool, true, false}
use Prim.Native.Nat.{ℕ, zero, suc, ◌+◌, ◌-◌, ◌*◌, ◌/◌, ◌%◌, ◌<◌}
use native.Mathlib.Nat.{mul_comm, mul-add, mul-suc, mul-add-div, div-eq_of_lt, div-add-mod, mod-lt, mod-eq_of_lt, mul-add-mod_self_left, div-lt_iff_lt-mul}
use native.Mathlib.Omega.{arith}
use lib.Dec.{ltb}
use lib.IntN.{ℤ, pos, negsuc, neg_ℤ, ◌+ℤ◌, ◌-ℤ◌, ◌*ℤ◌, sub_ℕ}
use borrow.Author.Tests.{le-ltb, lt-ltb, ltb-true, ltb-false}
use Rattle.calendar.specs.Integers.{quotient, remainder}

-- its two forms
pub is_pos : (a b r : ℕ) → a ≡ b + r → sub_ℕ a b ≡ pos r
is_pos a b r e = simp (le-ltb a b (omega arith)) (ap pos (omega arith))

pub is-neg : (a b r : ℕ) → a + suc r ≡ b → sub_ℕ a b ≡ negsuc r
is-neg a b r e = simp (lt-ltb a b (omega arith)) (ap negsuc (omega arith))

-- a law for a difference, from one for each form
pub by_form : (P : ℤ → Type 0) (a b : ℕ) → ((r : ℕ) → a ≡ b + r → P (pos r)) → ((r : ℕ) → a + suc r ≡ b → P (negsuc r)) → P (sub_ℕ a b)
by_form P a b p n = go (ltb a b) refl where
  go : (t : Bool) → ltb a b ≡ t → P (sub_ℕ a b)
  go true e = let h = ltb-true a b e in subst P (sym (is-neg a b (b - suc a) (omega arith))) (n (b - suc a) (omega arith))
  go false e = let h = ltb-false a b e in subst P (sym (is_pos a b (a - b) (omega arith))) (p (a - b) (omega arith))

-- two differences are equal where the cross sums are
pub same : (a b d e : ℕ) → a + e ≡ d + b → sub_ℕ a b ≡ sub_ℕ d e
same a b d e h = by_form (λ (z : ℤ). z ≡ sub_ℕ d e) a b (λ r g. sym (is_pos d e r (omega arith))) (λ r g. sym (is-neg d e r (omega arith)))

pub add : (a b d e : ℕ) → sub_ℕ a b +ℤ sub_ℕ d e ≡ sub_ℕ (a + d) (b + e)
add a b d e =
    by_form (λ (z : ℤ). z +ℤ sub_ℕ d e ≡ sub_ℕ (a + d) (b + e)) a b
    (λ r g. by_form (λ (z : ℤ). pos r +ℤ z ≡ sub_ℕ (a + d) (b + e)) d e
    (λ s h. sym (is_pos (a + d) (b + e) (r + s) (omega arith)))
    (λ s h. same r (suc s) (a + d) (b + e) (omega arith)))
    (λ r g. by_form (λ (z : ℤ). negsuc r +ℤ z ≡ sub_ℕ (a + d) (b + e)) d e
    (λ s h. same s (suc r) (a + d) (b + e) (omega arith))
    (λ s h. sym (is-neg (a + d) (b + e) (suc (r + s)) (omega arith))))

pub add-pos : (a b k : ℕ) → sub_ℕ a b +ℤ pos k ≡ sub_ℕ (a + k) b
add-pos a b k =
    by_form (λ (z : ℤ). z +ℤ pos k ≡ sub_ℕ (a + k) b) a b
    (λ r g. sym (is_pos (a + k) b (r + k) (omega arith)))
    (λ r g. same k (suc r) (a + k) b (omega arith))

pub neg-pos : (r a b : ℕ) → a ≡ b + r → neg_ℤ (pos r) ≡ sub_ℕ b a
neg-pos zero a b h = sym (is_pos b a 0 (omega arith))
neg-pos (suc r) a b h = sym (is-neg b a r (omega arith))

neg : (a b : ℕ) → neg_ℤ (sub_ℕ a b) ≡ sub_ℕ b a
neg a b = by_form (λ (z : ℤ). neg_ℤ z ≡ sub_ℕ b a) a b (λ r g. neg-pos r a b g) (λ r g. sym (is_pos b a (suc r) (omega arith)))

pub sub : (a b d e : ℕ) → sub_ℕ a b -ℤ sub_ℕ d e ≡ sub_ℕ (a + e) (b + d)
sub a b d e = ap (λ (z : ℤ). sub_ℕ a b +ℤ z) (neg d e) ∙ add a b e d

pub times : (k a b : ℕ) → pos k *ℤ sub_ℕ a b ≡ sub_ℕ (k * a) (k * b)
times k a b =
    by_form (λ (z : ℤ). pos k *ℤ z ≡ sub_ℕ (k * a) (k * b)) a b
    (λ r g. sym (is_pos (k * a) (k * b) (k * r) (ap (λ (x : ℕ). k * x) g ∙ mul-add k b r)))
    (λ r g. neg-pos (k * suc r) (k * b) (k * a) (ap (λ (x : ℕ). k * x) (sym g) ∙ mul-add k a (suc r)))

-- division of a difference whose second part is a multiple of d
module _ (d : ℕ) (some : 0 < d) where
  module _ (a m r : ℕ) (e : a + suc r ≡ d * m) where
    fewer : r / d < m
    fewer = let h : r < m * d = rw (mul_comm m d) (omega arith) in (div-lt_iff_lt-mul some).1 h

    -- a number below a multiple of d: the quotient and the remainder count down from it
    down : a ≡ d * (m - suc (r / d)) + (d - 1 - r % d)
    down =
        let f = fewer in
        let p : m ≡ suc (r / d) + (m - suc (r / d)) = omega arith in
        let q : d * m ≡ d * suc (r / d) + d * (m - suc (r / d)) = ap (λ (x : ℕ). d * x) p ∙ mul-add d (suc (r / d)) (m - suc (r / d)) in
        let s : d * suc (r / d) ≡ d * (r / d) + d = mul-suc d (r / d) in
        omega (arith, div-add-mod r d, mod-lt r some)

  pub quotient_of : (a b m : ℕ) → b ≡ d * m → quotient (sub_ℕ a b) d ≡ sub_ℕ (a / d) m
  unfolding quotient
  quotient_of a b m e =
      by_form (λ (z : ℤ). quotient z d ≡ sub_ℕ (a / d) m) a b
      (λ r g. sym (is_pos (a / d) m (r / d) (ap (λ (x : ℕ). x / d) (g ∙ ap (λ (x : ℕ). x + r) e) ∙ mul-add-div some m r)))
      (λ r g.
      let f = fewer a m r (g ∙ e) in
      let l : d - 1 - r % d < d = omega arith in
      let h : a / d ≡ (m - suc (r / d)) + (d - 1 - r % d) / d = ap (λ (x : ℕ). x / d) (down a m r (g ∙ e)) ∙ mul-add-div some _ _ in
      sym (is-neg (a / d) m (r / d) (omega (arith, h, div-eq_of_lt l))))

  pub remainder_of : (a b m : ℕ) → b ≡ d * m → remainder (sub_ℕ a b) d ≡ a % d
  unfolding remainder
  remainder_of a b m e =
      by_form (λ (z : ℤ). remainder z d ≡ a % d) a b
      (λ r g. sym (ap (λ (x : ℕ). x % d) (g ∙ ap (λ (x : ℕ). x + r) e) ∙ mul-add-mod_self_left d m r))
      (λ r g.
      let l : d - 1 - r % d < d = omega arith in
      sym (ap (λ (x : ℕ). x % d) (down a m r (g ∙ e)) ∙ mul-add-mod_self_left d _ _ ∙ mod-eq_of_lt l))

  -- what the quotient and the remainder are: y is d times the one and the other more, which is below d
  pub divides : (y : ℤ) → y ≡ pos d *ℤ quotient y d +ℤ pos (remainder y d)
  unfolding quotient remainder
  divides (pos k) = ap pos (sym (div-add-mod k d))
  divides (negsuc k) =
      let s : d * suc (k / d) ≡ d * (k / d) + d = mul-suc d (k / d) in
      let l = mod-lt k some in
      sym (ap (λ (z : ℤ). z +ℤ pos (d - 1 - k % d)) (neg-pos (d * suc (k / d)) (d * suc (k / d)) 0 (omega arith))
      ∙ add-pos 0 (d * suc (k / d)) (d - 1 - k % d)
      ∙ is-neg (0 + (d - 1 - k % d)) (d * suc (k / d)) k (omega (arith, div-add-mod k d)))

  pub remainder_less : (y : ℤ) → remainder y d < d
  unfolding remainder
  remainder_less (pos k) = mod-lt k some
  remainder_less (negsuc k) = omega arith
