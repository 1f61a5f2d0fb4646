-- Pieces joined by an octet that none of them has are split there again.
use mathlib.Core.Path.{◌≡◌, refl, ap, ◌∙◌}
use mathlib.Core.List.{List, [], ◌∷◌, ◌++◌, map, Permᴰ}
use mathlib.Core.Bool.{Bool, true, false, ◌&&◌, not, and-eq-true_iff, true≢false}
use Prim.Native.Nat.{ℕ, suc}
use lib.Dec.{eqb}
use lib.ListN.{length}
use borrow.Author.Tests.{not-true}
use Rattle.octets.specs.Pieces.{split_on}
use Rattle.type_texts.specs.TypeTexts.{all_of}
use Rattle.type_texts.specs.Written.{join_with}

-- Whether a text lacks an octet.
unfoldable pub lacks : ℕ → List ℕ → Bool
lacks c [] = true
lacks c (x ∷ l) = not (eqb x c) && lacks c l

split_one : (c : ℕ) (w : List ℕ) → lacks c w ≡ true → split_on c w ≡ w ∷ []
unfolding split_on lacks
split_one c [] e = refl
split_one c (x ∷ w) e =
    let p : (not (eqb x c) ≡ true) × (lacks c w ≡ true) = (and-eq-true_iff _ _).0 e in
    rw (not-true (eqb x c) p.0, split_one c w p.1)

split_front : (c : ℕ) (w l : List ℕ) → lacks c w ≡ true → eqb c c ≡ true → split_on c (w ++ c ∷ l) ≡ w ∷ split_on c l
unfolding split_on lacks
split_front c [] l e r = rw r
split_front c (x ∷ w) l e r =
    let p : (not (eqb x c) ≡ true) × (lacks c w ≡ true) = (and-eq-true_iff _ _).0 e in
    rw (not-true (eqb x c) p.0, split_front c w l p.1 r)

-- Joined pieces are split again.
pub split_join : (c : ℕ) (w : List ℕ) (ws : List (List ℕ)) → eqb c c ≡ true → all_of (lacks c) (w ∷ ws) ≡ true →
    split_on c (join_with c (w ∷ ws)) ≡ w ∷ ws
unfolding join_with all_of
split_join c w [] r e = split_one c w ((and-eq-true_iff _ _).0 e).0
split_join c w (v ∷ ws) r e =
    let p : (lacks c w ≡ true) × (all_of (lacks c) (v ∷ ws) ≡ true) = (and-eq-true_iff _ _).0 e in
    rw (split_front c w (join_with c (v ∷ ws)) p.0 r, split_join c v ws r p.1)

lacks_append : (c : ℕ) (a b : List ℕ) → lacks c a ≡ true → lacks c b ≡ true → lacks c (a ++ b) ≡ true
unfolding lacks
lacks_append c [] b e h = h
lacks_append c (x ∷ a) b e h =
    let p : (not (eqb x c) ≡ true) × (lacks c a ≡ true) = (and-eq-true_iff _ _).0 e in
    rw (p.0, lacks_append c a b p.1 h)

-- What is joined lacks an octet that its pieces lack.
pub lacks_join : (c d : ℕ) (ws : List (List ℕ)) → eqb d c ≡ false → all_of (lacks c) ws ≡ true → lacks c (join_with d ws) ≡ true
unfolding join_with all_of lacks
lacks_join c d [] n e = refl
lacks_join c d (w ∷ []) n e = ((and-eq-true_iff _ _).0 e).0
lacks_join c d (w ∷ v ∷ ws) n e =
    let p : (lacks c w ≡ true) × (all_of (lacks c) (v ∷ ws) ≡ true) = (and-eq-true_iff _ _).0 e in
    lacks_append c w (d ∷ join_with d (v ∷ ws)) p.0 (rw (n, lacks_join c d (v ∷ ws) n p.1))

has_case : (t a b : Bool) → (a ≡ false → b ≡ false) → (t && a) ≡ false → (t && b) ≡ false
has_case true a b f e = f e
has_case false a b f e = refl

has_append : (c : ℕ) (a b : List ℕ) → lacks c a ≡ false → lacks c (a ++ b) ≡ false
unfolding lacks
has_append c [] b e = absurd (true≢false e)
has_append c (x ∷ a) b e = has_case (not (eqb x c)) (lacks c a) (lacks c (a ++ b)) (has_append c a b) e

-- What is joined has an octet that its first piece has.
pub has_join : (c d : ℕ) (w : List ℕ) (ws : List (List ℕ)) → lacks c w ≡ false → lacks c (join_with d (w ∷ ws)) ≡ false
unfolding join_with
has_join c d w [] e = e
has_join c d w (v ∷ ws) e = has_append c w _ e

swap_and : (a b c : Bool) → (a && (b && c)) ≡ (b && (a && c))
swap_and true b c = refl
swap_and false true c = refl
swap_and false false c = refl

-- What is true of every piece is so in any order.
pub all_perm : {A : Type 0} (p : A → Bool) {a b : List A} → Permᴰ a b → all_of p a ≡ all_of p b
unfolding all_of
all_perm p Permᴰ.nil = refl
all_perm p (Permᴰ.cons e d) = rw (e, all_perm p d)
all_perm p (Permᴰ.swap {a = a} {b = b} {l = l} e g) = rw (← e, ← g) (swap_and (p a) (p b) (all_of p l))
all_perm p (Permᴰ.trans d e) = all_perm p d ∙ all_perm p e

-- What follows from a property that every piece has is true of every piece.
pub all_weaken : {A : Type 0} (p q : A → Bool) → ((x : A) → p x ≡ true → q x ≡ true) → (l : List A) → all_of p l ≡ true →
    all_of q l ≡ true
unfolding all_of
all_weaken p q f [] e = refl
all_weaken p q f (x ∷ l) e =
    let h : (p x ≡ true) × (all_of p l ≡ true) = (and-eq-true_iff _ _).0 e in
    rw (f x h.0, all_weaken p q f l h.1)

-- An order changes no length.
pub length-perm : {A : Type 0} {a b : List A} → Permᴰ a b → length a ≡ length b
length-perm Permᴰ.nil = refl
length-perm (Permᴰ.cons e d) = ap suc (length-perm d)
length-perm (Permᴰ.swap e g) = refl
length-perm (Permᴰ.trans d e) = length-perm d ∙ length-perm e

-- What is made of pieces in any order is in the same order.
pub perm-map : {A B : Type 0} (f : A → B) {a b : List A} → Permᴰ a b → Permᴰ (map f a) (map f b)
perm-map f Permᴰ.nil = Permᴰ.nil
perm-map f (Permᴰ.cons e d) = Permᴰ.cons (ap f e) (perm-map f d)
perm-map f (Permᴰ.swap e g) = Permᴰ.swap (ap f e) (ap f g)
perm-map f (Permᴰ.trans d e) = Permᴰ.trans (perm-map f d) (perm-map f e)
