-- Whatever is read as a duration is a text of it.
use mathlib.Core.Path.{◌≡◌, refl, ap, sym, ◌∙◌, subst}
use mathlib.Core.Bool.{Bool, true, false, ◌&&◌, ◌||◌, not}
use mathlib.Core.List.{List, [], ◌∷◌, ◌++◌, append_assoc}
use Prim.Native.Nat.{ℕ, zero, suc, ◌+◌, ◌-◌, ◌*◌, ◌/◌, ◌^◌, ◌<◌, ◌≤◌}
use native.Mathlib.Nat.{pow-succ'}
use native.Mathlib.Omega.{arith}
use lib.Dec.{eqb, leb, ltb}
use lib.ListN.{drop, length, length-append}
use borrow.Author.Tests.{eqb-true, leb-true, ltb-false, le-leb, lt-ltb}
use Rattle.octets.proofs.Laws.Cases.{both, by_test}
use Rattle.texts.specs.Octets.{first_octet}
use Rattle.octets.specs.Found.{Found, found, nothing}
use Rattle.texts.specs.Digits.{put_digits, leading}
use Rattle.texts.specs.Times.{put_fraction, get_fraction}
use Rattle.texts.specs.Years.{size_in}
use Rattle.texts.specs.declared.parts.Fraction.{Fraction}
use Rattle.octets.proofs.Laws.Found.{onward-found, cond-found}
use Rattle.texts.proofs.Laws.Reads.{Is, read, none, onward-is, cond-is, is_back}
use Rattle.texts.proofs.Laws.Digits.{digits_read, ten_le}
use Rattle.texts.proofs.Laws.Sizes.{size_is}
use Rattle.texts.proofs.Laws.Times.{fraction_read}
use Rattle.durations.specs.Parts.{Part, absent, present, digits_in, any_present}
use Rattle.durations.specs.Texts.{date_letters, time_letters, number_digits, put_number, put_part, put_parts}
use Rattle.durations.specs.Texts.{needless, get_number, fraction_length, get_end, get_present, or_absent, get_part, get_parts}
use Rattle.durations.proofs.Laws.Made.{PartFits, AllFit, tidy}
use Rattle.durations.proofs.Laws.Parts.{or-true}
use Rattle.durations.proofs.Laws.Texts.{absent_put}

-- ---- a number

-- Digits without a needless zero are the number's own.
digits_own : (k n : ℕ) → 1 ≤ k → k ≤ 9 → n < 10 ^ k → needless k n ≡ false → k ≡ number_digits n
unfolding needless number_digits
digits_own zero n o h l e = absurd (omega arith)
digits_own (suc zero) n o h l e =
    let z : n / 10 ≡ 0 = omega arith in
    rw z (unfold size_in in refl)
digits_own (suc (suc k)) n o h l e =
    let m : suc (suc k) - 1 ≡ suc k = omega arith in
    let t : ltb n (10 ^ suc k) ≡ false = simp (lt1 k, m) at e in
    let a : 10 ^ suc k ≤ n = ltb-false n (10 ^ suc k) t in
    let b : n < 10 * 10 ^ suc k = rw pow-succ' at l in
    ap suc (sym (size_is 8 (suc k) (n / 10) (omega arith) (omega arith) (omega arith)))
  where
    lt1 : (k : ℕ) → ltb 1 (suc (suc k)) ≡ true
    lt1 k = lt-ltb 1 (suc (suc k)) (omega arith)

pub number_is : (l : List ℕ) → Is put_number (λ (n : ℕ). n < 10 ^ 9) l (get_number l)
unfolding get_number put_number
number_is l =
    cond-is (leb 1 (leading l) && leb (leading l) 9) _ _
    (λ e.
    let p = both (leb 1 (leading l)) (leb (leading l) 9) e in
    let o = leb-true 1 (leading l) p.0 in
    let h = leb-true (leading l) 9 p.1 in
    onward-is _ (digits_read (leading l) l) λ n r q b.
    cond-is (needless (leading l) n) _ _ (λ z. none)
    (λ z.
    let k = digits_own (leading l) n o h b z in
    read n r (subst (λ (w : ℕ). l ≡ put_digits w n ++ r) k q) (below (leading l) n h b)))
    (λ e. none)
  where
    below : (k n : ℕ) → k ≤ 9 → n < 10 ^ k → n < 10 ^ 9
    below k n h b = omega (arith, ten_le k 9 h)

-- ---- a component

-- What stands in the text, and that nothing is left behind a fraction.
pub record PartFrom (letter : ℕ) (l : List ℕ) (p : Part) (r : List ℕ) : Type 0 where
  pub is : l ≡ put_part letter p ++ r
  pub fits : PartFits p
  pub ended : (eqb (digits_in p) 0 || leb (length r) 0) ≡ true

first-is : (q : List ℕ) (c : ℕ) → 0 < c → eqb (first_octet q) c ≡ true → q ≡ c ∷ drop 1 q
first-is [] c h e = absurd (omega (arith, eqb-true 0 c e))
first-is (x ∷ q) c h e = ap (λ (y : ℕ). y ∷ q) (eqb-true x c e)

end_from : (letter n d : ℕ) (l : List ℕ) (p : Part) (r : List ℕ) → 0 < letter → n < 10 ^ 9 → d ≤ 9 → get_end letter n d l ≡ found p r
    → PartFrom letter (put_number n ++ l) p r
unfolding get_end
end_from letter n d l p r o h k e =
    let b = onward-found (get_fraction d l) _ p r e in
    let c = cond-found (eqb (first_octet b.1) letter && (eqb d 0 || leb (length b.1) 1)) _ p r b.3 in
    let t = both (eqb (first_octet b.1) letter) (eqb d 0 || leb (length b.1) 1) c.0 in
    let f = is_back b.0 b.1 (fraction_read d l) b.2 in
    let q = first-is b.1 letter o t.0 in
    let v : present n d b.0 ≡ p = let z = c.1 in cc in
    let w : drop 1 b.1 ≡ r = let z = c.1 in cc in
    subst (λ (x : Part). PartFrom letter (put_number n ++ l) x r) v
    (subst (λ (x : List ℕ). PartFrom letter (put_number n ++ l) (present n d b.0) x) w
    (record {
      is = text b.0 b.1 f.0 q;
      fits = (h, k, f.1.0, f.1.1);
      ended = last b.1 q t.1;
    }))
  where
    text : (x : Fraction) (y : List ℕ) → l ≡ put_fraction d x ++ y → y ≡ letter ∷ drop 1 y
        → put_number n ++ l ≡ put_part letter (present n d x) ++ drop 1 y
    text x y e g = unfold put_part in rw (e, g) (simp append_assoc)

    last : (y : List ℕ) → y ≡ letter ∷ drop 1 y → (eqb d 0 || leb (length y) 1) ≡ true → (eqb d 0 || leb (length (drop 1 y)) 0) ≡ true
    last [] g e = or-true (eqb d 0)
    last (x ∷ y) g e = by_test (eqb d 0) (λ z. rw z) (λ z. let i : leb (suc (length y)) 1 ≡ true = simp z at e in rw
        (z, le-leb (length y) 0 (omega (arith, leb-true (suc (length y)) 1 i))))

part_from : (letter : ℕ) (l : List ℕ) (p : Part) (r : List ℕ) → 0 < letter → get_part letter l ≡ found p r → PartFrom letter l p r
unfolding get_part get_present
part_from letter l p r o = go (get_present letter l) refl
  where
    there : (q : Part) (s : List ℕ) → get_present letter l ≡ found q s → PartFrom letter l q s
    there q s e =
        let b = onward-found (get_number l) _ q s e in
        let n = is_back b.0 b.1 (number_is l) b.2 in
        let c = cond-found (leb (fraction_length b.1) 9) _ q s b.3 in
        subst (λ (x : List ℕ). PartFrom letter x q s) (sym n.0)
        (end_from letter b.0 (fraction_length b.1) b.1 q s o n.1 (leb-true (fraction_length b.1) 9 c.0) c.1)

    go : (g : Found ℕ Part) → get_present letter l ≡ g → or_absent l g ≡ found p r → PartFrom letter l p r
    go (found q s) e h =
        let a : q ≡ p = cc in
        let b : s ≡ r = cc in
        subst (λ (x : Part). PartFrom letter l x r) a (subst (λ (x : List ℕ). PartFrom letter l q x) b (there q s e))
    go nothing e h =
        let a : absent ≡ p = cc in
        let b : l ≡ r = cc in
        subst (λ (x : Part). PartFrom letter l x r) a (subst (λ (x : List ℕ). PartFrom letter l absent x) b
        (record { is = unfold put_part in refl; fits = tt; ended = refl }))

-- ---- several components

-- Whether no component has a fraction.
unfoldable pub bare : List Part → Bool
bare [] = true
bare (p ∷ ps) = eqb (digits_in p) 0 && bare ps

pub record PartsFrom (ls : List ℕ) (l : List ℕ) (ps : List Part) (r : List ℕ) : Type 0 where
  pub is : l ≡ put_parts ls ps ++ r
  pub fits : AllFit ps
  pub count : length ps ≡ length ls
  pub tidied : tidy ps ≡ true
  pub ended : (bare ps || leb (length r) 0) ≡ true

unfoldable pub AllPos : List ℕ → Type 0
AllPos [] = Unit {0}
AllPos (c ∷ cs) = (0 < c) × AllPos cs

-- A component that is there has a text.
put_some : (c n d : ℕ) (f : Fraction) → 0 < length (put_part c (present n d f))
unfolding put_part
put_some c n d f = simp length-append (omega arith)

-- From nothing no component is read.
pub none_read_lem : (ls : List ℕ) (ps : List Part) (r : List ℕ) → length ps ≡ length ls → [] ≡ put_parts ls ps ++ r → any_present ps ≡ false
unfolding put_parts any_present
none_read_lem [] [] r n e = refl
none_read_lem [] (p ∷ ps) r n e = absurd (omega arith)
none_read_lem (c ∷ cs) [] r n e = refl
none_read_lem (c ∷ cs) (absent ∷ ps) r n e = none_read_lem cs ps r (omega arith) (e ∙ rw (absent_put c))
none_read_lem (c ∷ cs) (present x d f ∷ ps) r n e =
    let k : 0 ≡ length (put_part c (present x d f)) + length (put_parts cs ps) + length r = ap length e ∙ simp length-append in
    absurd (omega (arith, put_some c x d f))

-- A list of no octets.
pub empty : (l : List ℕ) → leb (length l) 0 ≡ true → l ≡ []
empty [] e = refl
empty (x ∷ l) e = absurd (omega (arith, leb-true (suc (length l)) 0 e))

not-false : (b : Bool) → b ≡ false → not b ≡ true
not-false b e = rw e

pub parts_from_lem : (ls l : List ℕ) (ps : List Part) (r : List ℕ) → AllPos ls → get_parts ls l ≡ found ps r → PartsFrom ls l ps r
unfolding get_parts AllPos
parts_from_lem [] l ps r o e =
    let a : [] ≡ ps = cc in
    let b : l ≡ r = cc in
    subst (λ (x : List Part). PartsFrom [] l x r) a (subst (λ (x : List ℕ). PartsFrom [] l [] x) b
    (record { is = unfold put_parts in refl; fits = unfold AllFit in tt; count = refl; tidied = unfold tidy in refl; ended = unfold bare in refl }))
parts_from_lem (c ∷ cs) l ps r o e =
    let b = onward-found (get_part c l) _ ps r e in
    let p = part_from c l b.0 b.1 o.0 b.2 in
    let d = onward-found (get_parts cs b.1) _ ps r b.3 in
    let q = parts_from_lem cs b.1 d.0 d.1 o.1 d.2 in
    let v : b.0 ∷ d.0 ≡ ps = let z = d.3 in cc in
    let w : d.1 ≡ r = let z = d.3 in cc in
    subst (λ (x : List Part). PartsFrom (c ∷ cs) l x r) v (subst (λ (x : List ℕ). PartsFrom (c ∷ cs) l (b.0 ∷ d.0) x) w
    (joined c cs l b.0 b.1 d.0 d.1 p q))
  where
    joined : (c : ℕ) (cs l : List ℕ) (p : Part) (k : List ℕ) (qs : List Part) (s : List ℕ) → PartFrom c l p k → PartsFrom cs k qs s
        → PartsFrom (c ∷ cs) l (p ∷ qs) s
    joined c cs l p k qs s g h = record {
      is = unfold put_parts in rw (g.is, h.is) (simp append_assoc);
      fits = unfold AllFit in (g.fits, h.fits);
      count = ap suc h.count;
      tidied = unfold tidy in rw (h.tidied, first (eqb (digits_in p) 0) g.ended);
      ended = unfold bare in both_ended (eqb (digits_in p) 0) g.ended;
    }
      where
        first : (t : Bool) → (t || leb (length k) 0) ≡ true → (t || not (any_present qs)) ≡ true
        first true e = refl
        first false e = not-false (any_present qs) (none_read_lem cs qs s h.count (sym (empty k e) ∙ h.is))

        both_ended : (t : Bool) → (t || leb (length k) 0) ≡ true → (t && bare qs || leb (length s) 0) ≡ true
        both_ended true e = h.ended
        both_ended false e =
            let z : 0 ≡ length (put_parts cs qs) + length s = ap length (sym (empty k e) ∙ h.is) ∙ length-append (put_parts cs qs) s in
            le-leb (length s) 0 (omega arith)

pub date_pos : AllPos date_letters
unfolding AllPos
date_pos = (omega arith, (omega arith, (omega arith, (omega arith, tt))))

pub time_pos : AllPos time_letters
unfolding AllPos
time_pos = (omega arith, (omega arith, (omega arith, tt)))
