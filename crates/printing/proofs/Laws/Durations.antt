-- The canonical text of a duration: its parts, how long it is, and in a lent buffer.
use mathlib.Core.Path.{◌≡◌, refl, ◌∙◌}
use mathlib.Core.Bool.{Bool, true, false, ◌&&◌, ◌||◌, not, cond, and-false}
use mathlib.Core.List.{List, [], ◌∷◌, ◌++◌, append_assoc, append-nil}
use Prim.Native.Nat.{ℕ, zero, suc, ◌+◌, ◌-◌, ◌*◌, ◌/◌, ◌≤◌, ◌<◌}
use native.Mathlib.Numerals.{add-one}
use native.Mathlib.Omega.{arith}
use lib.Dec.{eqb, leb, ltb}
use lib.ListN.{length, length-append, length-take, get_or, set, take}
use lib.Seq.{drop-cons, take_at}
use borrow.Author.Tests.{eq-eqb, ne_eqb, eqb-true, eqb-false, le-leb, lt-leb, leb-true}
use Rattle.octets.proofs.Laws.Cases.{both, by_test, cond-le}
use Rattle.octets.specs.Stores.{StoredText}
use Rattle.octets.proofs.Laws.Stores.{sets-front}
use Rattle.texts.specs.Years.{size_in}
use Rattle.texts.specs.Times.{fraction, put_fraction}
use Rattle.texts.specs.declared.parts.Fraction.{Fraction}
use Rattle.texts.proofs.Laws.Digits.{length_put}
use Rattle.texts.proofs.Laws.Sizes.{size_zero}
use Rattle.durations.specs.declared.Duration.{Duration}
use Rattle.durations.specs.Parts.{present, any_present}
use Rattle.durations.specs.Durations.{numbers_of, shown, spellable, exists_duration}
use Rattle.durations.specs.Texts.{letter_p, number_digits, put_number, put_part, put_parts, put_times, put_duration, put_all}
use Rattle.durations.specs.Texts.{render_duration, canonical, duration_text}
use Rattle.durations.proofs.Laws.Parts.{exists_parts, ends_within}
use Rattle.durations.proofs.Laws.Texts.{absent_put}
use Rattle.durations.proofs.Laws.Sizes.{duration-length}
use Rattle.printing.specs.Canonical.{text_capacity}
use Rattle.printing.proofs.Laws.Canonical.{fraction-length}
use Rattle.printing.specs.Durations.{printable_duration, duration_length, buffer_with_duration}
use Rattle.printing.specs.Durations.{designators, between, earlier_part, put_earlier, put_all_earlier}

-- ---- how many digits a number has: w are counted, and m is left

pub digits-first : (n : ℕ) → 1 + size_in 8 (n / 10) ≡ number_digits n
unfolding number_digits
digits-first n = omega arith

digits_case : (w m k f : ℕ) → 9 - w ≡ f → w < 9 → (m ≡ 0 → ⊥) → w + size_in (9 - w) m ≡ k → w + 1 + size_in (9 - (w + 1)) (m / 10) ≡ k
unfolding size_in
digits_case w m k zero e h z c = absurd (omega arith)
digits_case w m k (suc f) e h z c =
    let g : 9 - (w + 1) ≡ f = omega arith in
    let a : w + size_in (suc f) m ≡ k = rw e at c in
    let b : w + suc (size_in f (m / 10)) ≡ k = rw (ne_eqb m 0 z) at a in
    rw g (omega arith)

pub digits_next : (w m k : ℕ) → w < 9 → (m ≡ 0 → ⊥) → w + size_in (9 - w) m ≡ k → w + 1 + size_in (9 - (w + 1)) (m / 10) ≡ k
digits_next w m k = digits_case w m k (9 - w) refl

pub digits_none : (w m k : ℕ) → m ≡ 0 → w + size_in (9 - w) m ≡ k → w ≡ k
digits_none w m k z c = let a : w + size_in (9 - w) 0 ≡ k = rw z at c in omega (arith, size_zero (9 - w))

pub digits_all : (w m k : ℕ) → w ≡ 9 → w + size_in (9 - w) m ≡ k → 9 ≡ k
unfolding size_in
digits_all w m k e c = rw e at c

-- ---- components before the last

pub earlier_none : (c n : ℕ) → n ≡ 0 → put_part c (earlier_part n) ≡ []
unfolding put_part
earlier_none c n e = rw (eq-eqb n 0 e)

pub earlier_there : (c n : ℕ) → (n ≡ 0 → ⊥) → put_part c (earlier_part n) ≡ put_number n ++ c ∷ []
unfolding put_part put_fraction
earlier_there c n e = rw (ne_eqb n 0 e)

between_first : (l : List ℕ) (place end : ℕ) → place < end → end ≤ length l → between place end l ≡ get_or l place 0 ∷ between (place + 1) end l
between_first l place end h k =
    let e : end - place ≡ suc (end - (place + 1)) = omega arith in
    rw (e, add-one place, drop-cons l place 0 (omega arith))

-- The first of several, and the others; and none.
pub several_first : (ns : List ℕ) (place end : ℕ) → place < end → end ≤ 7 → length ns ≡ 7
    → put_earlier (between place end designators) (between place end ns)
    ≡ put_part (get_or designators place 0) (earlier_part (get_or ns place 0)) ++ put_earlier (between (place + 1) end designators) (between (place + 1) end ns)
unfolding put_earlier
several_first ns place end h k n = rw (between_first designators place end h k, between_first ns place end h (omega arith))

pub several_none : (ns : List ℕ) (place end : ℕ) → end ≤ place → put_earlier (between place end designators) (between place end ns) ≡ []
unfolding put_earlier
several_none ns place end h = let e : end - place ≡ 0 = omega arith in rw e

-- ---- the whole text

-- The last component, at the place k.
abbrev last_of : ℕ → ℕ → Fraction → List ℕ → List ℕ
last_of k d f ns = put_part (get_or designators k 0) (present (get_or ns k 0) d f)

or-true : (b : Bool) → (b || true) ≡ true
or-true true = refl
or-true false = refl

seven : (k d : ℕ) (f : Fraction) (y m w a h i s : ℕ) → k ≤ 6 → put_all (shown [] k d f (y ∷ m ∷ w ∷ a ∷ h ∷ i ∷ s ∷ []))
    ≡ letter_p ∷ (put_all_earlier k (y ∷ m ∷ w ∷ a ∷ h ∷ i ∷ s ∷ []) ++ last_of k d f (y ∷ m ∷ w ∷ a ∷ h ∷ i ∷ s ∷ []))
unfolding shown put_duration put_parts put_times put_all_earlier put_earlier any_present
seven zero d f y m w a h i s e = simp (append-nil, absent_put)
seven (suc zero) d f y m w a h i s e = simp (append_assoc, append-nil, absent_put)
seven (suc (suc zero)) d f y m w a h i s e = simp (append_assoc, append-nil, absent_put)
seven (suc (suc (suc zero))) d f y m w a h i s e = simp (append_assoc, append-nil)
seven (suc (suc (suc (suc zero)))) d f y m w a h i s e = simp (append_assoc, append-nil, absent_put)
seven (suc (suc (suc (suc (suc zero))))) d f y m w a h i s e = simp (append_assoc, append-nil, absent_put, or-true)
seven (suc (suc (suc (suc (suc (suc zero)))))) d f y m w a h i s e = simp (append_assoc, append-nil, or-true)
seven (suc (suc (suc (suc (suc (suc (suc k))))))) d f y m w a h i s e = absurd (omega arith)

spell_none : (k : ℕ) → spellable k [] ≡ []
unfolding spellable
spell_none k = go (eqb k 2)
  where
    go : (b : Bool) → cond b [] (set [] 2 false) ≡ []
    go true = refl
    go false = refl

-- `P`, the components before the last one, and the last one.
pub duration_parts : (d : Duration) → d.last ≤ 6 → duration_text d ≡ letter_p ∷ (put_all_earlier d.last (numbers_of d)
    ++ put_part (get_or designators d.last 0) (present (get_or (numbers_of d) d.last 0) d.digits (fraction false d.fraction)))
unfolding render_duration
duration_parts d h =
    rw (spell_none d.last, and-false (not (eqb d.digits 0)))
    (seven d.last d.digits (fraction false d.fraction) d.years d.months d.weeks d.days d.hours d.minutes d.seconds h)

-- ---- how long the text is

size_most : (f n : ℕ) → size_in f n ≤ f
unfolding size_in
size_most zero n = omega arith
size_most (suc f) n = cond-le (eqb n 0) 0 (suc (size_in f (n / 10))) (suc f) (omega arith) (omega (arith, size_most f (n / 10)))

number_length : (n : ℕ) → length (put_number n) ≤ 9
unfolding put_number number_digits
number_length n = simp length_put (omega (arith, size_most 8 (n / 10)))

earlier_length : (c n : ℕ) → length (put_part c (earlier_part n)) ≤ 10
earlier_length c n = by_test (eqb n 0)
    (λ e. rw (earlier_none c n (eqb-true n 0 e)) (omega arith))
    (λ e. rw (earlier_there c n (eqb-false n 0 e), length-append) (omega (arith, number_length n)))

several_length : (cs ns : List ℕ) → length (put_earlier cs ns) ≤ 10 * length cs
unfolding put_earlier
several_length [] ns = omega arith
several_length (c ∷ cs) [] = omega arith
several_length (c ∷ cs) (n ∷ ns) = rw length-append (omega (arith, earlier_length c n, several_length cs ns))

between-length : (first end : ℕ) (l : List ℕ) → length (between first end l) ≤ end - first
between-length first end l = simp length-take (omega arith)

all_length : (k : ℕ) (ns : List ℕ) → k ≤ 6 → length (put_all_earlier k ns) ≤ 61
unfolding put_all_earlier
all_length k ns h = by_test (ltb k 4)
    (λ e. rw e (omega (arith, several_length (between 0 k designators) (between 0 k ns), between-length 0 k designators)))
    (λ e. rw (e, length-append) (omega (
      arith,
      several_length (between 0 4 designators) (between 0 4 ns),
      several_length (between 4 k designators) (between 4 k ns),
      between-length 0 4 designators,
      between-length 4 k designators,
    )))

last_length : (c n d : ℕ) (f : Fraction) → d ≤ 9 → length (put_part c (present n d f)) ≤ 20
unfolding put_part
last_length c n d f h = simp length-append (omega (arith, number_length n, fraction-length d f h))

-- The text of a duration that is printed has at most 82 octets, ..
pub duration_most : (d : Duration) → d.last ≤ 6 → d.digits ≤ 9 → length (duration_text d) ≤ 82
duration_most d h k =
    let c = get_or designators d.last 0 in
    let n = get_or (numbers_of d) d.last 0 in
    let l = last_length c n d.digits (fraction false d.fraction) k in
    rw (duration_parts d h, length-append) (omega (arith, all_length d.last (numbers_of d) h))

-- ---- in a lent buffer

-- .. and that of a duration that exists at most 72.
pub duration-text-length : (d : Duration) → exists_duration d ≡ true → length (duration_text d) ≤ 72
duration-text-length d e = duration-length canonical d e

module _ (d : Duration) (b : List ℕ) where
  pub can_print_duration : d.last ≤ 6 → d.digits ≤ 9 → text_capacity ≤ length b → printable_duration d b ≡ true
  unfolding printable_duration
  can_print_duration h k l = rw (le-leb d.last 6 h, le-leb d.digits 9 k, le-leb text_capacity (length b) l)

  -- A duration that exists is printed.
  pub exists-printed : exists_duration d ≡ true → text_capacity ≤ length b → printable_duration d b ≡ true
  exists-printed e l =
      let x = exists_parts d e in
      let h = ends_within d.last (numbers_of d) x.ends in
      can_print_duration (omega arith) (leb-true d.digits 9 x.few) l

  pub far_last : 6 < d.last → printable_duration d b ≡ false
  unfolding printable_duration
  far_last h = rw (lt-leb d.last 6 h)

  pub many_fraction-digits : 9 < d.digits → printable_duration d b ≡ false
  unfolding printable_duration
  many_fraction-digits h = rw (lt-leb d.digits 9 h, and-false (leb d.last 6))

  pub short-room : length b < text_capacity → printable_duration d b ≡ false
  unfolding printable_duration
  short-room h = rw (lt-leb text_capacity (length b) h, and-false (leb d.last 6 && leb d.digits 9))

  pub duration-not-printed : printable_duration d b ≡ false → (0 ≡ duration_length d b) × (b ≡ buffer_with_duration d b)
  unfolding duration_length buffer_with_duration
  duration-not-printed e = (rw e, rw e)

  pub duration-printed : {m : List ℕ} {r : ℕ} → printable_duration d b ≡ true → r ≤ length b → StoredText b m 0 (duration_text d) r
      → (r ≡ duration_length d b) × (m ≡ buffer_with_duration d b)
  unfolding duration_length buffer_with_duration
  duration-printed e h p =
      let l : length (duration_text d) ≤ length b = omega (arith, p.end) in
      (rw e (p.end ∙ omega arith), rw e (p.text ∙ sets-front b (duration_text d) l))

  -- the answered length is the text's, and takes the text of the buffer
  pub duration_size : printable_duration d b ≡ true → duration_length d b ≡ length (duration_text d)
  unfolding duration_length
  duration_size e = rw e

  pub duration-front : printable_duration d b ≡ true → take (duration_length d b) (buffer_with_duration d b) ≡ duration_text d
  unfolding duration_length buffer_with_duration
  duration-front e = rw e (take_at (duration_text d) _ (length (duration_text d)) refl)

  pub duration-within : duration_length d b ≤ 82
  unfolding duration_length printable_duration
  duration-within = by_test (printable_duration d b)
      (λ e.
      let p = both (leb d.last 6 && leb d.digits 9) (leb text_capacity (length b)) e in
      let q = both (leb d.last 6) (leb d.digits 9) p.0 in
      rw e (duration_most d (leb-true d.last 6 q.0) (leb-true d.digits 9 q.1)))
      (λ e. rw e (omega arith))

  -- What a caller learns of a duration that exists, in a buffer that has room for texts.
  pub duration_taken : {n : ℕ} {m : List ℕ} → exists_duration d ≡ true → text_capacity ≤ length b → n ≡ duration_length d b → m ≡ buffer_with_duration d b
      → (n ≡ length (duration_text d)) × (n ≤ 72) × (take n m ≡ duration_text d)
  duration_taken e l x y =
      let p = exists-printed e l in
      let z = x ∙ duration_size p in
      (z, omega (arith, z, duration-text-length d e), rw (x, y) (duration-front p))
