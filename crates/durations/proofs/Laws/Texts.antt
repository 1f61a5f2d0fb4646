-- A duration's text and its reader.
use Rattle.std.specs.Prelude.{Some}
use mathlib.Core.Path.{◌≡◌, refl, ap, ◌∙◌}
use mathlib.Core.Bool.{Bool, true, false, ◌&&◌, ◌||◌, not, cond}
use mathlib.Core.List.{List, [], ◌∷◌, ◌++◌, append_assoc, append-nil}
use Prim.Native.Nat.{ℕ, zero, suc}
use native.Mathlib.Omega.{arith}
use lib.Dec.{eqb, leb}
use lib.ListN.{length}
use borrow.Author.Tests.{eq-eqb, ne_eqb, le-leb, leb-true, ltb-true}
use Rattle.octets.proofs.Laws.Cases.{both}
use Rattle.texts.specs.Octets.{is_digit, first_octet, comma, stop, letter_t}
use Rattle.octets.specs.Found.{found}
use Rattle.texts.specs.Times.{fraction, put_fraction, get_fraction}
use Rattle.texts.proofs.Laws.Digits.{leading_put, leading_none}
use Rattle.texts.proofs.Laws.Times.{fraction_there}
use Rattle.durations.specs.declared.Duration.{Duration}
use Rattle.texts.specs.declared.parts.Fraction.{Fraction}
use Rattle.durations.specs.Parts.{Part, absent, present, digits_in, any_present}
use Rattle.durations.specs.Durations.{numbers_of, fraction_of, spellable, spelled_parts, exists_duration}
use Rattle.durations.specs.Texts.{date_letters, time_letters, put_number, put_part, put_parts, put_times, put_duration, put_all, get_number}
use Rattle.durations.specs.Texts.{fraction_length, get_end, get_present, get_part, get_parts, get_times, get_duration}
use Rattle.durations.specs.Texts.{read_duration, DurationSpelling, canonical, render_duration, duration_text}
use Rattle.durations.proofs.Laws.Parts.{exists_parts, duration_back}
use Rattle.durations.proofs.Laws.Made.{PartFits, AllFit, tidy, shown_fit, shown_tidy, shown-length, made}
use Rattle.durations.proofs.Laws.Numbers.{number_there}

-- An octet that can be a designator: no digit, no comma, no full stop.
pub record Letter (c : ℕ) : Type 0 where
  pub digit : is_digit c ≡ false
  pub mark : (eqb c comma || eqb c stop) ≡ false

-- ---- one component

-- After a component's number comes no digit.
after_number : (c d : ℕ) (f : Fraction) (t : List ℕ) → Letter c → is_digit (first_octet (put_fraction d f ++ c ∷ t)) ≡ false
unfolding put_fraction
after_number c zero f t h = h.digit
after_number c (suc d) f t h = rw (ne_eqb (suc d) 0 (λ z. omega arith)) (either f.comma)
  where
    either : (o : Bool) → is_digit (cond o comma stop) ≡ false
    either true = refl
    either false = refl

fraction-long : (c d : ℕ) (f : Fraction) (t : List ℕ) → Letter c → fraction_length (put_fraction d f ++ c ∷ t) ≡ d
unfolding fraction_length put_fraction
fraction-long c zero f t h = rw h.mark
fraction-long c (suc d) f t h =
    rw (ne_eqb (suc d) 0 (λ z. omega arith), marked f.comma, leading_put (suc d) f.number (c ∷ t), leading_none (c ∷ t) h.digit) (omega arith)
  where
    marked : (o : Bool) → (eqb (cond o comma stop) comma || eqb (cond o comma stop) stop) ≡ true
    marked true = refl
    marked false = refl

module _ (c n d : ℕ) (f : Fraction) (h : Letter c) (g : PartFits (present n d f)) (t : List ℕ) where
  text : put_part c (present n d f) ++ t ≡ put_number n ++ (put_fraction d f ++ c ∷ t)
  unfolding put_part
  text = simp append_assoc

  whole-fraction : get_fraction d (put_fraction d f ++ c ∷ t) ≡ found f (c ∷ t)
  whole-fraction = fraction_there d f.comma f.number (c ∷ t) g.2 ∙ ap (λ (o : Bool). found (fraction o f.number) (c ∷ t)) g.3

  -- what is left to read for any letter
  left : (l : ℕ) → get_present l (put_part c (present n d f) ++ t) ≡ get_end l n d (put_fraction d f ++ c ∷ t)
  unfolding get_present
  left l = rw (text, number_there n (put_fraction d f ++ c ∷ t) g.0 (after_number c d f t h), fraction-long c d f t h, le-leb d 9 g.1)

  -- A component in front; with a fraction, nothing behind.
  part_there : (eqb d 0 || leb (length (c ∷ t)) 1) ≡ true → get_part c (put_part c (present n d f) ++ t) ≡ found (present n d f) t
  unfolding get_part get_end
  part_there e = rw (left c, whole-fraction, eq-eqb c c refl, e)

  -- A component with another letter is not read.
  part_other : (l : ℕ) → eqb c l ≡ false → get_part l (put_part c (present n d f) ++ t) ≡ found absent (put_part c (present n d f) ++ t)
  unfolding get_part get_end
  part_other l e = rw (left l, whole-fraction, e)

part_none : (l : ℕ) (t : List ℕ) → is_digit (first_octet t) ≡ false → get_part l t ≡ found absent t
unfolding get_part get_present get_number
part_none l t e = rw (leading_none t e)

-- ---- several

-- Whether an octet is none of these.
unfoldable pub not_in : ℕ → List ℕ → Bool
not_in l [] = true
not_in l (c ∷ cs) = not (eqb c l) && not_in l cs

not-true : (b : Bool) → not b ≡ true → b ≡ false
not-true false e = refl
not-true true e = absurd (let z : ◌≡◌ {A = ℕ} 0 1 = cc in omega arith)

-- Designators, each once.
unfoldable pub Letters : List ℕ → Type 0
Letters [] = Unit {0}
Letters (c ∷ cs) = Letter c × (not_in c cs ≡ true) × Letters cs

pub absent_put : (c : ℕ) → put_part c absent ≡ []
unfolding put_part
absent_put c = refl

-- No component of these letters is read from the text of components with other letters.
others : (l : ℕ) (cs : List ℕ) (ps : List Part) (r : List ℕ) → Letters cs → not_in l cs ≡ true → AllFit ps → is_digit (first_octet r) ≡ false
    → get_part l (put_parts cs ps ++ r) ≡ found absent (put_parts cs ps ++ r)
unfolding put_parts Letters not_in AllFit
others l [] ps r h n g e = part_none l r e
others l (c ∷ cs) [] r h n g e = part_none l r e
others l (c ∷ cs) (absent ∷ ps) r h n g e = rw (absent_put c) (others l cs ps r h.2 (both (not (eqb c l)) (not_in l cs) n).1 g.1 e)
others l (c ∷ cs) (present x d f ∷ ps) r h n g e =
    rw (append_assoc (put_part c (present x d f)) (put_parts cs ps) r)
    (part_other c x d f h.0 g.0 (put_parts cs ps ++ r) l (not-true (eqb c l) (both (not (eqb c l)) (not_in l cs) n).0))

-- Components that are not there have no text.
none_put : (cs : List ℕ) (ps : List Part) → any_present ps ≡ false → put_parts cs ps ≡ []
unfolding put_parts put_part any_present
none_put [] ps e = refl
none_put (c ∷ cs) [] e = refl
none_put (c ∷ cs) (absent ∷ ps) e = none_put cs ps e
none_put (c ∷ cs) (present n d f ∷ ps) e = absurd (let z : ◌≡◌ {A = ℕ} 0 1 = cc in omega arith)

some_append : (ps q : List Part) → any_present (ps ++ q) ≡ false → (any_present ps ≡ false) × (any_present q ≡ false)
unfolding any_present
some_append [] q e = (refl, e)
some_append (absent ∷ ps) q e = some_append ps q e
some_append (present n d f ∷ ps) q e = absurd (let z : ◌≡◌ {A = ℕ} 0 1 = cc in omega arith)

-- Components in front, then those of q, whose text r is: a fraction stands at the very end only.
pub parts_there : (cs : List ℕ) (ps q : List Part) (r : List ℕ) → length ps ≡ length cs → Letters cs → AllFit ps → tidy (ps ++ q) ≡ true
    → (any_present q ≡ false → r ≡ []) → is_digit (first_octet r) ≡ false → get_parts cs (put_parts cs ps ++ r) ≡ found ps r
unfolding get_parts put_parts Letters AllFit tidy
parts_there [] [] q r n h g z k e = refl
parts_there [] (p ∷ ps) q r n h g z k e = absurd (omega arith)
parts_there (c ∷ cs) [] q r n h g z k e = absurd (omega arith)
parts_there (c ∷ cs) (absent ∷ ps) q r n h g z k e =
    let i = parts_there cs ps q r (omega arith) h.2 g.1 z k e in
    rw (absent_put c, others c cs ps r h.2 h.1 g.1 e, i)
parts_there (c ∷ cs) (present x d f ∷ ps) q r n h g z k e =
    let b = both (eqb d 0 || not (any_present (ps ++ q))) (tidy (ps ++ q)) z in
    let i = parts_there cs ps q r (omega arith) h.2 g.1 b.1 k e in
    rw (
      append_assoc (put_part c (present x d f)) (put_parts cs ps) r,
      part_there c x d f h.0 g.0 (put_parts cs ps ++ r) (last (eqb d 0) (any_present (ps ++ q)) refl b.0),
      i,
    )
  where
    last : (t s : Bool) → any_present (ps ++ q) ≡ s → (t || not s) ≡ true → (t || leb (length (c ∷ (put_parts cs ps ++ r))) 1) ≡ true
    last true s y w = refl
    last false true y w = absurd (let u : ◌≡◌ {A = ℕ} 0 1 = cc in omega arith)
    last false false y w = let a = some_append ps q y in rw (none_put cs ps a.0, k a.1)

-- ---- the whole

letters_date : Letters date_letters
unfolding Letters not_in
letters_date = (
  record { digit = refl; mark = refl },
  refl,
  (
    record { digit = refl; mark = refl },
    refl,
    (record { digit = refl; mark = refl }, refl, (record { digit = refl; mark = refl }, refl, tt)),
  ),
)

letters_time : Letters time_letters
unfolding Letters not_in
letters_time = (record { digit = refl; mark = refl }, refl, (record { digit = refl; mark = refl }, refl, (record { digit = refl; mark = refl }, refl, tt)))

nothing3 : (a b c : Part) → any_present (a ∷ b ∷ c ∷ []) ≡ false → a ∷ b ∷ c ∷ [] ≡ absent ∷ absent ∷ absent ∷ []
unfolding any_present
nothing3 absent absent absent e = refl
nothing3 absent absent (present n d f) e = absurd (let z : ◌≡◌ {A = ℕ} 0 1 = cc in omega arith)
nothing3 absent (present n d f) c e = absurd (let z : ◌≡◌ {A = ℕ} 0 1 = cc in omega arith)
nothing3 (present n d f) b c e = absurd (let z : ◌≡◌ {A = ℕ} 0 1 = cc in omega arith)

-- Times after their `T`, or none.
module _ (a b c : Part) (g : AllFit (a ∷ b ∷ c ∷ [])) (z : tidy (a ∷ b ∷ c ∷ []) ≡ true) where
  times_there : get_times (put_times (a ∷ b ∷ c ∷ [])) ≡ found (a ∷ b ∷ c ∷ []) []
  unfolding get_times put_times
  times_there = go (any_present (a ∷ b ∷ c ∷ [])) refl
    where
      read : get_parts time_letters (put_parts time_letters (a ∷ b ∷ c ∷ [])) ≡ found (a ∷ b ∷ c ∷ []) []
      read = simp append-nil at (parts_there time_letters (a ∷ b ∷ c ∷ []) [] [] refl letters_time g z (λ e. refl) refl)

      go : (s : Bool) → any_present (a ∷ b ∷ c ∷ []) ≡ s → get_times (put_times (a ∷ b ∷ c ∷ [])) ≡ found (a ∷ b ∷ c ∷ []) []
      go true e = rw (e, read, e)
      go false e = rw (e, nothing3 a b c e)

  times_head : is_digit (first_octet (put_times (a ∷ b ∷ c ∷ []))) ≡ false
  unfolding put_times
  times_head = go (any_present (a ∷ b ∷ c ∷ []))
    where
      go : (s : Bool) → is_digit (first_octet (cond s (letter_t ∷ put_parts time_letters (a ∷ b ∷ c ∷ [])) [])) ≡ false
      go true = refl
      go false = refl

  times_none : any_present (a ∷ b ∷ c ∷ []) ≡ false → put_times (a ∷ b ∷ c ∷ []) ≡ []
  unfolding put_times
  times_none e = rw e

tidy_after : (ps q : List Part) → tidy (ps ++ q) ≡ true → tidy q ≡ true
unfolding tidy
tidy_after [] q e = e
tidy_after (p ∷ ps) q e = tidy_after ps q (both (eqb (digits_in p) 0 || not (any_present (ps ++ q))) (tidy (ps ++ q)) e).1

-- The text of seven components is read as these.
module _ (a b c d e f g : Part) (fit : AllFit (a ∷ b ∷ c ∷ d ∷ e ∷ f ∷ g ∷ [])) (z : tidy (a ∷ b ∷ c ∷ d ∷ e ∷ f ∷ g ∷ []) ≡ true) where
  seven_there : get_duration (put_all (a ∷ b ∷ c ∷ d ∷ e ∷ f ∷ g ∷ [])) ≡ found (a ∷ b ∷ c ∷ d ∷ e ∷ f ∷ g ∷ []) []
  unfolding get_duration put_duration AllFit
  seven_there =
      let y : tidy (e ∷ f ∷ g ∷ []) ≡ true = tidy_after (a ∷ b ∷ c ∷ d ∷ []) (e ∷ f ∷ g ∷ []) z in
      let later = fit.1.1.1.1 in
      rw (
        parts_there date_letters (a ∷ b ∷ c ∷ d ∷ []) (e ∷ f ∷ g ∷ []) (put_times (e ∷ f ∷ g ∷ [])) refl letters_date
            (fit.0, (fit.1.0, (fit.1.1.0, (fit.1.1.1.0, tt)))) z (times_none e f g later y) (times_head e f g later y),
        times_there e f g later y,
      )

-- The same of a list of seven.
parts_read : (ps : List Part) → length ps ≡ 7 → AllFit ps → tidy ps ≡ true → get_duration (put_all ps) ≡ found ps []
parts_read (a ∷ b ∷ c ∷ d ∷ e ∷ f ∷ g ∷ []) n h z = seven_there a b c d e f g h z
parts_read [] n h z = absurd (omega arith)
parts_read (a ∷ []) n h z = absurd (omega arith)
parts_read (a ∷ b ∷ []) n h z = absurd (omega arith)
parts_read (a ∷ b ∷ c ∷ []) n h z = absurd (omega arith)
parts_read (a ∷ b ∷ c ∷ d ∷ []) n h z = absurd (omega arith)
parts_read (a ∷ b ∷ c ∷ d ∷ e ∷ []) n h z = absurd (omega arith)
parts_read (a ∷ b ∷ c ∷ d ∷ e ∷ f ∷ []) n h z = absurd (omega arith)
parts_read (a ∷ b ∷ c ∷ d ∷ e ∷ f ∷ g ∷ x ∷ ps) n h z = absurd (omega arith)

pub comma-shown : (t c : Bool) → (t && (t && c)) ≡ (t && c)
comma-shown true c = refl
comma-shown false c = refl

-- Any text of a duration is read as it: with a comma or a full stop, with zero components or without.
pub read-duration : (s : DurationSpelling) (d : Duration) → exists_duration d ≡ true → read_duration (render_duration s d) ≡ Some d
unfolding read_duration render_duration
read-duration s d e =
    let x = exists_parts d e in
    let zs = spellable d.last s.zeros in
    rw (
      parts_read (spelled_parts s.comma s.zeros d) (shown-length zs d.last d.digits (fraction_of s.comma d) (numbers_of d))
          (shown_fit zs d.last d.digits (fraction_of s.comma d) (numbers_of d) x.small (leb-true _ _ x.few) (ltb-true _ _ x.fits)
          (comma-shown (not (eqb d.digits 0)) s.comma))
          (shown_tidy zs d.last d.digits (fraction_of s.comma d) (numbers_of d)),
      made s.comma s.zeros d e,
      duration_back s.comma zs d x.ends,
    )

-- Two durations with one canonical text are equal.
pub one-duration : (c d : Duration) → exists_duration c ≡ true → exists_duration d ≡ true → duration_text c ≡ duration_text d → c ≡ d
one-duration c d h k e =
    let p : read_duration (duration_text c) ≡ Some c = read-duration canonical c h in
    let q : read_duration (duration_text d) ≡ Some d = read-duration canonical d k in
    cc
