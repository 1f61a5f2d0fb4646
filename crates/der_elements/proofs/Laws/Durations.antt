-- The contents of a duration are its text, or its text without the `P`, which stands at its front and nowhere else.
use Rattle.std.specs.Prelude.{Some}
use mathlib.Core.Path.{◌≡◌, refl, ap, sym, ◌∙◌}
use mathlib.Core.Bool.{Bool, true, false, cond}
use mathlib.Core.List.{List, [], ◌∷◌, ◌++◌, append_assoc, append-nil}
use Prim.Native.Nat.{ℕ, ◌≤◌}
use native.Mathlib.Omega.{arith}
use lib.Dec.{eqb}
use lib.ListN.{length}
use Rattle.texts.specs.Digits.{put_digits}
use Rattle.texts.specs.Octets.{comma, letter_t, stop}
use Rattle.texts.specs.Times.{put_fraction}
use Rattle.texts.specs.declared.parts.Fraction.{Fraction}
use Rattle.types.specs.declared.types.Name.{Name}
use Rattle.durations.specs.Durations.{exists_duration}
use Rattle.durations.specs.Parts.{Part, absent, any_present, present}
use Rattle.durations.specs.Texts.{DurationSpelling, canonical, date_letters, duration_text, letter_p, put_duration, put_number, put_part, put_parts, put_times}
use Rattle.durations.specs.Texts.{number_digits, read_duration, render_duration, time_letters}
use Rattle.durations.specs.declared.Duration.{Duration}
use Rattle.durations.proofs.Laws.Sizes.{duration-length}
use Rattle.durations.proofs.Laws.Texts.{read-duration}
use Rattle.durations.proofs.Laws.Values.{read_only}
use Rattle.der_elements.specs.Elements.{contents_of, element, omits, without}
use Rattle.der_elements.specs.Loose.{ReadableDuration, StandsForDuration}
use Rattle.der_elements.specs.Readings.{read_duration_contents, read_duration_element}
use Rattle.der_elements.proofs.Laws.Contents.{element_size, kept-digits, without_most, without_none}
use Rattle.der_elements.proofs.Laws.Der.{under-tag}
use Rattle.der_elements.proofs.Laws.Loose.{tag_all, tag_only}

-- ---- behind the `P` there is none

abbrev kept : List ℕ → List ℕ
kept l = without (omits Name.Duration) l

-- Whether an octet of these is a `P`.
unfoldable none_p : List ℕ → Bool
none_p [] = true
none_p (c ∷ l) = cond (eqb c letter_p) false (none_p l)

kept-fraction : (d : ℕ) (f : Fraction) (r : List ℕ) → kept (put_fraction d f ++ r) ≡ put_fraction d f ++ kept r
unfolding put_fraction without
kept-fraction d f r = go (eqb d 0) f.comma
  where
    go : (z c : Bool) → kept (cond z [] (cond c comma stop ∷ put_digits d f.number) ++ r) ≡ cond z [] (cond c comma stop ∷ put_digits d f.number) ++ kept r
    go true c = refl
    go false true = ap (λ (l : List ℕ). comma ∷ l) (kept-digits Name.Duration d f.number r)
    go false false = ap (λ (l : List ℕ). stop ∷ l) (kept-digits Name.Duration d f.number r)

kept_part : (c : ℕ) (p : Part) (r : List ℕ) → eqb c letter_p ≡ false → kept (put_part c p ++ r) ≡ put_part c p ++ kept r
unfolding put_part put_number without
kept_part c absent r h = refl
kept_part c (present n d f) r h =
    simp (append_assoc, kept-digits Name.Duration (number_digits n) n, kept-fraction d f, h)

kept_parts : (cs : List ℕ) (ps : List Part) (r : List ℕ) → none_p cs ≡ true → kept (put_parts cs ps ++ r) ≡ put_parts cs ps ++ kept r
unfolding put_parts none_p
kept_parts [] ps r h = refl
kept_parts (c ∷ cs) [] r h = refl
kept_parts (c ∷ cs) (p ∷ ps) r h = go (eqb c letter_p) refl h (λ k. kept_parts cs ps r k)
  where
    go : (b : Bool) → eqb c letter_p ≡ b → cond b false (none_p cs) ≡ true
        → (none_p cs ≡ true → kept (put_parts cs ps ++ r) ≡ put_parts cs ps ++ kept r)
        → kept ((put_part c p ++ put_parts cs ps) ++ r) ≡ (put_part c p ++ put_parts cs ps) ++ kept r
    go true e k g = absurd (let z : ◌≡◌ {A = ℕ} 0 1 = cc in omega arith)
    go false e k g = simp (append_assoc, kept_part c p (put_parts cs ps ++ r) e, g k)

times_kept : (ts : List Part) → kept (put_parts time_letters ts) ≡ put_parts time_letters ts
unfolding none_p
times_kept ts =
    let k : kept (put_parts time_letters ts ++ []) ≡ put_parts time_letters ts ++ kept [] = kept_parts time_letters ts [] refl in
    ap kept (sym (append-nil (put_parts time_letters ts))) ∙ k ∙ (unfold without in append-nil (put_parts time_letters ts))

kept_times : (ts : List Part) → kept (put_times ts) ≡ put_times ts
unfolding put_times without
kept_times ts = go (any_present ts)
  where
    go : (b : Bool) → kept (cond b (letter_t ∷ put_parts time_letters ts) []) ≡ cond b (letter_t ∷ put_parts time_letters ts) []
    go true = ap (λ (l : List ℕ). letter_t ∷ l) (times_kept ts)
    go false = refl

kept-duration : (ds ts : List Part) → put_duration ds ts ≡ letter_p ∷ kept (put_duration ds ts)
unfolding put_duration without none_p
kept-duration ds ts = ap (λ (l : List ℕ). letter_p ∷ l) (sym (kept_parts date_letters ds (put_times ts) refl
    ∙ ap (λ (l : List ℕ). put_parts date_letters ds ++ l) (kept_times ts)))

-- "contents without `P`": they are the rest of the text, in any spelling.
pub duration-contents : (s : DurationSpelling) (d : Duration) → render_duration s d ≡ letter_p ∷ contents_of Name.Duration (render_duration s d)
unfolding contents_of render_duration
duration-contents s d = kept-duration _ _

-- ---- what is written is read

-- A name that a type of durations has.
pub data DurationName : Name → Type 0 where
  as_listed : DurationName Name.Listed
  named : DurationName Name.Duration

-- The contents of a duration give it, under both names.
own_contents : (name : Name) → DurationName name → (d : Duration)
    → read_duration_contents name (contents_of name (duration_text d)) ≡ read_duration (duration_text d)
own_contents name as_listed d = ap read_duration (unfold contents_of in without_none (duration_text d))
own_contents name named d = ap read_duration (sym (duration-contents canonical d))

-- "one octet of length (0 to 127)": the contents of every duration have fewer.
pub length_most : (name : Name) (d : Duration) → exists_duration d ≡ true → length (contents_of name (duration_text d)) ≤ 72
unfolding contents_of
length_most name d e = let a = without_most (omits name) (duration_text d) in let b = duration-length canonical d e in omega arith

-- The element of a duration is short: the tag, the length and the contents.
pub element_most : (name : Name) (d : Duration) → exists_duration d ≡ true → length (element name (contents_of name (duration_text d))) ≤ 75
element_most name d e = let s = element_size name (contents_of name (duration_text d)) in let m = length_most name d e in omega arith

-- The element of a duration gives it.
pub duration-element : (name : Name) → DurationName name → (d : Duration) → exists_duration d ≡ true
    → read_duration_element name (element name (contents_of name (duration_text d))) ≡ Some d
unfolding read_duration_element
duration-element name n d e =
    under-tag name (read_duration_contents name) (contents_of name (duration_text d)) (let m = length_most name d e in omega arith)
    ∙ own_contents name n d ∙ read-duration canonical d e

-- ---- what is read

contents_only : (name : Name) (d : Duration) (l : List ℕ) → read_duration_contents name l ≡ Some d
    → (s : DurationSpelling) × StandsForDuration name l (render_duration s d) × (exists_duration d ≡ true)
contents_only Name.Listed d l e = let r = read_only l d e in (r.spelling, sym r.is, r.exists)
contents_only Name.Date d l e = absurd (let z : ◌≡◌ {A = ℕ} 0 1 = cc in omega arith)
contents_only Name.TimeOfDay d l e = absurd (let z : ◌≡◌ {A = ℕ} 0 1 = cc in omega arith)
contents_only Name.DateTime d l e = absurd (let z : ◌≡◌ {A = ℕ} 0 1 = cc in omega arith)
contents_only Name.Duration d l e = let r = read_only (letter_p ∷ l) d e in (r.spelling, sym r.is, r.exists)

contents_all : (name : Name) (d : Duration) (l : List ℕ) (s : DurationSpelling) → StandsForDuration name l (render_duration s d) → exists_duration d ≡ true
    → read_duration_contents name l ≡ Some d
contents_all Name.Listed d l s t e = ap read_duration (sym t) ∙ read-duration s d e
contents_all Name.Date d l s t e = absurd t
contents_all Name.TimeOfDay d l s t e = absurd t
contents_all Name.DateTime d l s t e = absurd t
contents_all Name.Duration d l s t e = ap read_duration (sym t) ∙ read-duration s d e

-- What is read is an element of the duration, and something after it.
pub duration-reads : (name : Name) (d : Duration) (octets : List ℕ) → read_duration_element name octets ≡ Some d
    → (rest : List ℕ) × ReadableDuration name d octets rest
unfolding read_duration_element
duration-reads name d octets e =
    let q = tag_only (read_duration_contents name) d name octets e in
    let c = contents_only name d q.0 q.4 in
    (q.1, record { contents = q.0; spelling = c.0; short = q.2; text = c.1; exists = c.2; stood = q.3 })

-- Every such element is read.
pub duration-reads_all : (name : Name) (d : Duration) (octets rest : List ℕ) → ReadableDuration name d octets rest → read_duration_element name octets ≡ Some d
unfolding read_duration_element
duration-reads_all name d octets rest r =
    tag_all (read_duration_contents name) d name octets r.contents rest r.short r.stood
    (contents_all name d r.contents r.spelling r.text r.exists)
