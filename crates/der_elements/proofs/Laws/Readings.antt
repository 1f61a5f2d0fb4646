-- These are steps of the code that reads an element.
use Rattle.std.specs.Prelude.{Option, Some, None}
use mathlib.Core.Path.{◌≡◌, refl, ap, sym, ◌∙◌}
use mathlib.Core.Bool.{Bool, true, false, ◌&&◌, cond}
use mathlib.Core.List.{List, [], ◌∷◌, ◌++◌, append-nil}
use Prim.Native.Nat.{ℕ, ◌+◌, ◌-◌, ◌≤◌}
use native.Mathlib.Omega.{arith}
use lib.Dec.{eqb, leb}
use lib.ListN.{length, length-append, length-drop, length-set, take, drop, set, drop_of_length-le}
use lib.Seq.{drop-drop, length-take-le, take_all, take_at}
use borrow.Author.Tests.{leb-true, eqb-true}
use Rattle.octets.specs.Octets.{eq_list}
use Rattle.octets.specs.Stores.{StoredText, place_after, room_after}
use Rattle.octets.proofs.Laws.Cases.{both}
use Rattle.octets.proofs.Laws.Stores.{put_octet, put_then, put_there, sets-front}
use Rattle.texts.specs.Octets.{colon, hyphen, letter_t}
use Rattle.types.specs.declared.types.Name.{Name}
use Rattle.der_elements.specs.Elements.{tag_of}
use Rattle.der_elements.specs.Readings.{all_digits, dated, digits_only, separated, timed, under_tag, within_length}

-- So many digits are so many octets.
pub digits-count : (n : ℕ) (l : List ℕ) → digits_only n l ≡ true → length l ≡ n
unfolding digits_only
digits-count n l e = eqb-true (length l) n (both (eqb (length l) n) (all_digits l) e).0

-- The separators are two octets more.
pub separated_size : (c w : ℕ) (l : List ℕ) → w + 2 ≤ length l → length (separated c w l) ≡ length l + 2
unfolding separated
separated_size c w l h =
    let d = length-drop w l in
    let a = length-take-le w l (omega arith) in
    let b = length-take-le 2 (drop w l) (omega arith) in
    let e = length-drop 2 (drop w l) in
    length-append (take w l) _ ∙ rw (length-append (take 2 (drop w l))) (omega arith)

-- What is cut from a place on is the rest.
pub rest_cut : (n : ℕ) (l : List ℕ) → n ≤ length l → take (length l - n) (drop n l) ≡ drop n l
rest_cut n l h = take_all (length l - n) (drop n l) (let e = length-drop n l in omega arith)

-- The parts of the digits have these lengths as they are cut.
module _ (w : ℕ) (d : List ℕ) (h : w + 2 ≤ length d) where
  pub first_size : length (take w d) ≡ w
  first_size = length-take-le w d (omega arith)

  pub second_size : length (take (w + 2 - w) (drop w d)) ≡ 2
  second_size = length-take-le (w + 2 - w) (drop w d) (let e = length-drop w d in omega arith) ∙ omega arith

  pub third_size : length (take (length d - (w + 2)) (drop (w + 2) d)) ≡ length d - (w + 2)
  third_size = length-take-le (length d - (w + 2)) (drop (w + 2) d) (let e = length-drop (w + 2) d in omega arith)

  third_part : take (length d - (w + 2)) (drop (w + 2) d) ≡ drop 2 (drop w d)
  third_part = rest_cut (w + 2) d h ∙ sym (drop-drop 2 w d)

  -- Stored one after another, with the separators, they are the text.
  pub put_separated : (c : ℕ) {l m n o : List ℕ} {at p q r : ℕ} → StoredText l m at (take w d) p
      → StoredText (set m p c) n (p + 1) (take (w + 2 - w) (drop w d)) q → StoredText (set n q c) o (q + 1) (take (length d - (w + 2)) (drop (w + 2) d)) r
      → StoredText l o at (separated c w d) r
  unfolding separated
  put_separated c {l} {m} {n} {o} {at} {p} {q} {r} f g k =
      let two : w + 2 - w ≡ 2 = omega arith in
      put_then f (put_octet (put_then (rw two at g) (put_octet (rw third_part at k))))

-- Each part has its place in a room that has one for the digits and two separators.
module _ (w : ℕ) (d : List ℕ) (h : w + 2 ≤ length d) {l : List ℕ} {at : ℕ} (fits : at + (length d + 2) ≤ length l) where
  pub first_put : {m : List ℕ} {p : ℕ} → (p ≡ place_after l at (take w d)) × (m ≡ room_after l at (take w d)) → StoredText l m at (take w d) p
  first_put e = put_there e (let z = first_size w d h in omega arith)

  module _ (c : ℕ) {m n : List ℕ} {p q : ℕ} (f : StoredText l m at (take w d) p) (k : length m ≡ length l) where
    pub second_put : (q ≡ place_after (set m p c) (p + 1) (take (w + 2 - w) (drop w d))) × (n ≡ room_after (set m p c) (p + 1) (take (w + 2 - w) (drop w d)))
        → StoredText (set m p c) n (p + 1) (take (w + 2 - w) (drop w d)) q
    second_put e =
        let z = first_size w d h in
        let y = second_size w d h in
        put_there e (simp length-set (omega (arith, f.end)))

    pub third_put : {o : List ℕ} {r : ℕ} → StoredText (set m p c) n (p + 1) (take (w + 2 - w) (drop w d)) q → length n ≡ length (set m p c)
        → (r ≡ place_after (set n q c) (q + 1) (take (length d - (w + 2)) (drop (w + 2) d)))
        × (o ≡ room_after (set n q c) (q + 1) (take (length d - (w + 2)) (drop (w + 2) d)))
        → StoredText (set n q c) o (q + 1) (take (length d - (w + 2)) (drop (w + 2) d)) r
    third_put g j e =
        let z = first_size w d h in
        let y = second_size w d h in
        let x = third_size w d h in
        let i : length n ≡ length m = simp length-set at j in
        put_there e (simp length-set (omega (arith, f.end, g.end)))

-- A text that was stored at the front is the front.
pub front_stored : {l m t : List ℕ} {r : ℕ} → StoredText l m 0 t r → length t ≤ length l → take r m ≡ t
front_stored {l} {m} {t} {r} p h =
    ap (take r) (p.text ∙ sets-front l t h) ∙ take_at t (drop (length t) l) r (let e : r ≡ 0 + length t = p.end in omega arith)

-- An octet that was stored at the front, and octets after it, are the front.
pub after_octet : (l t : List ℕ) (c : ℕ) {m : List ℕ} {r : ℕ} → (r ≡ place_after (set l 0 c) 1 t) × (m ≡ room_after (set l 0 c) 1 t) → 1 + length t ≤ length l
    → (take r m ≡ c ∷ t) × (r ≡ 1 + length t)
after_octet l t c e h =
    let s = put_octet {l = l} {at = 0} {c = c} (put_there e (rw length-set (omega arith))) in
    (front_stored s (omega arith), s.end ∙ omega arith)

-- It is all of the buffer, where it fills it.
pub all_stored : {l m t : List ℕ} {r : ℕ} → StoredText l m 0 t r → length t ≡ length l → m ≡ t
all_stored {l} {m} {t} {r} p h =
    p.text ∙ sets-front l t (omega arith) ∙ rw (drop_of_length-le l (let z : length l ≤ length t = omega arith in z), append-nil)

-- The text of a date-time is stored as its date, `T`, and its time.
module _ (d : List ℕ) (e : length d ≡ 14) where
  pub date_size : length (dated (take 8 d)) ≡ 10
  date_size = let a = length-take-le 8 d (omega arith) in separated_size hyphen 4 (take 8 d) (omega arith) ∙ omega arith

  pub time_digits : length (take (length d - 8) (drop 8 d)) ≡ 6
  time_digits = length-take-le (length d - 8) (drop 8 d) (let a = length-drop 8 d in omega arith) ∙ omega arith

  pub date_time_stored : {l m n : List ℕ} {p r : ℕ} → length l ≡ 19 → StoredText l m 0 (dated (take 8 d)) p
      → StoredText (set m p letter_t) n (p + 1) (timed (take (length d - 8) (drop 8 d))) r → n ≡ dated (take 8 d) ++ letter_t ∷ timed (drop 8 d)
  date_time_stored {l} {m} {n} {p} {r} h f g =
      let q : take (length d - 8) (drop 8 d) ≡ drop 8 d = rest_cut 8 d (omega arith) in
      let a = length-drop 8 d in
      let t : length (timed (drop 8 d)) ≡ 8 = separated_size colon 2 (drop 8 d) (omega arith) ∙ omega arith in
      all_stored (put_then f (put_octet (rw q at g)))
      (length-append (dated (take 8 d)) (letter_t ∷ timed (drop 8 d)) ∙ let a = date_size in omega arith)

-- ---- the length

-- Where a length tells of contents, what is read is what they give; else nothing is. So it is under a tag.
module _ {A : Type 0} (contents : List ℕ → Option A) where
  contents_none : (l : List ℕ) → within_length Some l ≡ None → within_length contents l ≡ None
  contents_none [] e = refl
  contents_none (n ∷ l) e = go (leb n 127 && leb n (length l)) e
    where
      go : (b : Bool) → cond b (Some (take n l)) None ≡ None → cond b (contents (take n l)) None ≡ None
      go true e = absurd (let z : ◌≡◌ {A = ℕ} 0 1 = cc in omega arith)
      go false e = refl

  contents_there : (l c : List ℕ) → within_length Some l ≡ Some c → within_length contents l ≡ contents c
  contents_there [] c e = absurd (let z : ◌≡◌ {A = ℕ} 0 1 = cc in omega arith)
  contents_there (n ∷ l) c e = go (leb n 127 && leb n (length l)) e
    where
      go : (b : Bool) → cond b (Some (take n l)) None ≡ Some c → cond b (contents (take n l)) None ≡ contents c
      go true e = let q : take n l ≡ c = cc in rw q
      go false e = absurd (let z : ◌≡◌ {A = ℕ} 0 1 = cc in omega arith)

  module _ (name : Name) (l : List ℕ) where
    pub element_none : under_tag name Some l ≡ None → under_tag name contents l ≡ None
    element_none e = go (eq_list (take (length (tag_of name)) l) (tag_of name)) e
      where
        go : (b : Bool) → cond b (within_length Some (drop (length (tag_of name)) l)) None ≡ None
            → cond b (within_length contents (drop (length (tag_of name)) l)) None ≡ None
        go true e = contents_none (drop (length (tag_of name)) l) e
        go false e = refl

    pub element_there : (c : List ℕ) → under_tag name Some l ≡ Some c → under_tag name contents l ≡ contents c
    element_there c e = go (eq_list (take (length (tag_of name)) l) (tag_of name)) e
      where
        go : (b : Bool) → cond b (within_length Some (drop (length (tag_of name)) l)) None ≡ Some c
            → cond b (within_length contents (drop (length (tag_of name)) l)) None ≡ contents c
        go true e = contents_there (drop (length (tag_of name)) l) c e
        go false e = absurd (let z : ◌≡◌ {A = ℕ} 0 1 = cc in omega arith)

-- The contents are no longer than a length can tell.
pub contents-within : (l c : List ℕ) → within_length Some l ≡ Some c → length c ≤ 127
contents-within [] c e = absurd (let z : ◌≡◌ {A = ℕ} 0 1 = cc in omega arith)
contents-within (n ∷ l) c e = go (leb n 127 && leb n (length l)) refl e
  where
    go : (b : Bool) → (leb n 127 && leb n (length l)) ≡ b → cond b (Some (take n l)) None ≡ Some c → length c ≤ 127
    go false t e = absurd (let z : ◌≡◌ {A = ℕ} 0 1 = cc in omega arith)
    go true t e =
        let p = both (leb n 127) (leb n (length l)) t in
        let q : take n l ≡ c = cc in
        rw (← q, length-take-le n l (leb-true n (length l) p.1)) (leb-true n 127 p.0)
