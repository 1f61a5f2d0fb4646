-- The place of a text among words.
use mathlib.Core.Path.{◌≡◌, refl, sym, ap, ◌∙◌}
use mathlib.Core.Bool.{Bool, true, false, ◌&&◌, cond}
use mathlib.Core.List.{List, [], ◌∷◌, map}
use Prim.Native.Nat.{ℕ, zero, suc, ◌+◌, ◌-◌, ◌*◌, ◌<◌, ◌≤◌}
use Prim.Native.String.{String}
use native.Mathlib.Omega.{arith}
use lib.ListN.{length, get_or, take}
use lib.Dec.{eqb, ltb}
use lib.Seq.{get_or-take, get_or_at, take_at}
use borrow.Author.Tests.{eqb-true, eqb-false, ltb-true, ltb-false}
use Rattle.std.specs.Prelude.{Option, Some, None}
use Rattle.std.specs.Borrow.{Bor}
use Rattle.std.specs.List.{IsLastAndRest, position_or_len}
use Rattle.std.specs.Option.{option_map, option_or}
use Rattle.octets.specs.Octets.{bytes, eq_list}
use Rattle.octets.proofs.Laws.Cases.{by_test, both}
use Rattle.octets.proofs.Laws.Octets.{equal}
use Rattle.lists.specs.Words.{fraction_number, is_digit_count, pair_of, place_from, place_in, time_number, with_digits, with_setting}
use Rattle.lists.specs.Words.{basic_words, clock_words, date_words, fraction_words, interval_words, year_words, zone_words}

-- Where a search for the first of the words that is the text ends is the text's place.
module _ (s : List ℕ) where
  abbrev pub is_it : Bor (List ℕ) → Bool
  is_it w = eq_list s w.now

  abbrev pub octets_of : List (Bor (List ℕ)) → List (List ℕ)
  octets_of ws = map (λ w. w.now) ws

  pub place-found : (k : ℕ) (ws : List (Bor (List ℕ))) → position_or_len is_it ws < length ws
      → place_from k (octets_of ws) s ≡ Some (position_or_len is_it ws + k)
  unfolding place_from
  place-found k [] h = absurd (omega arith)
  place-found k (w ∷ ws) h = by_test (eq_list s w.now) (λ e.
      let j : k ≡ 0 + k = omega arith in
      rw e (ap (λ (n : ℕ). Some n) j)) (λ e.
      let i : position_or_len is_it (w ∷ ws) ≡ 1 + position_or_len is_it ws = rw e in
      let j : position_or_len is_it ws + suc k ≡ 1 + position_or_len is_it ws + k = omega arith in
      let r : place_from (suc k) (octets_of ws) s ≡ Some (position_or_len is_it ws + suc k) = place-found (suc k) ws (omega arith) in
      rw e (r ∙ ap (λ (n : ℕ). Some n) j))

  pub place_missed : (k : ℕ) (ws : List (Bor (List ℕ))) → length ws ≤ position_or_len is_it ws → place_from k (octets_of ws) s ≡ None
  unfolding place_from
  place_missed k [] h = refl
  place_missed k (w ∷ ws) h = by_test (eq_list s w.now)
      (λ e. let i : position_or_len is_it (w ∷ ws) ≡ 0 = rw e in absurd (omega arith))
      (λ e. let i : position_or_len is_it (w ∷ ws) ≡ 1 + position_or_len is_it ws = rw e in rw e (place_missed (suc k) ws (omega arith)))

  -- The place of a text is one more than the number of words before it.
  pub place-position : (ws : List (Bor (List ℕ))) (r : Option ℕ)
      → r ≡ cond (ltb (position_or_len is_it ws) (length ws)) (Some (position_or_len is_it ws)) None
      → place_from 1 (octets_of ws) s ≡ option_map (λ i. i + 1) r
  place-position ws r e = by_test (ltb (position_or_len is_it ws) (length ws))
      (λ t. place-found 1 ws (ltb-true _ _ t) ∙ sym (rw (e, t)))
      (λ t. place_missed 1 ws (ltb-false _ _ t) ∙ sym (rw (e, t)))

-- No place lies behind the words.
place-le : (k n : ℕ) (ws : List (List ℕ)) (l : List ℕ) → place_from (suc k) ws l ≡ Some n → n ≤ k + length ws
unfolding place_from
place-le k n [] l e = cc
place-le k n (w ∷ ws) l e = go (eq_list l w) e (place-le (suc k) n ws l)
  where
    go : (b : Bool) → cond b (Some (suc k)) (place_from (suc (suc k)) ws l) ≡ Some n
        → (place_from (suc (suc k)) ws l ≡ Some n → n ≤ suc k + length ws) → n ≤ k + suc (length ws)
    go true e f = let q : suc k ≡ n = cc in omega arith
    go false e f = omega (arith, f e)

-- Words are counted from 1.
place-some : (k n : ℕ) (ws : List (List ℕ)) (l : List ℕ) → place_from (suc k) ws l ≡ Some n → 0 < n
unfolding place_from
place-some k n [] l e = cc
place-some k n (w ∷ ws) l e = go (eq_list l w) e (place-some (suc k) n ws l)
  where
    go : (b : Bool) → cond b (Some (suc k)) (place_from (suc (suc k)) ws l) ≡ Some n → (place_from (suc (suc k)) ws l ≡ Some n → 0 < n) → 0 < n
    go true e f = let q : suc k ≡ n = cc in omega arith
    go false e f = f e

-- A place is not 0.
pub some_place : (ws : List String) (l : List ℕ) (n : ℕ) → place_in ws l ≡ Some n → 0 < n
some_place ws l n e = place-some 0 n (map bytes ws) l e

-- The number of a Time setting is not 0.
pub some_time : (l : List ℕ) (n : ℕ) → time_number l ≡ Some n → 0 < n
unfolding fraction_number
some_time l n = first_of (place_in clock_words l) refl
  where
    d : ℕ
    d = get_or l (length l - 1) 0

    digits : (o : Option ℕ) → ((k : ℕ) → o ≡ Some k → 0 < k) → option_map (with_digits (d - 48)) o ≡ Some n → 0 < n
    digits None f e = cc
    digits (Some k) f e = let q : (d - 48) * 10 + k ≡ n = cc in omega (arith, f k refl)

    go : (b : Bool) → cond b (option_map (with_digits (d - 48)) (place_in fraction_words (take (length l - 1) l))) None ≡ Some n → 0 < n
    go true e = digits (place_in fraction_words (take (length l - 1) l)) (some_place fraction_words (take (length l - 1) l)) e
    go false e = cc

    first_of : (o : Option ℕ) → place_in clock_words l ≡ o → option_or o (fraction_number l) ≡ Some n → 0 < n
    first_of None h e = go (is_digit_count d) e
    first_of (Some k) h e = let q : k ≡ n = cc in omega (arith, some_place clock_words l k h)

-- A place is at most the number of words.
pub place-in : (ws : List String) (l : List ℕ) {n : ℕ} → place_in ws l ≡ Some n → n ≤ length (map bytes ws)
place-in ws l {n} e = omega (arith, place-le 0 n (map bytes ws) l e)

-- The number of a Time setting with a fraction, of a text with its last octet apart.
pub fraction_at : (l w : List ℕ) (d : ℕ) → IsLastAndRest l d w
    → fraction_number l ≡ cond (is_digit_count d) (option_map (with_digits (d - 48)) (place_in fraction_words w)) None
unfolding fraction_number
fraction_at l w d h =
    let n : length w ≡ length l - 1 = omega (arith, h.1) in
    let a : get_or l (length l - 1) 0 ≡ d = rw (← n, h.0) (get_or_at w d [] 0 (length w) refl) in
    let b : take (length l - 1) l ≡ w = rw (← n, h.0) (take_at w (d ∷ []) (length w) refl) in
    rw (a, b)

-- No text without an octet is a Time setting with a fraction.
pub no_fraction : (l : List ℕ) → length l ≡ 0 → None ≡ fraction_number l
unfolding fraction_number
no_fraction [] e = refl
no_fraction (x ∷ l) e = absurd (omega arith)

-- Whether all words begin with an octet.
abbrev all_begin : ℕ → List String → Bool
all_begin b [] = true
all_begin b (w ∷ ws) = eqb (get_or (bytes w) 0 0) b && all_begin b ws

-- A text that begins with another octet is none of such words.
other_words : (b k : ℕ) (ws : List String) (l : List ℕ) → all_begin b ws ≡ true → (get_or l 0 0 ≡ b → ⊥) → place_from k (map bytes ws) l ≡ None
unfolding place_from
other_words b k [] l t n = refl
other_words b k (w ∷ ws) l t n = by_test (eq_list l (bytes w)) (λ e. absurd (n (begins e))) (λ e. rw e (other_words b (suc k) ws l p.1 n))
  where
    p : (eqb (get_or (bytes w) 0 0) b ≡ true) × (all_begin b ws ≡ true)
    p = both _ _ t

    begins : eq_list l (bytes w) ≡ true → get_or l 0 0 ≡ b
    begins e = ap (λ (m : List ℕ). get_or m 0 0) (equal l (bytes w) e) ∙ eqb-true _ _ p.0

-- The first octet of a text without its end is the text's own, or there is none.
first_taken : (n b : ℕ) (l : List ℕ) → get_or (take n l) 0 0 ≡ suc b → get_or l 0 0 ≡ suc b
first_taken zero b l e = absurd (omega arith)
first_taken (suc n) b l e = sym (get_or-take (suc n) l 0 0 (omega arith)) ∙ e

either : (t : Bool) → ◌≡◌ {A = Option ℕ} (cond t None None) None
either true = refl
either false = refl

-- A text that does not begin with T is no Time setting.
no-time : (l : List ℕ) → (get_or l 0 0 ≡ 84 → ⊥) → time_number l ≡ None
unfolding fraction_number
no-time l n =
    rw (
      other_words 84 1 clock_words l refl n,
      other_words 84 1 fraction_words (take (length l - 1) l) refl (λ e. n (first_taken (length l - 1) 83 l e)),
      either,
    )

-- With none beside it an option is itself.
pub or_none : {A : Type 0} (o : Option A) → option_or o None ≡ o
or_none None = refl
or_none (Some x) = refl

-- No text without an octet is a pair.
pub no_pair : (l : List ℕ) → length l ≡ 0 → None ≡ pair_of l
unfolding pair_of fraction_number place_from eq_list
no_pair [] e = refl
no_pair (x ∷ l) e = absurd (omega arith)

-- A number where the text begins with an octet, otherwise none.
abbrev where_first : List ℕ → ℕ → Option ℕ → Option ℕ
where_first l b n = cond (eqb (get_or l 0 0) b) n None

only_first : (l : List ℕ) (b : ℕ) (n : Option ℕ) → ((get_or l 0 0 ≡ b → ⊥) → n ≡ None) → where_first l b n ≡ n
only_first l b n h = by_test (eqb (get_or l 0 0) b) (λ e. rw e) (λ e. rw e (sym (h (eqb-false _ _ e))))

-- A place among the words of Interval-type is one of a text that begins with I.
pub interval_first : (l : List ℕ) → where_first l 73 (place_in interval_words l) ≡ place_in interval_words l
interval_first l = only_first l 73 _ (other_words 73 1 interval_words l refl)

-- The first octet of a text tells the only table that it can have a place in.
pub only_table : (l : List ℕ) → pair_of l ≡
    option_or (with_setting 0 (where_first l 66 (place_in basic_words l)))
    (option_or (with_setting 1 (where_first l 68 (place_in date_words l)))
    (option_or (with_setting 2 (where_first l 89 (place_in year_words l)))
    (option_or (with_setting 3 (where_first l 84 (time_number l)))
    (option_or (with_setting 4 (where_first l 76 (place_in zone_words l)))
    (with_setting 5 (where_first l 73 (place_in interval_words l)))))))
unfolding pair_of
only_table l =
    rw (
      only_first l 66 _ (other_words 66 1 basic_words l refl),
      only_first l 68 _ (other_words 68 1 date_words l refl),
      only_first l 89 _ (other_words 89 1 year_words l refl),
      only_first l 84 _ (no-time l),
      only_first l 76 _ (other_words 76 1 zone_words l refl),
      interval_first l,
    )
