-- The pairs of a list, one at a time.
use Rattle.std.specs.Prelude.{Option, Some, None}
use mathlib.Core.Path.{◌≡◌, refl, subst, ◌∙◌}
use lib.Dec.{ltb}
use borrow.Author.Tests.{ltb-true, ltb-false}
use Rattle.octets.proofs.Laws.Cases.{by_test}
use mathlib.Core.List.{List, [], ◌∷◌}
use Prim.Native.Nat.{ℕ, ◌+◌, ◌-◌, ◌<◌, ◌≤◌}
use native.Mathlib.Omega.{arith}
use lib.ListN.{length, take, drop, length-drop}
use lib.Seq.{drop-drop, take_all}
use Rattle.octets.specs.Pieces.{split_on, span_to}
use Rattle.octets.proofs.Laws.Pieces.{span_le, split_one, split_more}
use Rattle.std.specs.Option.{option_or}
use Rattle.lists.specs.Words.{place_in, basic_words, date_words, year_words, zone_words, interval_words, time_number, pair, with_setting, pair_of}
use Rattle.lists.proofs.Laws.Words.{some_place, some_time}
use Rattle.lists.specs.Lists.{add_pair, add_pairs}
use Rattle.lists.specs.declared.words.Pair.{Pair}
use Rattle.lists.specs.declared.lists.Settings.{Settings}

-- What holds of a pair, if there is one.
abbrev pub OfPair : (Pair → Type 0) → Option Pair → Type 0
OfPair P q = (p : Pair) → q ≡ Some p → P p

-- What holds of both pairs holds of the first that there is.
pub first-of : (P : Pair → Type 0) (p q : Option Pair) → OfPair P p → OfPair P q → OfPair P (option_or p q)
first-of P None q h k = k
first-of P (Some p) q h k = h

-- What holds of a property with each of its settings holds of the pair.
pub of_setting : (P : Pair → Type 0) (k : ℕ) (n : Option ℕ) → ((m : ℕ) → n ≡ Some m → P (pair k m)) → OfPair P (with_setting k n)
of_setting P k None h p e = cc
of_setting P k (Some m) h p e = let q : pair k m ≡ p = cc in subst P q (h m refl)

-- What holds of a setting of each property holds of every pair.
pub every_pair : (P : Pair → Type 0) (l : List ℕ)
    → ((m : ℕ) → place_in basic_words l ≡ Some m → P (pair 0 m))
    → ((m : ℕ) → place_in date_words l ≡ Some m → P (pair 1 m))
    → ((m : ℕ) → place_in year_words l ≡ Some m → P (pair 2 m))
    → ((m : ℕ) → time_number l ≡ Some m → P (pair 3 m))
    → ((m : ℕ) → place_in zone_words l ≡ Some m → P (pair 4 m))
    → ((m : ℕ) → place_in interval_words l ≡ Some m → P (pair 5 m))
    → OfPair P (pair_of l)
unfolding pair_of
every_pair P l b d y t z i =
    first-of P _ _ (of_setting P 0 _ b)
    (first-of P _ _ (of_setting P 1 _ d)
    (first-of P _ _ (of_setting P 2 _ y)
    (first-of P _ _ (of_setting P 3 _ t)
    (first-of P _ _ (of_setting P 4 _ z) (of_setting P 5 _ i)))))

-- A pair is of one of the six properties.
pub six_properties : (l : List ℕ) (p : Pair) → pair_of l ≡ Some p → p.property < 6
six_properties l =
    every_pair (λ p. p.property < 6) l (λ m e. omega arith) (λ m e. omega arith) (λ m e. omega arith) (λ m e. omega arith) (λ m e. omega arith)
    (λ m e. omega arith)

-- The number of a setting is not 0.
pub some_setting : (l : List ℕ) (p : Pair) → pair_of l ≡ Some p → 0 < p.setting
some_setting l =
    every_pair (λ p. 0 < p.setting) l (some_place basic_words l) (some_place date_words l) (some_place year_words l) (some_time l) (some_place zone_words l)
    (some_place interval_words l)

-- One turn of the loop over the pairs: from the place p to the place e of the next space.
module _ (s : List ℕ) (p e : ℕ) (n m : Option Settings) (q : Option Pair) (he : e ≡ p + span_to 32 (drop p s)) (hq : q ≡ pair_of (take (e - p) (drop p s)))
    (hm : m ≡ add_pair n q) where
  -- A pair with a space behind it is added.
  pub next_pair : e < length s → add_pairs n (split_on 32 (drop p s)) ≡ add_pairs m (split_on 32 (drop (e + 1) s))
  unfolding add_pairs
  next_pair h =
      let k : span_to 32 (drop p s) < length (drop p s) = rw length-drop (omega arith) in
      let i : e - p ≡ span_to 32 (drop p s) = omega arith in
      let j : p + (span_to 32 (drop p s) + 1) ≡ e + 1 = omega arith in
      rw (split_more 32 (drop p s) k, drop-drop (span_to 32 (drop p s) + 1) p s, j, hm, hq, i)

  -- The last pair, which has none, is added too.
  pub last_pair : p ≤ length s → length s ≤ e → add_pairs n (split_on 32 (drop p s)) ≡ m
  unfolding add_pairs
  last_pair hp h =
      let l : length (drop p s) ≡ length s - p = length-drop p s in
      let k : span_to 32 (drop p s) ≡ length (drop p s) = omega (arith, span_le 32 (drop p s)) in
      let t : take (e - p) (drop p s) ≡ drop p s = take_all (e - p) (drop p s) (omega arith) in
      rw (split_one 32 (drop p s) k) (cc)

-- Nothing is added to a list with what is no pair.
pub add_nothing : (s : Option Settings) → add_pair s None ≡ None
unfolding add_pair
add_nothing None = refl
add_nothing (Some s) = refl

-- A list that is refused stays refused.
pub refused_stays : (ws : List (List ℕ)) → add_pairs None ws ≡ None
unfolding add_pairs add_pair
refused_stays [] = refl
refused_stays (w ∷ ws) = refused_stays ws

-- Where the pair from the place p to the place e of the next space is refused, the list is.
pub refused_pair : (s : List ℕ) (p e : ℕ) (n : Option Settings) (q : Option Pair) → e ≡ p + span_to 32 (drop p s) → q ≡ pair_of (take (e - p) (drop p s))
    → p ≤ length s → add_pair n q ≡ None → add_pairs n (split_on 32 (drop p s)) ≡ None
refused_pair s p e n q he hq hp h = by_test (ltb e (length s))
    (λ t. next_pair s p e n (add_pair n q) q he hq refl (ltb-true _ _ t) ∙ rw h (refused_stays _))
    (λ t. last_pair s p e n (add_pair n q) q he hq refl hp (ltb-false _ _ t) ∙ h)
