-- The numbers of a duration, place by place.
use mathlib.Core.Path.{◌≡◌, refl, sym, ap, ◌∙◌}
use mathlib.Core.Bool.{Bool, true, false}
use mathlib.Core.List.{List, [], ◌∷◌, ◌++◌, append_assoc, append-nil}
use Prim.Native.Nat.{ℕ, zero, suc, ◌+◌, ◌-◌, ◌/◌, ◌%◌, ◌^◌, ◌<◌}
use native.Mathlib.Numerals.{add-one}
use native.Mathlib.Omega.{arith}
use lib.Dec.{ltb}
use lib.ListN.{length, take, drop, get_or, set}
use lib.Seq.{drop-cons, take-suc, take-suc-set, take_all, length-take-le}
use Rattle.octets.specs.Found.{Found, found, nothing, onward}
use Rattle.octets.proofs.Laws.Found.{found-value}
use Rattle.fields.specs.Bits.{BitString}
use Rattle.fields.specs.Readings.{give, ◌>>=◌, require, run}
use Rattle.fields.proofs.Laws.Readings.{run_bind}
use Rattle.durations.specs.Parts.{Part, present, no_fraction, number_in as number_of, numbers}
use Rattle.durations.specs.Fields.{roots}
use Rattle.durations.specs.Readings.{read_extended, read_numbers}
use Rattle.unpacking.specs.Durations.{read_place, bits_in, part_of, parts_from}

-- ---- the numbers, place by place

number_tested : (c : Bool) (n : ℕ) (rs bs : List ℕ) (t : BitString)
    → run (require c (read_numbers rs bs) >>= λ ps. give (present n 0 no_fraction ∷ ps)) t
    ≡ onward (run (require c (give n)) t) (λ n t. onward (run (read_numbers rs bs) t) (λ ps u. found (present n 0 no_fraction ∷ ps) u))
unfolding require run ◌>>=◌
number_tested true n rs bs t = run_bind (read_numbers rs bs) _ t
number_tested false n rs bs t = refl

-- One component by its number.
one_number : (r b : ℕ) (rs bs : List ℕ) (s : BitString) → run (read_numbers (r ∷ rs) (b ∷ bs)) s
    ≡ onward (run (read_place r b) s) (λ n t. onward (run (read_numbers rs bs) t) (λ ps u. found (part_of b n ∷ ps) u))
unfolding read_numbers run
one_number r zero rs bs s = run_bind (read_numbers rs bs) _ s
one_number r (suc b) rs bs s =
    run_bind (read_extended 0 r) _ s ∙ after (run (read_extended 0 r) s)
    ∙ ap (λ m. onward m (λ n t. onward (run (read_numbers rs bs) t) (λ ps u. found (present n 0 no_fraction ∷ ps) u)))
    (sym (run_bind (read_extended 0 r) (λ n. require (ltb n (10 ^ 9)) (give n)) s))
  where
    tested : (c : Bool) (n : ℕ) (t : BitString) → run (require c (read_numbers rs bs) >>= λ ps. give (present n 0 no_fraction ∷ ps)) t
        ≡ onward (run (require c (give n)) t) (λ n t. onward (run (read_numbers rs bs) t) (λ ps u. found (present n 0 no_fraction ∷ ps) u))
    tested c n t = number_tested c n rs bs t

    after : (m : Found Bool ℕ) → onward m (λ n. run (require (ltb n (10 ^ 9)) (read_numbers rs bs) >>= λ ps. give (present n 0 no_fraction ∷ ps)))
        ≡ onward (onward m (λ n. run (require (ltb n (10 ^ 9)) (give n))))
        (λ n t. onward (run (read_numbers rs bs) t) (λ ps u. found (present n 0 no_fraction ∷ ps) u))
    after (found n t) = tested (ltb n (10 ^ 9)) n t
    after nothing = refl

-- Components in order, and one more.
parts_more : (bs ns : List ℕ) (b n : ℕ) → length bs ≡ length ns → parts_from (bs ++ (b ∷ [])) (ns ++ (n ∷ [])) ≡ parts_from bs ns ++ (part_of b n ∷ [])
unfolding parts_from
parts_more [] [] b n e = refl
parts_more [] (m ∷ ns) b n e = absurd (omega arith)
parts_more (a ∷ bs) [] b n e = absurd (omega arith)
parts_more (a ∷ bs) (m ∷ ns) b n e = ap (λ (ps : List Part). part_of a m ∷ ps) (parts_more bs ns b n (omega arith))

numbers_more : (ps : List Part) (p : Part) → numbers (ps ++ (p ∷ [])) ≡ numbers ps ++ (number_of p ∷ [])
unfolding numbers
numbers_more [] p = refl
numbers_more (q ∷ ps) p = ap (λ (ns : List ℕ). number_of q ∷ ns) (numbers_more ps p)

-- A number that is read stands for its component; where that is not present, it is 0.
number_is : (r b n : ℕ) (s t : BitString) → run (read_place r b) s ≡ found n t → number_of (part_of b n) ≡ n
unfolding run
number_is r zero n s t e = found-value e
number_is r (suc b) n s t e = refl

-- The components of the first places.
abbrev pub parts_to : ℕ → List ℕ → List ℕ → List Part
parts_to i bs ns = parts_from (take i bs) (take i ns)

module _ (bs ns : List ℕ) (i : ℕ) (l : length bs ≡ 7) (k : length ns ≡ 7) (h : i < 7) where
  parts-to : (n : ℕ) → parts_to (i + 1) bs (set ns i n) ≡ parts_to i bs ns ++ (part_of (get_or bs i 0) n ∷ [])
  parts-to n =
      let a : i < length bs = omega arith in
      let c : i < length ns = omega arith in
      let x : length (take i bs) ≡ i = length-take-le i bs (omega arith) in
      let y : length (take i ns) ≡ i = length-take-le i ns (omega arith) in
      rw (add-one i, take-suc bs i 0 a, take-suc-set ns i n c) (parts_more (take i bs) (take i ns) (get_or bs i 0) n (x ∙ sym y))

  -- The numbers of the components so far.
  pub values_next : (r n : ℕ) (s t : BitString) → run (read_place r (get_or bs i 0)) s ≡ found n t → numbers (parts_to i bs ns) ≡ take i ns
      → numbers (parts_to (i + 1) bs (set ns i n)) ≡ take (i + 1) (set ns i n)
  values_next r n s t e g =
      let c : i < length ns = omega arith in
      rw (parts-to n, numbers_more (parts_to i bs ns) (part_of (get_or bs i 0) n), g, number_is r (get_or bs i 0) n s t e, add-one i, take-suc-set ns i n c)

  -- What is to be read at first, by the components so far and what is left.
  module _ (all : Found Bool (List Part)) (s : BitString)
      (left : all ≡ onward (run (read_numbers (drop i roots) (drop i bs)) s) (λ ps u. found (parts_to i bs ns ++ ps) u)) where
    here : all ≡ onward (onward (run (read_place (get_or roots i 0) (get_or bs i 0)) s)
        (λ n t. onward (run (read_numbers (drop (suc i) roots) (drop (suc i) bs)) t) (λ ps u. found (part_of (get_or bs i 0) n ∷ ps) u)))
        (λ ps u. found (parts_to i bs ns ++ ps) u)
    here =
        let a : i < length bs = omega arith in
        let e : run (read_numbers (drop i roots) (drop i bs)) s ≡ onward (run (read_place (get_or roots i 0) (get_or bs i 0)) s)
        (λ n t. onward (run (read_numbers (drop (suc i) roots) (drop (suc i) bs)) t) (λ ps u. found (part_of (get_or bs i 0) n ∷ ps) u)) =
        rw (drop-cons roots i 0 h, drop-cons bs i 0 a) (one_number (get_or roots i 0) (get_or bs i 0) (drop (suc i) roots) (drop (suc i) bs) s) in
        left ∙ ap (λ m. onward m (λ ps u. found (parts_to i bs ns ++ ps) u)) e

    pub numbers_none : run (read_place (get_or roots i 0) (get_or bs i 0)) s ≡ nothing → all ≡ nothing
    numbers_none e = here ∙ rw e

    pub numbers_next : (n : ℕ) (t : BitString) → run (read_place (get_or roots i 0) (get_or bs i 0)) s ≡ found n t
        → all ≡ onward (run (read_numbers (drop (i + 1) roots) (drop (i + 1) bs)) t) (λ ps u. found (parts_to (i + 1) bs (set ns i n) ++ ps) u)
    numbers_next n t e = here ∙ rw (e, parts-to n, add-one i) (go (run (read_numbers (drop (suc i) roots) (drop (suc i) bs)) t))
      where
        go : (m : Found Bool (List Part)) → onward (onward m (λ ps u. found (part_of (get_or bs i 0) n ∷ ps) u)) (λ ps u. found (parts_to i bs ns ++ ps) u)
            ≡ onward m (λ ps u. found ((parts_to i bs ns ++ (part_of (get_or bs i 0) n ∷ [])) ++ ps) u)
        go (found ps u) = ap (λ (qs : List Part). found qs u) (sym (append_assoc (parts_to i bs ns) (part_of (get_or bs i 0) n ∷ []) ps))
        go nothing = refl

-- Before the first place all is left.
pub numbers_start : (bs ns : List ℕ) (m : Found Bool (List Part)) → m ≡ onward m (λ ps u. found (parts_to 0 bs ns ++ ps) u)
unfolding parts_from
numbers_start bs ns (found ps u) = refl
numbers_start bs ns nothing = refl

pub values_start : (bs ns : List ℕ) → numbers (parts_to 0 bs ns) ≡ take 0 ns
unfolding parts_from numbers
values_start bs ns = refl

-- After the last place nothing is left.
pub numbers-end : (o : ℕ) (ns : List ℕ) → length ns ≡ 7 → (s : BitString)
    → onward (run (read_numbers (drop 7 roots) (drop 7 (bits_in o))) s) (λ ps u. found (parts_to 7 (bits_in o) ns ++ ps) u)
    ≡ found (parts_from (bits_in o) ns) s
unfolding read_numbers run
numbers-end o ns l s =
    let t : take 7 ns ≡ ns = take_all 7 ns (omega arith) in
    ap (λ (ps : List Part). found ps s) (append-nil (parts_to 7 (bits_in o) ns)) ∙ ap (λ (ms : List ℕ). found (parts_from (bits_in o) ms) s) t

pub values-end : (o : ℕ) (ns : List ℕ) → length ns ≡ 7 → numbers (parts_to 7 (bits_in o) ns) ≡ take 7 ns → numbers (parts_from (bits_in o) ns) ≡ ns
values-end o ns l e =
    let t : take 7 ns ≡ ns = take_all 7 ns (omega arith) in
    sym (ap (λ (ms : List ℕ). numbers (parts_from (bits_in o) ms)) t) ∙ e ∙ t

-- The presence bit at a place.
bit_at : (o i : ℕ) → i < 7 → o / 2 ^ (7 - i) % 2 ≡ get_or (bits_in o) i 0
bit_at o zero h = refl
bit_at o (suc zero) h = refl
bit_at o (suc (suc zero)) h = refl
bit_at o (suc (suc (suc zero))) h = refl
bit_at o (suc (suc (suc (suc zero)))) h = refl
bit_at o (suc (suc (suc (suc (suc zero))))) h = refl
bit_at o (suc (suc (suc (suc (suc (suc zero)))))) h = refl
bit_at o (suc (suc (suc (suc (suc (suc (suc i))))))) h = absurd (omega arith)

-- What is read by the code's range and bit is read by the root and the presence bit at the place.
pub by_place : (o i r : ℕ) → r ≡ get_or roots i 0 → i < 7 → (s : BitString) {m : Found Bool ℕ}
    → m ≡ run (read_place r (o / 2 ^ (7 - i) % 2)) s → run (read_place (get_or roots i 0) (get_or (bits_in o) i 0)) s ≡ m
by_place o i r e h s v = rw (← e, ← bit_at o i h) (sym v)
