-- The octet of presence bits.
use mathlib.Core.Path.{◌≡◌, refl, sym, ap, ◌∙◌}
use mathlib.Core.Bool.{Bool, true, false, ◌&&◌, ◌||◌, not, false≢true}
use mathlib.Core.List.{List, [], ◌∷◌, ◌++◌}
use Prim.Native.Nat.{ℕ, zero, suc, ◌-◌, ◌/◌, ◌%◌, ◌≤◌, ◌<◌}
use native.Mathlib.Nat.{div-one}
use native.Mathlib.Omega.{arith}
use lib.Dec.{eqb, leb}
use lib.ListN.{length}
use borrow.Author.Tests.{ne_eqb, leb-true, eqb-true}
use Rattle.octets.specs.Found.{found, nothing, onward}
use Rattle.octets.proofs.Laws.Cases.{by_leb, both}
use Rattle.fields.specs.Bits.{BitString, bits_of, bit}
use Rattle.fields.specs.Readings.{Reading, give, ◌>>=◌, a_ranged, run}
use Rattle.fields.proofs.Laws.Readings.{run_bind}
use Rattle.durations.specs.Parts.{is_present, count, any_present, last_in, part_at, well_made}
use Rattle.durations.specs.Readings.{read_presences}
use Rattle.unpacking.specs.Durations.{bits_in, parts_from, bare_parts}
use lib.Count.{count_trailing_zeros}
use Rattle.unpacking.proofs.Laws.Extended.{bit-first, no_bit}

-- ---- a table over all octets

all_below : ℕ → (ℕ → Bool) → Bool
all_below zero t = true
all_below (suc n) t = t n && all_below n t

below_all : (n : ℕ) (t : ℕ → Bool) → all_below n t ≡ true → (i : ℕ) → i < n → t i ≡ true
unfolding all_below
below_all zero t e i h = absurd (omega arith)
below_all (suc n) t e i h =
    let p = both (t n) (all_below n t) e in
    by_leb (suc i) n (λ l x. below_all n t p.1 i l) (λ l x. let q : i ≡ n = omega arith in rw q p.0)

same : Bool → Bool → Bool
same true b = b
same false b = not b

same_is : (a b : Bool) → same a b ≡ true → a ≡ b
unfolding same
same_is true true e = refl
same_is true false e = absurd (false≢true e)
same_is false true e = absurd (false≢true e)
same_is false false e = refl

-- Weeks have the place 2, whose bit among seven is 16.
abbrev pub made_by : ℕ → Bool
made_by o = not (eqb (o / 2) 0) && (eqb (o / 2) 16 || eqb (o / 2 / 16 % 2) 0)

pub made_told : (o : ℕ) → o < 256 → well_made (bare_parts (bits_in o)) ≡ made_by o
unfolding all_below same well_made any_present count part_at
made_told o h = same_is _ _ (below_all 256 (λ o. same (well_made (bare_parts (bits_in o))) (made_by o)) refl o h)

pub made_some : (o : ℕ) → o < 256 → well_made (bare_parts (bits_in o)) ≡ true → 1 ≤ o / 2
made_some o h e =
    let p = both (not (eqb (o / 2) 0)) (eqb (o / 2) 16 || eqb (o / 2 / 16 % 2) 0) (sym (made_told o h) ∙ e) in
    go (o / 2) p.0
  where
    go : (n : ℕ) → not (eqb n 0) ≡ true → 1 ≤ n
    go zero e = absurd (false≢true e)
    go (suc n) e = omega arith

-- The last place, by the zeros behind the last bit that is set.
last_by : ℕ → Bool
last_by o = eqb (o / 2) 0 || (leb (count_trailing_zeros 32 (o / 2)) 6 && eqb (6 - count_trailing_zeros 32 (o / 2)) (last_in (bare_parts (bits_in o))))

pub last_told : (o : ℕ) → o < 256 → 1 ≤ o / 2 → (count_trailing_zeros 32 (o / 2) ≤ 6) × (6 - count_trailing_zeros 32 (o / 2) ≡ last_in (bare_parts (bits_in o)))
unfolding all_below last_by last_in any_present count_trailing_zeros
last_told o h l =
    let e = below_all 256 last_by refl o h in
    let z = ne_eqb (o / 2) 0 (λ q. omega arith) in
    let p = both (leb (count_trailing_zeros 32 (o / 2)) 6) (eqb (6 - count_trailing_zeros 32 (o / 2)) (last_in (bare_parts (bits_in o)))) (rw z at e) in
    (leb-true _ _ p.0, eqb-true _ _ p.1)

-- ---- what presence alone decides

module _ where
  some_bare : (bs ns : List ℕ) → length bs ≡ length ns → any_present (parts_from bs ns) ≡ any_present (bare_parts bs)
  unfolding any_present parts_from
  some_bare [] ns e = refl
  some_bare (b ∷ bs) [] e = absurd (omega arith)
  some_bare (zero ∷ bs) (n ∷ ns) e = some_bare bs ns (omega arith)
  some_bare (suc b ∷ bs) (n ∷ ns) e = refl

  count-bare : (bs ns : List ℕ) → length bs ≡ length ns → count (parts_from bs ns) ≡ count (bare_parts bs)
  unfolding count parts_from
  count-bare [] ns e = refl
  count-bare (b ∷ bs) [] e = absurd (omega arith)
  count-bare (zero ∷ bs) (n ∷ ns) e = count-bare bs ns (omega arith)
  count-bare (suc b ∷ bs) (n ∷ ns) e = ap suc (count-bare bs ns (omega arith))

  at_bare : (i : ℕ) (bs ns : List ℕ) → length bs ≡ length ns → is_present (part_at i (parts_from bs ns)) ≡ is_present (part_at i (bare_parts bs))
  unfolding part_at parts_from
  at_bare i [] ns e = refl
  at_bare i (b ∷ bs) [] e = absurd (omega arith)
  at_bare zero (zero ∷ bs) (n ∷ ns) e = refl
  at_bare zero (suc b ∷ bs) (n ∷ ns) e = refl
  at_bare (suc i) (b ∷ bs) (n ∷ ns) e = at_bare i bs ns (omega arith)

  pub last_bare : (bs ns : List ℕ) → length bs ≡ length ns → last_in (parts_from bs ns) ≡ last_in (bare_parts bs)
  unfolding last_in parts_from
  last_bare [] ns e = refl
  last_bare (b ∷ bs) [] e = absurd (omega arith)
  last_bare (b ∷ bs) (n ∷ ns) e = rw (some_bare bs ns (omega arith), last_bare bs ns (omega arith))

pub made-bare : (bs ns : List ℕ) → length bs ≡ length ns → well_made (parts_from bs ns) ≡ well_made (bare_parts bs)
unfolding well_made
made-bare bs ns e = rw (some_bare bs ns e, count-bare bs ns e, at_bare 2 bs ns e)

-- ---- the bits of the octet

odd : (m : ℕ) → m < 2 → bit (eqb m 1) ≡ m
odd zero h = refl
odd (suc zero) h = refl
odd (suc (suc m)) h = absurd (omega arith)

bit-of : (x : ℕ) → bit (eqb (x % 2) 1) ≡ x % 2
bit-of x = odd (x % 2) (omega arith)

presence-first : (k : ℕ) (b : Bool) (s : BitString) → run (read_presences (suc k)) (b ∷ s) ≡ onward (run (read_presences k) s) (λ bs u. found (bit b ∷ bs) u)
unfolding read_presences run
presence-first k b s = bit-first (λ b. read_presences k >>= λ bs. give (b ∷ bs)) b s ∙ run_bind (read_presences k) (λ bs. give (bit b ∷ bs)) s

no_presences : (s : BitString) → run (read_presences 0) s ≡ found [] s
unfolding read_presences run
no_presences s = refl

presences_there : (a b c d e f g : Bool) (s : BitString)
    → run (read_presences 7) (a ∷ b ∷ c ∷ d ∷ e ∷ f ∷ g ∷ s) ≡ found (bit a ∷ bit b ∷ bit c ∷ bit d ∷ bit e ∷ bit f ∷ bit g ∷ []) s
presences_there a b c d e f g s =
    rw (
      presence-first 6 a,
      presence-first 5 b,
      presence-first 4 c,
      presence-first 3 d,
      presence-first 2 e,
      presence-first 1 f,
      presence-first 0 g,
      no_presences s,
    )

module _ {A : Type 0} (k : List ℕ → ℕ → Reading A) where
  eight : (a b c d e f g h : Bool) (s : BitString) → run (read_presences 7 >>= λ bs. a_ranged 2 >>= k bs) (a ∷ b ∷ c ∷ d ∷ e ∷ f ∷ g ∷ h ∷ s)
      ≡ run (k (bit a ∷ bit b ∷ bit c ∷ bit d ∷ bit e ∷ bit f ∷ bit g ∷ []) (bit h)) s
  eight a b c d e f g h s =
      rw (run_bind (read_presences 7) (λ bs. a_ranged 2 >>= k bs) (a ∷ b ∷ c ∷ d ∷ e ∷ f ∷ g ∷ h ∷ s), presences_there a b c d e f g (h ∷ s))
      (bit-first (k (bit a ∷ bit b ∷ bit c ∷ bit d ∷ bit e ∷ bit f ∷ bit g ∷ [])) h s)

  -- What is read after the octet, by its bits.
  pub octet_first : (o : ℕ) (s : BitString) → run (read_presences 7 >>= λ bs. a_ranged 2 >>= k bs) (bits_of 8 o ++ s) ≡ run (k (bits_in o) (o % 2)) s
  unfolding bits_of
  octet_first o s =
      let low : bit (eqb (o / 1 % 2) 1) ≡ o % 2 = bit-of (o / 1) ∙ ap (λ (x : ℕ). x % 2) (div-one o) in
      rw (
        eight (eqb (o / 128 % 2) 1) (eqb (o / 64 % 2) 1) (eqb (o / 32 % 2) 1) (eqb (o / 16 % 2) 1)
            (eqb (o / 8 % 2) 1) (eqb (o / 4 % 2) 1) (eqb (o / 2 % 2) 1) (eqb (o / 1 % 2) 1) s,
        bit-of (o / 128),
        bit-of (o / 64),
        bit-of (o / 32),
        bit-of (o / 16),
        bit-of (o / 8),
        bit-of (o / 4),
        bit-of (o / 2),
        low,
      )

  -- No octets.
  pub no_octet : run (read_presences 7 >>= λ bs. a_ranged 2 >>= k bs) [] ≡ nothing
  unfolding read_presences
  no_octet =
      rw (run_bind (read_presences 7) (λ bs. a_ranged 2 >>= k bs) [])
      (ap (λ m. onward m (λ bs. run (a_ranged 2 >>= k bs))) (no_bit (λ b. read_presences 6 >>= λ bs. give (b ∷ bs))))
