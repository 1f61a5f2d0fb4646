-- How many bits a duration takes.
use mathlib.Core.Path.{◌≡◌, refl}
use mathlib.Core.Bool.{Bool, true, false, ◌&&◌, ◌||◌, not, cond}
use mathlib.Core.List.{List, [], ◌∷◌, ◌++◌}
use Prim.Native.Nat.{ℕ, zero, suc, ◌+◌, ◌*◌, ◌-◌, ◌≤◌}
use native.Mathlib.Omega.{arith}
use lib.Dec.{eqb, leb, ltb}
use lib.IntN.{pos}
use lib.ListN.{length}
use borrow.Author.Tests.{eqb-true, leb-true, lt-ltb, not-true}
use Rattle.octets.proofs.Laws.Cases.{both}
use Rattle.fields.specs.Fields.{Ranged, binary_digits, bit_count, field_width, width}
use Rattle.fields.specs.Integers.{fewest, half, within}
use Rattle.fields.proofs.Laws.Fields.{count-append, free-width}
use Rattle.durations.specs.Durations.{exists_duration, fraction_of, numbers_of, parts_of, spellable}
use Rattle.durations.specs.Fields.{duration_fields, extended, fraction_part, long_number, number_fields, presence, presences, roots}
use Rattle.durations.specs.Parts.{Part, absent, any_present, count, is_present, part_at, present, well_made}
use Rattle.durations.specs.declared.Duration.{Duration}
use Rattle.durations.proofs.Laws.Made.{made, shown-length}
use Rattle.durations.proofs.Laws.Parts.{exists_parts}

-- ---- one number

-- A number takes at most a bit, a length octet and four octets.
extended_most : (lowest r n : ℕ) → width r ≤ 10 → bit_count (extended lowest r n) ≤ 41
unfolding extended long_number bit_count field_width
extended_most lowest r n h = go (leb lowest n && ltb (n - lowest) r)
  where
    one : width 2 ≡ 1
    one = unfold width binary_digits in refl

    go : (b : Bool) → bit_count (cond b (Ranged 2 0 ∷ Ranged r (n - lowest) ∷ []) (long_number n)) ≤ 41
    go true = rw one (omega arith)
    go false = let f = (free-width (pos n)).1 in rw one (omega arith)

-- ---- the numbers

-- Whether each root's numbers take at most ten bits.
unfoldable narrow : List ℕ → Bool
narrow [] = true
narrow (r ∷ rs) = leb (width r) 10 && narrow rs

numbers_most : (rs : List ℕ) (ps : List Part) → narrow rs ≡ true → bit_count (number_fields rs ps) ≤ 41 * count ps
unfolding narrow number_fields count bit_count
numbers_most [] ps h = omega arith
numbers_most (r ∷ rs) [] h = omega arith
numbers_most (r ∷ rs) (absent ∷ ps) h = numbers_most rs ps (both (leb (width r) 10) (narrow rs) h).1
numbers_most (r ∷ rs) (present n d f ∷ ps) h =
    let p = both (leb (width r) 10) (narrow rs) h in
    let x = extended_most 0 r n (leb-true (width r) 10 p.0) in
    let y = numbers_most rs ps p.1 in
    rw (count-append (extended 0 r n) (number_fields rs ps)) (omega arith)

-- Of seven components that are well made at most six are there.
count_most : (ps : List Part) → count ps ≤ length ps
unfolding count
count_most [] = omega arith
count_most (absent ∷ ps) = omega (arith, count_most ps)
count_most (present n d f ∷ ps) = omega (arith, count_most ps)

third_absent : (ps : List Part) → 3 ≤ length ps → is_present (part_at 2 ps) ≡ false → suc (count ps) ≤ length ps
unfolding count part_at
third_absent [] h e = absurd (omega arith)
third_absent (a ∷ []) h e = absurd (omega arith)
third_absent (a ∷ b ∷ []) h e = absurd (omega arith)
third_absent (a ∷ b ∷ present n d f ∷ ps) h e = absurd (let z : ◌≡◌ {A = ℕ} 0 1 = cc in omega arith)
third_absent (a ∷ b ∷ absent ∷ ps) h e = go a b
  where
    k : count ps ≤ length ps
    k = count_most ps

    go : (a b : Part) → suc (count (a ∷ b ∷ absent ∷ ps)) ≤ suc (suc (suc (length ps)))
    go absent absent = omega (arith, k)
    go absent (present n d f) = omega (arith, k)
    go (present n d f) absent = omega (arith, k)
    go (present n d f) (present m e g) = omega (arith, k)

six_most : (ps : List Part) → length ps ≡ 7 → well_made ps ≡ true → count ps ≤ 6
unfolding well_made
six_most ps n h = go (eqb (count ps) 1) refl (both (any_present ps) (eqb (count ps) 1 || not (is_present (part_at 2 ps))) h).1
  where
    go : (b : Bool) → eqb (count ps) 1 ≡ b → (b || not (is_present (part_at 2 ps))) ≡ true → count ps ≤ 6
    go true e k = let x : count ps ≡ 1 = eqb-true (count ps) 1 e in omega arith
    go false e k = let x = third_absent ps (omega arith) (not-true _ k) in omega arith

-- ---- the fraction

-- "one to nine digits" take a bit, a length octet and an octet.
digits_most : (d : ℕ) → d ≤ 9 → bit_count (extended 1 3 d) ≤ 17
unfolding extended long_number bit_count field_width width binary_digits fewest within half
digits_most d h = go (leb 1 d && ltb (d - 1) 3)
  where
    go : (b : Bool) → bit_count (cond b (Ranged 2 0 ∷ Ranged 3 (d - 1) ∷ []) (long_number d)) ≤ 17
    go true = omega arith
    go false = rw (lt-ltb d 128 (omega arith)) (omega arith)

-- Whatever the digits are, they take at most as much as a number, and so does their value.
fraction_most : (d f m : ℕ) → bit_count (extended 1 3 d) ≤ m → bit_count (fraction_part d f) ≤ m + 41
unfolding fraction_part bit_count
fraction_most zero f m h = omega arith
fraction_most (suc d) f m h =
    let y = extended_most 1 999 f (unfold width binary_digits in omega arith) in
    rw (count-append (extended 1 3 (suc d)) (extended 1 999 f)) (omega arith)

-- ---- the whole

presence-one : (b : Bool) → field_width (presence b) ≡ 1
unfolding field_width width binary_digits
presence-one true = refl
presence-one false = refl

presences_most : (ps : List Part) → bit_count (presences ps) ≡ length ps
unfolding presences bit_count
presences_most [] = refl
presences_most (p ∷ ps) = rw (presence-one (is_present p), presences_most ps) (omega arith)

-- 8 bits are for what is there, 41 for each number, and 41 for the fraction besides its digits.
module _ (d : Duration) where
  parts_seven : length (parts_of d) ≡ 7
  parts_seven = shown-length (spellable d.last []) d.last d.digits (fraction_of false d) (numbers_of d)

  counted_most : (k m : ℕ) → count (parts_of d) ≤ k → bit_count (extended 1 3 d.digits) ≤ m → bit_count (duration_fields d) ≤ 49 + 41 * k + m
  unfolding duration_fields bit_count
  counted_most k m c h =
      let n = parts_seven in
      let a = numbers_most roots (parts_of d) (unfold narrow width binary_digits in refl) in
      let f = fraction_most d.digits d.fraction m h in
      let p = presences_most (parts_of d) in
      let o = presence-one (ltb 0 d.digits) in
      rw (
        count-append (presences (parts_of d)) (presence (ltb 0 d.digits) ∷ (number_fields roots (parts_of d) ++ fraction_part d.digits d.fraction)),
        count-append (number_fields roots (parts_of d)) (fraction_part d.digits d.fraction),
      )
      (omega arith)

  -- Any struct takes at most 377 bits: seven numbers, and digits of any number.
  pub duration_most : bit_count (duration_fields d) ≤ 377
  duration_most =
      let n = parts_seven in
      let c = count_most (parts_of d) in
      let h = counted_most 7 41 (omega arith) (extended_most 1 3 d.digits (unfold width binary_digits in omega arith)) in
      omega arith

  -- A duration takes at most 312 bits: six numbers, and at most nine digits.
  pub existing_most : exists_duration d ≡ true → bit_count (duration_fields d) ≤ 312
  existing_most e =
      let c = six_most (parts_of d) parts_seven (made false [] d e) in
      let h = counted_most 6 17 c (digits_most d.digits (leb-true d.digits 9 (exists_parts d e).few)) in
      omega arith
