-- The fields of a duration by the code's tests and places.
use mathlib.Core.Path.{◌≡◌, refl, sym, ap, ap₂, ◌∙◌}
use mathlib.Core.Bool.{Bool, true, false, ◌&&◌, ◌||◌, not, cond}
use mathlib.Core.List.{List, [], ◌∷◌, ◌++◌, append_assoc, append-nil, map}
use Prim.Native.Nat.{ℕ, zero, suc, ◌+◌, ◌-◌, ◌≤◌, ◌<◌}
use native.Mathlib.Numerals.{add-one}
use native.Mathlib.Omega.{arith}
use lib.Dec.{eqb, ltb, leb-suc-suc, eqb-zero-suc, eqb-suc-suc}
use lib.IntN.{pos}
use lib.ListN.{length, take, drop, replicate, get_or, drop_of_length-le}
use lib.Seq.{drop-cons, take_at}
use mir.Val.{bool_byte}
use borrow.Author.Tests.{lt-ltb, le-ltb, le-leb, lt-leb, ne_eqb}
use Rattle.texts.specs.declared.parts.Fraction.{Fraction}
use Rattle.answers.specs.Counts.{octets_for}
use Rattle.fields.specs.Bits.{BitString, bits_of, octets_of}
use Rattle.fields.specs.Fields.{Field, Ranged, Free, width, binary_digits, field_bits, layout, bit_count}
use Rattle.fields.proofs.Laws.Fields.{layout-append, length-layout}
use Rattle.fields.proofs.Laws.Bits.{length_octets}
use Rattle.durations.specs.declared.Duration.{Duration}
use Rattle.durations.specs.Parts.{Part, absent, present, no_fraction, is_present, number_in, part_at}
use Rattle.durations.specs.Durations.{numbers_of, shown, spellable, fraction_of, parts_of}
use Rattle.durations.specs.Fields.{long_number, extended, roots, presence, presences, number_fields, fraction_part, duration_fields}
use Rattle.durations.proofs.Laws.Made.{shown-length}
use Rattle.durations.proofs.Laws.Widths.{duration_most}
use Rattle.packing.specs.declared.writing.Packed.{Packed}
use Rattle.packing.specs.Packed.{in_buffer}
use Rattle.packing.specs.Durations.{packed_duration, is_there, component_fields, optionality}

-- ---- a number of an extensible range

module _ (lowest r n : ℕ) where
  pub number_below : n < lowest → extended lowest r n ≡ Ranged 2 1 ∷ Free (pos n) ∷ []
  unfolding extended long_number
  number_below h = simp (lt-leb lowest n h)

  pub number_inside : lowest ≤ n → n - lowest < r → extended lowest r n ≡ Ranged 2 0 ∷ Ranged r (n - lowest) ∷ []
  unfolding extended
  number_inside h k = simp (le-leb lowest n h, lt-ltb (n - lowest) r k)

  pub number_above : lowest ≤ n → r ≤ n - lowest → extended lowest r n ≡ Ranged 2 1 ∷ Free (pos n) ∷ []
  unfolding extended long_number
  number_above h k = simp (le-leb lowest n h, le-ltb (n - lowest) r k)

-- A presence bit is the number that stands for it.
pub presence-bit : (b : Bool) → bits_of 1 (bool_byte b) ≡ field_bits (presence b)
unfolding field_bits width binary_digits
presence-bit true = refl
presence-bit false = refl

-- ---- the component at a place

-- What stands at a place, by the code's tests: that it is the last, that it is before the last, that its number is 0.
abbrev placed : Bool → Bool → Bool → ℕ → ℕ → Fraction → Part
placed here before none n d f = cond here (present n d f) (cond before (cond none absent (present n 0 no_fraction)) absent)

absent_at : (i : ℕ) (ns : List ℕ) → part_at i (map (λ m. absent) ns) ≡ absent
unfolding part_at
absent_at i [] = refl
absent_at zero (n ∷ ns) = refl
absent_at (suc i) (n ∷ ns) = absent_at i ns

shown_at : (i k d : ℕ) (f : Fraction) (ns : List ℕ) → i < length ns
    → part_at i (shown [] k d f ns) ≡ placed (eqb i k) (ltb i k) (eqb (get_or ns i 0) 0) (get_or ns i 0) d f
unfolding shown part_at
shown_at i k d f [] h = absurd (omega arith)
shown_at zero zero d f (n ∷ ns) h = refl
shown_at zero (suc k) d f (n ∷ ns) h = rw (eqb-zero-suc k, lt-ltb 0 (suc k) (omega arith)) (go (eqb n 0))
  where
    go : (b : Bool) → cond (b && true) absent (present n 0 no_fraction) ≡ cond b absent (present n 0 no_fraction)
    go true = refl
    go false = refl
shown_at (suc i) zero d f (n ∷ ns) h = rw (absent_at i ns, ne_eqb (suc i) 0 (λ e. omega arith), le-ltb (suc i) 0 (omega arith))
shown_at (suc i) (suc k) d f (n ∷ ns) h = rw (eqb-suc-suc i k, leb-suc-suc (suc i) k) (shown_at i k d f ns (omega arith))

spell_none : (k : ℕ) → spellable k [] ≡ []
unfolding spellable
spell_none k = go (eqb k 2)
  where
    go : (b : Bool) → ◌≡◌ {A = List Bool} (cond b [] []) []
    go true = refl
    go false = refl

drop_part : (i : ℕ) (ps : List Part) → i < length ps → drop i ps ≡ part_at i ps ∷ drop (suc i) ps
unfolding part_at
drop_part i [] h = absurd (omega arith)
drop_part zero (p ∷ ps) h = refl
drop_part (suc i) (p ∷ ps) h = drop_part i ps (omega arith)

-- The fields of one component.
abbrev part_fields : ℕ → Part → List Field
part_fields r p = cond (is_present p) (extended 0 r (number_in p)) []

one_part : (r : ℕ) (rs : List ℕ) (p : Part) (ps : List Part) → number_fields (r ∷ rs) (p ∷ ps) ≡ part_fields r p ++ number_fields rs ps
unfolding number_fields
one_part r rs absent ps = refl
one_part r rs (present n d f) ps = refl

-- What stands at a place of a duration.
module _ (d : Duration) (i : ℕ) (h : i < 7) where
  parts_at : part_at i (parts_of d)
      ≡ placed (eqb i d.last) (ltb i d.last) (eqb (get_or (numbers_of d) i 0) 0) (get_or (numbers_of d) i 0) d.digits (fraction_of false d)
  parts_at = rw (spell_none d.last) (shown_at i d.last d.digits (fraction_of false d) (numbers_of d) h)

  length_parts : length (parts_of d) ≡ 7
  length_parts = shown-length (spellable d.last []) d.last d.digits (fraction_of false d) (numbers_of d)

  drop_parts : drop i (parts_of d) ≡ part_at i (parts_of d) ∷ drop (suc i) (parts_of d)
  drop_parts = drop_part i (parts_of d) (omega (arith, length_parts))

  there_at : is_present (part_at i (parts_of d)) ≡ is_there i d.last (get_or (numbers_of d) i 0)
  unfolding is_there
  there_at = rw parts_at (go (eqb i d.last) (ltb i d.last) (eqb (get_or (numbers_of d) i 0) 0))
    where
      go : (a b z : Bool) → is_present (placed a b z (get_or (numbers_of d) i 0) d.digits (fraction_of false d)) ≡ (a || (b && not z))
      go true b z = refl
      go false true true = refl
      go false true false = refl
      go false false z = refl

  fields_at : (r : ℕ) → part_fields r (part_at i (parts_of d)) ≡ cond (is_there i d.last (get_or (numbers_of d) i 0)) (extended 0 r (get_or (numbers_of d) i 0)) []
  unfolding is_there
  fields_at r = rw parts_at (go (eqb i d.last) (ltb i d.last) (eqb (get_or (numbers_of d) i 0) 0))
    where
      go : (a b z : Bool) → part_fields r (placed a b z (get_or (numbers_of d) i 0) d.digits (fraction_of false d))
          ≡ cond (a || (b && not z)) (extended 0 r (get_or (numbers_of d) i 0)) []
      go true b z = refl
      go false true true = refl
      go false true false = refl
      go false false z = refl

  -- One more presence bit, and one more number.
  pub presences_from : layout (presences (drop i (parts_of d)))
      ≡ field_bits (presence (is_there i d.last (get_or (numbers_of d) i 0))) ++ layout (presences (drop (suc i) (parts_of d)))
  unfolding presences layout
  presences_from = rw (drop_parts, there_at)

  pub numbers_from : layout (number_fields (drop i roots) (drop i (parts_of d)))
      ≡ layout (component_fields i d.last (get_or (numbers_of d) i 0)) ++ layout (number_fields (drop (suc i) roots) (drop (suc i) (parts_of d)))
  unfolding component_fields
  numbers_from =
      rw (drop_parts, drop-cons roots i 0 h, one_part (get_or roots i 0) (drop (suc i) roots) (part_at i (parts_of d)) (drop (suc i) (parts_of d)))
      (layout-append (part_fields (get_or roots i 0) (part_at i (parts_of d))) (number_fields (drop (suc i) roots) (drop (suc i) (parts_of d)))
      ∙ ap (λ (fs : List Field). layout fs ++ layout (number_fields (drop (suc i) roots) (drop (suc i) (parts_of d)))) (fields_at (get_or roots i 0)))

-- ---- all components

-- One turn of the code: what is written so far is followed by what is left.
module _ (d : Duration) (i n : ℕ) (h : i < 7) (e : n ≡ get_or (numbers_of d) i 0) (written : BitString) {all bs : BitString} where
  pub presences_next : {cs : BitString} → written ++ layout (presences (drop i (parts_of d))) ≡ all → cs ≡ written ++ bs → {b : Bool}
      → bs ≡ field_bits (presence b) → b ≡ is_there i d.last n → cs ++ layout (presences (drop (i + 1) (parts_of d))) ≡ all
  presences_next p q g k =
      rw (add-one i, q, g, k, e, append_assoc written _ (layout (presences (drop (suc i) (parts_of d)))), ← presences_from d i h) p

  pub numbers_next : written ++ layout (number_fields (drop i roots) (drop i (parts_of d))) ≡ all → bs ≡ layout (component_fields i d.last n)
      → (written ++ bs) ++ layout (number_fields (drop (i + 1) roots) (drop (i + 1) (parts_of d))) ≡ all
  numbers_next p g =
      rw (add-one i, g, e, append_assoc written _ (layout (number_fields (drop (suc i) roots) (drop (suc i) (parts_of d)))), ← numbers_from d i h) p

-- After the last place there is none.
pub presences-end : (d : Duration) → layout (presences (drop 7 (parts_of d))) ≡ []
unfolding presences layout
presences-end d =
    let l : length (parts_of d) ≤ 7 = omega (arith, length_parts d 0 (omega arith)) in
    rw (drop_of_length-le (parts_of d) l)

pub numbers-end : (d : Duration) → layout (number_fields (drop 7 roots) (drop 7 (parts_of d))) ≡ []
unfolding number_fields layout
numbers-end d = refl

one : (f : Field) → field_bits f ≡ layout (f ∷ [])
unfolding layout
one f = sym (append-nil (field_bits f))

-- The presence bits, with the fraction's.
pub optionality-bits : (d : Duration) {bs cs es : BitString} → bs ≡ cs ++ es → cs ≡ layout (presences (parts_of d))
    → es ≡ field_bits (presence (ltb 0 d.digits)) → bs ≡ layout (optionality d)
unfolding optionality
optionality-bits d a b c =
    a ∙ ap₂ ◌++◌ b (c ∙ one (presence (ltb 0 d.digits))) ∙ sym (layout-append (presences (parts_of d)) (presence (ltb 0 d.digits) ∷ []))

-- ---- the fraction

pub no_digits : (n f : ℕ) → n ≡ 0 → layout (fraction_part n f) ≡ []
unfolding fraction_part layout
no_digits zero f e = refl
no_digits (suc n) f e = absurd (omega arith)

some_digits : (n f : ℕ) → 0 < n → layout (fraction_part n f) ≡ layout (extended 1 3 n) ++ layout (extended 1 999 f)
unfolding fraction_part
some_digits zero f h = absurd (omega arith)
some_digits (suc n) f h = layout-append (extended 1 3 (suc n)) (extended 1 999 f)

pub digits-bits : (n f : ℕ) → 0 < n → {bs cs : BitString} → bs ≡ layout (extended 1 3 n) → cs ≡ layout (extended 1 999 f)
    → bs ++ cs ≡ layout (fraction_part n f)
digits-bits n f h p q = ap₂ ◌++◌ p q ∙ sym (some_digits n f h)

-- ---- the whole

pub duration-bits : (d : Duration) {bs : BitString} → bs ≡ layout (optionality d)
    → bs ++ (layout (number_fields roots (parts_of d)) ++ layout (fraction_part d.digits d.fraction)) ≡ layout (duration_fields d)
unfolding optionality duration_fields
duration-bits d e =
    let ns = number_fields roots (parts_of d) in
    let fs = fraction_part d.digits d.fraction in
    let p = presence (ltb 0 d.digits) in
    rw (e, ← layout-append ns fs, ← layout-append (presences (parts_of d) ++ (p ∷ [])) (ns ++ fs), append_assoc (presences (parts_of d)) (p ∷ []) (ns ++ fs))

-- ---- the octets in the buffer

length-duration : (d : Duration) → length (octets_of (layout (duration_fields d))) ≡ (octets_for (record { count = bit_count (duration_fields d) })).count
length-duration d =
    length_octets (layout (duration_fields d)) ∙ ap (λ (n : ℕ). (octets_for (record { count = n })).count) (length-layout (duration_fields d))

module _ (d : Duration) {packed : Packed 48} (e : packed ≡ packed_duration d) where
  -- The bit count of a packed duration is that of its fields.
  pub duration-count : packed.bits ≡ record { count = bit_count (duration_fields d) }
  unfolding packed_duration
  duration-count = rw e

  -- The octets that carry its bits lie in the buffer, ..
  pub duration-short : {n : ℕ} → n ≡ (octets_for packed.bits).count → n ≤ 48
  unfolding octets_for
  duration-short h = let l = duration_most d in rw (h, duration-count) (omega arith)

  -- .. and are the octets of its fields.
  pub duration-front : {n : ℕ} → n ≡ (octets_for packed.bits).count → take n packed.octets ≡ octets_of (layout (duration_fields d))
  unfolding packed_duration in_buffer
  duration-front h =
      rw (h, duration-count, e)
      (take_at (octets_of (layout (duration_fields d))) (drop (length (octets_of (layout (duration_fields d)))) (replicate 48 0))
      (octets_for (record { count = bit_count (duration_fields d) })).count (length-duration d))
