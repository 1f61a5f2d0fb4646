-- What octets give, by what the code has read.
use Rattle.std.specs.Prelude.{Some, None, slice_get}
use mathlib.Core.Path.{◌≡◌, refl, sym, ap, ◌∙◌}
use mathlib.Core.Bool.{Bool, true, false, ◌||◌, not, cond, false≢true}
use mathlib.Core.List.{List, [], ◌∷◌}
use Prim.Native.Nat.{ℕ, ◌%◌}
use native.Mathlib.Omega.{arith}
use lib.Dec.{eqb}
use lib.Seq.{drop_at}
use Rattle.octets.specs.Found.{Found, found, nothing, onward, of_found}
use Rattle.octets.proofs.Laws.Cases.{by_test, both}
use Rattle.fields.specs.Bits.{BitString, bits_of, unpacked}
use Rattle.fields.specs.Readings.{Reading, give, ◌>>=◌, require, run}
use Rattle.fields.proofs.Laws.Bits.{length-bits}
use Rattle.fields.proofs.Laws.Readings.{run_bind}
use Rattle.durations.specs.declared.Duration.{Duration}
use Rattle.durations.specs.Parts.{Part, absent, present, is_present, number_in as number_of, digits_in, fraction_in}
use Rattle.durations.specs.Parts.{count, any_present, last_in, of_last, numbers, part_at, well_made}
use Rattle.durations.specs.Durations.{duration_of}
use Rattle.durations.specs.Fields.{roots}
use Rattle.durations.specs.Readings.{read_numbers, Tail, tail, read_tail, with_tail, ended_by, read_fields, duration_in_octets}
use Rattle.durations.proofs.Laws.Found.{some_ended}
use Rattle.texts.specs.declared.parts.Fraction.{Fraction}
use Rattle.unpacking.specs.Durations.{bits_in, after_presences, duration_from}
use Rattle.unpacking.proofs.Laws.Rows.{required, not_required}
use Rattle.unpacking.proofs.Laws.Presences.{octet_first, no_octet}

-- ---- what is read after the presence bits

after : List ℕ → ℕ → Reading Duration
after bs x = read_numbers roots bs >>= λ ps. read_tail x >>= λ t. require (well_made ps) (give (duration_of (ended_by t ps)))

fields_after : (s : List ℕ) (o : ℕ) → Some o ≡ slice_get s 0 → run read_fields (unpacked s) ≡ after_presences s (after (bits_in o) (o % 2))
unfolding read_fields after unpacked
fields_after [] o h = absurd (let z : ◌≡◌ {A = ℕ} 0 1 = cc in omega arith)
fields_after (p ∷ os) o h =
    let e : o ≡ p = cc in
    rw e (octet_first after p (unpacked os) ∙ ap (run (after (bits_in p) (p % 2))) (sym (drop_at (bits_of 8 p) (unpacked os) 8 (length-bits 8 p))))

-- No octet gives nothing.
pub duration_empty : (s : List ℕ) → None ≡ slice_get s 0 → duration_in_octets s ≡ None
unfolding duration_in_octets read_fields unpacked
duration_empty [] h = ap of_found (no_octet after')
  where
    after' : List ℕ → ℕ → Reading Duration
    after' bs x = read_numbers roots bs >>= λ ps. read_tail x >>= λ t. require (well_made ps) (give (duration_of (ended_by t ps)))
duration_empty (o ∷ os) h = absurd (let z : ◌≡◌ {A = ℕ} 0 1 = cc in omega arith)

module _ (s : List ℕ) (o : ℕ) (is : Some o ≡ slice_get s 0) where
  by_numbers : {m : Found Bool (List Part)} → after_presences s (read_numbers roots (bits_in o)) ≡ m
      → duration_in_octets s ≡ of_found (onward m (λ ps. run (read_tail (o % 2) >>= λ t. require (well_made ps) (give (duration_of (ended_by t ps))))))
  unfolding duration_in_octets after
  by_numbers e =
      rw (fields_after s o is)
      (ap of_found (run_bind (read_numbers roots (bits_in o)) (λ ps. read_tail (o % 2) >>= λ t. require (well_made ps) (give (duration_of (ended_by t ps)))) _
      ∙ ap (λ m. onward m (λ ps. run (read_tail (o % 2) >>= λ t. require (well_made ps) (give (duration_of (ended_by t ps)))))) e))

  pub duration_unnumbered : after_presences s (read_numbers roots (bits_in o)) ≡ nothing → duration_in_octets s ≡ None
  duration_unnumbered e = by_numbers e

  module _ {ps : List Part} {t : BitString} (e : after_presences s (read_numbers roots (bits_in o)) ≡ found ps t) where
    by_tail : (m : Found Bool Tail) → run (read_tail (o % 2)) t ≡ m
        → duration_in_octets s ≡ of_found (onward m (λ x. run (require (well_made ps) (give (duration_of (ended_by x ps))))))
    by_tail m f = by_numbers e ∙ ap of_found (run_bind (read_tail (o % 2)) (λ x. require (well_made ps) (give (duration_of (ended_by x ps)))) t
        ∙ ap (λ m. onward m (λ x. run (require (well_made ps) (give (duration_of (ended_by x ps)))))) f)

    pub duration_untailed : of_found (run (read_tail (o % 2)) t) ≡ None → duration_in_octets s ≡ None
    duration_untailed f = go (run (read_tail (o % 2)) t) refl f
      where
        go : (m : Found Bool Tail) → run (read_tail (o % 2)) t ≡ m → of_found m ≡ None → duration_in_octets s ≡ None
        go (found x u) g h = absurd (let z : ◌≡◌ {A = ℕ} 0 1 = cc in omega arith)
        go nothing g h = by_tail nothing g

    module _ {x : Tail} (f : of_found (run (read_tail (o % 2)) t) ≡ Some x) where
      with_tail_lem : duration_in_octets s ≡ of_found (run (require (well_made ps) (give (duration_of (ended_by x ps)))) t)
      unfolding run
      with_tail_lem = go (run (read_tail (o % 2)) t) refl f
        where
          go : (m : Found Bool Tail) → run (read_tail (o % 2)) t ≡ m → of_found m ≡ Some x
              → duration_in_octets s ≡ of_found (run (require (well_made ps) (give (duration_of (ended_by x ps)))) t)
          go (found y u) g h = by_tail (found y u) g ∙ rw (let z : y ≡ x = cc in z) (tested (well_made ps) u)
            where
              tested : (b : Bool) (u : BitString) → of_found (run (require b (give (duration_of (ended_by x ps)))) u)
                  ≡ of_found (run (require b (give (duration_of (ended_by x ps)))) t)
              tested b u = by_test b (λ c. rw (required b (give (duration_of (ended_by x ps))) c))
                  (λ c. rw (not_required b (give (duration_of (ended_by x ps))) u c, not_required b (give (duration_of (ended_by x ps))) t c))
          go nothing g h = absurd (let z : ◌≡◌ {A = ℕ} 0 1 = cc in omega arith)

      pub duration_unmade : well_made ps ≡ false → duration_in_octets s ≡ None
      duration_unmade w = with_tail_lem ∙ ap of_found (not_required (well_made ps) (give (duration_of (ended_by x ps))) t w)

      pub duration-made : well_made ps ≡ true → duration_in_octets s ≡ Some (duration_of (ended_by x ps))
      unfolding run
      duration-made w = with_tail_lem ∙ rw (required (well_made ps) (give (duration_of (ended_by x ps))) w)

-- ---- the duration of components

last_ended : (t : Tail) (ps : List Part) → last_in (ended_by t ps) ≡ last_in ps
unfolding last_in ended_by
last_ended t [] = refl
last_ended t (p ∷ ps) = rw (some_ended t ps, last_ended t ps)

number_ended : (t : Tail) (b : Bool) (p : Part) → number_of (cond b p (with_tail t p)) ≡ number_of p
number_ended t true p = refl
number_ended t false absent = refl
number_ended t false (present n d f) = refl

numbers_ended : (t : Tail) (ps : List Part) → numbers (ended_by t ps) ≡ numbers ps
unfolding numbers ended_by
numbers_ended t [] = refl
numbers_ended t (p ∷ ps) = rw (number_ended t (any_present ps) p, numbers_ended t ps)

of-last : (g : Part → ℕ) (x : ℕ) (t : Tail) → ((n d : ℕ) (f : Fraction) → g (with_tail t (present n d f)) ≡ x) → (ps : List Part) → any_present ps ≡ true
    → of_last g (ended_by t ps) ≡ x
unfolding of_last ended_by any_present
of-last g x t h [] e = absurd (false≢true e)
of-last g x t h (p ∷ ps) e = rw (some_ended t ps) (go (of-last g x t h ps) (any_present ps) refl p e)
  where
    go : (any_present ps ≡ true → of_last g (ended_by t ps) ≡ x) → (b : Bool) → any_present ps ≡ b → (p : Part) → (is_present p || b) ≡ true
        → cond b (of_last g (ended_by t ps)) (g (cond b p (with_tail t p))) ≡ x
    go k true q p e = k q
    go k false q absent e = absurd (false≢true e)
    go k false q (present n d f) e = h n d f

pub duration-is : (d f : ℕ) (ps : List Part) → well_made ps ≡ true → {ns : List ℕ} → numbers ps ≡ ns → {last : ℕ} → last_in ps ≡ last
    → duration_of (ended_by (tail d f) ps) ≡ duration_from ns last d f
unfolding duration_of well_made
duration-is d f ps w v l =
    let p = (both (any_present ps) (eqb (count ps) 1 || not (is_present (part_at 2 ps))) w).0 in
    rw (
      last_ended (tail d f) ps,
      l,
      numbers_ended (tail d f) ps,
      v,
      of-last digits_in d (tail d f) (λ n k g. refl) ps p,
      of-last fraction_in f (tail d f) (λ n k g. refl) ps p,
    )
