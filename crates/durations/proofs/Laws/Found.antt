-- The other way: whatever fields drive what is read to a duration are loose fields of it, and it exists.
use mathlib.Core.Path.{◌≡◌, refl, ap, sym, ◌∙◌}
use mathlib.Core.Bool.{Bool, true, false, ◌&&◌, ◌||◌, not, cond, and-false}
use mathlib.Core.List.{List, [], ◌∷◌, ◌++◌, append-nil}
use Prim.Native.Nat.{ℕ, zero, suc, ◌+◌, ◌-◌, ◌^◌, ◌<◌, ◌≤◌}
use native.Mathlib.Omega.{arith}
use lib.Dec.{eqb, leb, ltb}
use lib.IntN.{ℤ, pos, negsuc}
use lib.ListN.{length}
use borrow.Author.Tests.{le-leb, lt-ltb, leb-true, ltb-true}
use Rattle.octets.proofs.Laws.Cases.{both}
use Rattle.fields.specs.Integers.{within}
use Rattle.fields.specs.Fields.{Field, Ranged, Free}
use Rattle.octets.specs.Found.{found}
use Rattle.fields.specs.Readings.{give, ◌>>=◌, a_ranged, a_free, require, over, natural}
use Rattle.fields.proofs.Laws.Paths.{Paths, paths_over, paths_then, paths_weaken, paths_require, paths_give}
use Rattle.durations.specs.declared.Duration.{Duration}
use Rattle.durations.specs.Parts.{Part, absent, any_present, bares, count, digits_in, is_present, no_fraction, numbers, part_at, present, well_made}
use Rattle.durations.specs.Durations.{all_small, duration_of, exists_duration}
use Rattle.durations.specs.Fields.{long_number, extended, roots, presences}
use Rattle.durations.specs.Readings.{read_after, read_extended, read_presences, read_numbers, Tail, tail, read_tail, with_tail, ended_by, read_fields}
use Rattle.durations.specs.Loose.{LooseDuration, Numbered, loose_number, loose_numbers, loose_tail, parted, whole}
use Rattle.durations.proofs.Laws.Parts.{or-true}
use Rattle.durations.proofs.Laws.Made.{PartFits, AllFit, tidy}
use Rattle.durations.proofs.Laws.Values.{made-exists}

paths_ranged : (r : ℕ) (P : List Field → ℕ → Type 0) → ((v : ℕ) → v < r → P (Ranged r v ∷ []) v) → Paths (a_ranged r) P
unfolding Paths a_ranged
paths_ranged r P h = h

-- ---- one number

record NumberFrom (lowest r : ℕ) (fs : List Field) (n : ℕ) : Type 0 where
  pub long : Bool
  pub is : fs ≡ loose_number long lowest r n

number_paths : (lowest r : ℕ) → Paths (read_extended lowest r) (NumberFrom lowest r)
unfolding Paths read_extended read_after natural a_ranged a_free ◌>>=◌ loose_number extended long_number
number_paths lowest r = choice
  where
    integer : (z : ℤ) → within 4 z ≡ true → Paths (natural z) (λ gs. NumberFrom lowest r (Ranged 2 1 ∷ Free z ∷ gs))
    integer (pos n) w = record { long = true; is = refl }
    integer (negsuc n) w = tt

    choice : (x : ℕ) → x < 2 → Paths (read_after lowest r x) (λ gs. NumberFrom lowest r (Ranged 2 x ∷ gs))
    choice zero l = λ v h.
        let b : lowest + v - lowest ≡ v = omega arith in
        record { long = false; is = simp (le-leb lowest (lowest + v) (omega arith), b, lt-ltb v r h) }
    choice (suc zero) l = integer
    choice (suc (suc x)) l = absurd (omega arith)

-- ---- presence bits

unfoldable bit_fields : List ℕ → List Field
bit_fields [] = []
bit_fields (b ∷ bs) = Ranged 2 b ∷ bit_fields bs

unfoldable AllBits : List ℕ → Type 0
AllBits [] = Unit {0}
AllBits (b ∷ bs) = (b < 2) × AllBits bs

record BitsFrom (k : ℕ) (fs : List Field) (bs : List ℕ) : Type 0 where
  pub is : fs ≡ bit_fields bs
  pub count : length bs ≡ k
  pub bits : AllBits bs

presences_paths : (k : ℕ) → Paths (read_presences k) (BitsFrom k)
unfolding read_presences
presences_paths zero = paths_give [] (BitsFrom 0) (record { is = unfold bit_fields in refl; count = refl; bits = unfold AllBits in tt })
presences_paths (suc k) =
    paths_then (a_ranged 2) _ (λ fs b. (fs ≡ Ranged 2 b ∷ []) × (b < 2)) (BitsFrom (suc k)) (paths_ranged 2 _ (λ v l. (refl, l))) (λ fs b p.
    paths_then (read_presences k) _ (BitsFrom k) _ (presences_paths k) (λ gs bs q.
    paths_give (b ∷ bs) _ (added k fs gs b bs p.0 p.1 q)))
  where
    added : (k : ℕ) (fs gs : List Field) (b : ℕ) (bs : List ℕ) → fs ≡ Ranged 2 b ∷ [] → b < 2 → BitsFrom k gs bs → BitsFrom (suc k) (fs ++ (gs ++ [])) (b ∷ bs)
    added k fs gs b bs e l q = record {
      is = unfold bit_fields in rw (e, append-nil gs, q.is);
      count = ap suc q.count;
      bits = unfold AllBits in (l, q.bits);
    }

-- ---- numbers

-- No component has a fraction.
unfoldable Plain : List Part → Type 0
Plain [] = Unit {0}
Plain (p ∷ ps) = (digits_in p ≡ 0) × Plain ps

record NumbersFrom (rs bs : List ℕ) (fs : List Field) (ps : List Part) : Type 0 where
  pub longs : List Bool
  pub is : fs ≡ loose_numbers longs rs ps
  pub fits : AllFit ps
  pub plain : Plain ps
  pub bare : bares ps ≡ ps
  pub small : all_small (numbers ps) ≡ true
  pub there : presences ps ≡ bit_fields bs
  pub count : length ps ≡ length bs

numbers_paths : (rs bs : List ℕ) → length rs ≡ length bs → AllBits bs → Paths (read_numbers rs bs) (NumbersFrom rs bs)
unfolding read_numbers AllBits
numbers_paths [] [] n h =
    paths_give [] (NumbersFrom [] []) (record {
      longs = [];
      is = unfold loose_numbers in refl;
      fits = unfold AllFit in tt;
      plain = unfold Plain in tt;
      bare = unfold bares in refl;
      small = unfold all_small numbers in refl;
      there = unfold presences bit_fields in refl;
      count = refl;
    })
numbers_paths [] (b ∷ bs) n h = absurd (omega arith)
numbers_paths (r ∷ rs) [] n h = absurd (omega arith)
numbers_paths (r ∷ rs) (zero ∷ bs) n h =
    paths_then (read_numbers rs bs) _ (NumbersFrom rs bs) _ (numbers_paths rs bs (omega arith) h.1) (λ fs ps q.
    paths_give (absent ∷ ps) _ (skipped fs ps q))
  where
    skipped : (fs : List Field) (ps : List Part) → NumbersFrom rs bs fs ps → NumbersFrom (r ∷ rs) (0 ∷ bs) (fs ++ []) (absent ∷ ps)
    skipped fs ps q = record {
      longs = false ∷ q.longs;
      is = append-nil fs ∙ unfolded q.longs ps q.is;
      fits = unfold AllFit in (tt, q.fits);
      plain = unfold Plain in (refl, q.plain);
      bare = unfold bares in ap (λ (x : List Part). absent ∷ x) q.bare;
      small = unfold all_small numbers in q.small;
      there = unfold presences bit_fields in ap (λ (x : List Field). Ranged 2 0 ∷ x) q.there;
      count = ap suc q.count;
    }
      where
        unfolded : (ls : List Bool) (ps : List Part) → fs ≡ loose_numbers ls rs ps → fs ≡ loose_numbers (false ∷ ls) (r ∷ rs) (absent ∷ ps)
        unfolded ls ps e = unfold loose_numbers in e
numbers_paths (r ∷ rs) (suc b ∷ bs) n h =
    paths_then (read_extended 0 r) _ (NumberFrom 0 r) _ (number_paths 0 r) (λ fs x p.
    paths_then (require (ltb x (10 ^ 9)) (read_numbers rs bs)) _ (λ gs ps. (ltb x (10 ^ 9) ≡ true) × NumbersFrom rs bs gs ps) _
    (paths_require (ltb x (10 ^ 9)) (read_numbers rs bs) _ (λ t. paths_weaken (read_numbers rs bs) (NumbersFrom rs bs) _ (λ gs ps q. (t, q))
    (numbers_paths rs bs (omega arith) h.1)))
    (λ gs ps q. paths_give (present x 0 no_fraction ∷ ps) _ (added fs gs x ps h.0 p q.0 q.1)))
  where
    added : (fs gs : List Field) (x : ℕ) (ps : List Part) → suc b < 2 → NumberFrom 0 r fs x → ltb x (10 ^ 9) ≡ true → NumbersFrom rs bs gs ps
        → NumbersFrom (r ∷ rs) (suc b ∷ bs) (fs ++ (gs ++ [])) (present x 0 no_fraction ∷ ps)
    added fs gs x ps l p t q =
        let z : b ≡ 0 = omega arith in
        record {
          longs = p.long ∷ q.longs;
          is = text p.long q.longs p.is q.is;
          fits = unfold AllFit in ((ltb-true x (10 ^ 9) t, omega arith, omega arith, refl), q.fits);
          plain = unfold Plain in (refl, q.plain);
          bare = unfold bares in ap (λ (y : List Part). present x 0 no_fraction ∷ y) q.bare;
          small = unfold all_small numbers in rw (t, q.small);
          there = bits z q.there;
          count = ap suc q.count;
        }
      where
        text : (y : Bool) (ys : List Bool) → fs ≡ loose_number y 0 r x → gs ≡ loose_numbers ys rs ps
            → fs ++ (gs ++ []) ≡ loose_numbers (y ∷ ys) (r ∷ rs) (present x 0 no_fraction ∷ ps)
        text y ys e g = unfold loose_numbers in rw (append-nil gs, e, g)

        bits : b ≡ 0 → presences ps ≡ bit_fields bs → presences (present x 0 no_fraction ∷ ps) ≡ bit_fields (suc b ∷ bs)
        bits z e = unfold presences bit_fields in rw (z, e)

-- ---- the fraction

record TailFrom (fs : List Field) (t : Tail) : Type 0 where
  pub counted : Bool
  pub long : Bool
  pub is : fs ≡ loose_tail counted long t
  pub some : 1 ≤ t.digits
  pub few : t.digits ≤ 9
  pub fits : t.fraction < 10 ^ t.digits

tail_paths : Paths (read_tail 1) TailFrom
unfolding read_tail
tail_paths =
    paths_then (read_extended 1 3) _ (NumberFrom 1 3) TailFrom (number_paths 1 3) (λ fs d p.
    paths_then (require (leb 1 d && leb d 9) (read_extended 1 999)) _ (λ gs f. ((leb 1 d && leb d 9) ≡ true) × NumberFrom 1 999 gs f) _
    (paths_require (leb 1 d && leb d 9) (read_extended 1 999) _ (λ t. paths_weaken (read_extended 1 999) (NumberFrom 1 999) _ (λ gs f q. (t, q))
    (number_paths 1 999)))
    (λ gs f q. paths_require (ltb f (10 ^ d)) (give (tail d f)) _ (λ t.
    paths_give (tail d f) (λ hs. TailFrom (fs ++ (gs ++ hs))) (made fs gs d f p q.0 q.1 t))))
  where
    made : (fs gs : List Field) (d f : ℕ) → NumberFrom 1 3 fs d → (leb 1 d && leb d 9) ≡ true → NumberFrom 1 999 gs f → ltb f (10 ^ d) ≡ true
        → TailFrom (fs ++ (gs ++ [])) (tail d f)
    made fs gs d f p b q t = record {
      counted = p.long;
      long = q.long;
      is = unfold loose_tail in rw (append-nil gs, p.is, q.is);
      some = leb-true 1 d (both (leb 1 d) (leb d 9) b).0;
      few = leb-true d 9 (both (leb 1 d) (leb d 9) b).1;
      fits = ltb-true f (10 ^ d) t;
    }

-- ---- components with their fraction

present_ended : (t : Tail) (b : Bool) (p : Part) → is_present (cond b p (with_tail t p)) ≡ is_present p
present_ended t true p = refl
present_ended t false absent = refl
present_ended t false (present n d f) = refl

pub some_ended : (t : Tail) (ps : List Part) → any_present (ended_by t ps) ≡ any_present ps
unfolding any_present ended_by
some_ended t [] = refl
some_ended t (p ∷ ps) = rw (some_ended t ps, present_ended t (any_present ps) p)

count_ended : (t : Tail) (ps : List Part) → count (ended_by t ps) ≡ count ps
unfolding count ended_by
count_ended t [] = refl
count_ended t (p ∷ ps) = rw (count_ended t ps, present_ended t (any_present ps) p)

at_ended : (t : Tail) (i : ℕ) (ps : List Part) → is_present (part_at i (ended_by t ps)) ≡ is_present (part_at i ps)
unfolding part_at ended_by
at_ended t i [] = refl
at_ended t zero (p ∷ ps) = present_ended t (any_present ps) p
at_ended t (suc i) (p ∷ ps) = at_ended t i ps

made_ended : (t : Tail) (ps : List Part) → well_made (ended_by t ps) ≡ well_made ps
unfolding well_made
made_ended t ps = rw (some_ended t ps, count_ended t ps, at_ended t 2 ps)

length_ended : (t : Tail) (ps : List Part) → length (ended_by t ps) ≡ length ps
unfolding ended_by
length_ended t [] = refl
length_ended t (p ∷ ps) = ap suc (length_ended t ps)

tidy_ended : (t : Tail) (ps : List Part) → Plain ps → tidy (ended_by t ps) ≡ true
unfolding tidy ended_by Plain
tidy_ended t [] h = refl
tidy_ended t (p ∷ ps) h = rw (some_ended t ps, tidy_ended t ps h.1, go (any_present ps))
  where
    go : (b : Bool) → (eqb (digits_in (cond b p (with_tail t p))) 0 || not b) ≡ true
    go true = rw h.0
    go false = or-true (eqb (digits_in (with_tail t p)) 0)

fit_ended : (t : Tail) (ps : List Part) → t.digits ≤ 9 → t.fraction < 10 ^ t.digits → AllFit ps → AllFit (ended_by t ps)
unfolding AllFit ended_by
fit_ended t [] l g h = tt
fit_ended t (p ∷ ps) l g h = (go (any_present ps) p h.0, fit_ended t ps l g h.1)
  where
    go : (b : Bool) (p : Part) → PartFits p → PartFits (cond b p (with_tail t p))
    go true p f = f
    go false absent f = tt
    go false (present n d x) f = (f.0, l, g, and-false (not (eqb t.digits 0)))

-- ---- the duration

ended_exists : (t : Tail) (ps : List Part) → t.digits ≤ 9 → t.fraction < 10 ^ t.digits → AllFit ps → Plain ps → length ps ≡ 7 → well_made ps ≡ true
    → exists_duration (duration_of (ended_by t ps)) ≡ true
ended_exists t ps l g h k n w =
    made-exists (ended_by t ps) (length_ended t ps ∙ n) (fit_ended t ps l g h) (tidy_ended t ps k) (made_ended t ps ∙ w)

whole_fields : (fs gs : List Field) (bs : List ℕ) (ps : List Part) → BitsFrom 7 fs bs → (q : NumbersFrom roots bs gs ps)
    → fs ++ (Ranged 2 0 ∷ (gs ++ [])) ≡ presences ps ++ (Ranged 2 0 ∷ loose_numbers q.longs roots ps)
whole_fields fs gs bs ps p q = rw (append-nil gs, p.is, q.there) (ap (λ (x : List Field). bit_fields bs ++ (Ranged 2 0 ∷ x)) q.is)

parted-fields : (fs gs hs : List Field) (bs : List ℕ) (ps : List Part) (t : Tail) → BitsFrom 7 fs bs → (q : NumbersFrom roots bs gs ps) → (u : TailFrom hs t)
    → fs ++ (Ranged 2 1 ∷ (gs ++ (hs ++ []))) ≡ presences ps ++ (Ranged 2 1 ∷ (loose_numbers q.longs roots ps ++ loose_tail u.counted u.long t))
parted-fields fs gs hs bs ps t p q u =
    rw (append-nil hs, p.is, q.there) (λ i. bit_fields bs ++ (Ranged 2 1 ∷ (q.is i ++ u.is i)))

-- Loose fields of a duration, which exists.
abbrev Loose : List Field → Duration → Type 0
Loose fs d = LooseDuration fs d × (exists_duration d ≡ true)

duration_paths : Paths read_fields Loose
unfolding read_fields
duration_paths =
    paths_then (read_presences 7) _ (BitsFrom 7) Loose (presences_paths 7) (λ fs bs p.
    paths_then (a_ranged 2) _ (λ gs x. (gs ≡ Ranged 2 x ∷ []) × (x < 2)) _ (paths_ranged 2 _ (λ v l. (refl, l))) (λ gs x o.
    paths_then (read_numbers roots bs) _ (NumbersFrom roots bs) _ (numbers_paths roots bs (sym p.count) p.bits) (λ hs ps q.
    rest fs gs hs bs ps x p q o.0 o.1)))
  where
    numbered : (bs : List ℕ) (fs gs : List Field) (ps : List Part) → BitsFrom 7 fs bs → NumbersFrom roots bs gs ps → well_made ps ≡ true → Numbered ps
    numbered bs fs gs ps p q w = record { seven = q.count ∙ p.count; made = w; plain = q.bare; small = q.small }

    rest : (fs gs hs : List Field) (bs : List ℕ) (ps : List Part) (x : ℕ) → BitsFrom 7 fs bs → NumbersFrom roots bs hs ps → gs ≡ Ranged 2 x ∷ [] → x < 2
        → Paths (read_tail x >>= λ t. require (well_made ps) (give (duration_of (ended_by t ps)))) (λ ks. Loose (fs ++ (gs ++ (hs ++ ks))))
    rest fs gs hs bs ps zero p q e l =
        paths_then (read_tail 0) _ (λ ks t. (ks ≡ []) × (t ≡ tail 0 0)) _ (unfold read_tail in paths_give (tail 0 0) _ (refl, refl)) (λ ks t u.
        paths_require (well_made ps) (give (duration_of (ended_by t ps))) _ (λ w.
        paths_give (duration_of (ended_by t ps)) _
        (ends ks t w u.0 u.1)))
      where
        ends : (ks : List Field) (t : Tail) → well_made ps ≡ true → ks ≡ [] → t ≡ tail 0 0
            → Loose (fs ++ (gs ++ (hs ++ (ks ++ [])))) (duration_of (ended_by t ps))
        ends ks t w a b =
            let n = numbered bs fs hs ps p q w in
            rw (a, b, e, whole_fields fs hs bs ps p q)
            (whole ps q.longs n, ended_exists (tail 0 0) ps (omega arith) (omega arith) q.fits q.plain n.seven w)
    rest fs gs hs bs ps (suc zero) p q e l =
        paths_then (read_tail 1) _ TailFrom _ tail_paths (λ ks t u.
        paths_require (well_made ps) (give (duration_of (ended_by t ps))) _ (λ w.
        paths_give (duration_of (ended_by t ps)) _
        (ends ks t w u)))
      where
        ends : (ks : List Field) (t : Tail) → well_made ps ≡ true → TailFrom ks t → Loose (fs ++ (gs ++ (hs ++ (ks ++ [])))) (duration_of (ended_by t ps))
        ends ks t w u =
            let n = numbered bs fs hs ps p q w in
            rw (e, parted-fields fs hs ks bs ps t p q u) (
              parted ps t q.longs u.counted u.long n u.some u.few u.fits,
              ended_exists t ps u.few u.fits q.fits q.plain n.seven w,
            )
    rest fs gs hs bs ps (suc (suc x)) p q e l = absurd (omega arith)

-- Whatever fields drive what is read to a duration are loose fields of it.
pub drives_duration : (fs : List Field) (d : Duration) → over read_fields fs ≡ found d [] → LooseDuration fs d
drives_duration fs d e = (paths_over read_fields Loose duration_paths fs d e).0

-- What is read exists: of durations there is no refusal 4.
pub read_exists : (fs : List Field) (d : Duration) → over read_fields fs ≡ found d [] → exists_duration d ≡ true
read_exists fs d e = (paths_over read_fields Loose duration_paths fs d e).1
