-- Whatever is read as a duration exists, and the text is one of its texts.
use mathlib.Core.Path.{◌≡◌, refl, ap, sym, ◌∙◌, subst}
use mathlib.Core.Bool.{Bool, true, false, ◌||◌, not, cond}
use mathlib.Core.List.{List, [], ◌∷◌, ◌++◌, append-nil}
use Prim.Native.Nat.{ℕ, suc}
use native.Mathlib.Omega.{arith}
use lib.Dec.{eqb}
use lib.ListN.{drop, take, length, length-append}
use lib.Seq.{take_at, drop_at}
use borrow.Author.Tests.{eqb-true}
use Rattle.octets.proofs.Laws.Cases.{both, by_test}
use Rattle.texts.specs.Octets.{first_octet, letter_t}
use Rattle.octets.specs.Found.{found, nothing, onward}
use Rattle.octets.proofs.Laws.Found.{onward-found, cond-found}
use Rattle.durations.specs.Parts.{Part, absent, is_present, digits_in, any_present}
use Rattle.durations.specs.Texts.{letter_p, date_letters, time_letters, put_parts, put_times, put_duration, put_all, get_parts, get_times, get_duration}
use Rattle.durations.proofs.Laws.Made.{AllFit, tidy}
use Rattle.durations.proofs.Laws.Reads.{PartsFrom, bare, parts_from_lem, empty, date_pos, time_pos}

-- ---- the text

three : List Part
three = absent ∷ absent ∷ absent ∷ []

pub record TimesFrom (l : List ℕ) (ts : List Part) (r : List ℕ) : Type 0 where
  pub is : l ≡ put_times ts ++ r
  pub fits : AllFit ts
  pub count : length ts ≡ 3
  pub tidied : tidy ts ≡ true
  pub nothing : l ≡ [] → any_present ts ≡ false

head_T : (l : List ℕ) → eqb (first_octet l) letter_t ≡ true → l ≡ letter_t ∷ drop 1 l
head_T [] e = absurd (let z : 0 ≡ letter_t = eqb-true 0 letter_t e in omega arith)
head_T (x ∷ l) e = ap (λ (y : ℕ). y ∷ l) (eqb-true x letter_t e)

times_text : (l : List ℕ) (ts : List Part) (r : List ℕ) → l ≡ letter_t ∷ drop 1 l → any_present ts ≡ true → drop 1 l ≡ put_parts time_letters ts ++ r
    → l ≡ put_times ts ++ r
unfolding put_times
times_text l ts r h s e = rw s (h ∙ ap (λ (y : List ℕ). letter_t ∷ y) e)

times_from : (l : List ℕ) (ts : List Part) (r : List ℕ) → get_times l ≡ found ts r → TimesFrom l ts r
unfolding get_times
times_from l ts r = go (eqb (first_octet l) letter_t) refl
  where
    go : (b : Bool) → eqb (first_octet l) letter_t ≡ b
        → cond b (onward (get_parts time_letters (drop 1 l)) λ ts q. cond (any_present ts) (found ts q) nothing)
        (found (absent ∷ absent ∷ absent ∷ []) l) ≡ found ts r → TimesFrom l ts r
    go true b e =
        let x = onward-found (get_parts time_letters (drop 1 l)) _ ts r e in
        let c = cond-found (any_present x.0) _ ts r x.3 in
        let p = parts_from_lem time_letters (drop 1 l) x.0 x.1 time_pos x.2 in
        let v : x.0 ≡ ts = let z = c.1 in cc in
        let w : x.1 ≡ r = let z = c.1 in cc in
        let h = head_T l b in
        subst (λ (y : List Part). TimesFrom l y r) v (subst (λ (y : List ℕ). TimesFrom l x.0 y) w
        (record {
          is = times_text l x.0 x.1 h c.0 p.is;
          fits = p.fits;
          count = p.count;
          tidied = p.tidied;
          nothing = λ z. absurd (let n : 0 ≡ suc (length (drop 1 l)) = ap length (sym z ∙ h) in omega arith);
        }))
    go false b e =
        let v : absent ∷ absent ∷ absent ∷ [] ≡ ts = cc in
        let w : l ≡ r = cc in
        subst (λ (y : List Part). TimesFrom l y r) v (subst (λ (y : List ℕ). TimesFrom l (absent ∷ absent ∷ absent ∷ []) y) w
        (record {
          is = unfold put_times any_present in refl;
          fits = unfold AllFit in (tt, (tt, (tt, tt)));
          count = refl;
          tidied = unfold tidy in refl;
          nothing = λ z. unfold any_present in refl;
        }))

-- Components before and after: tidy together.
some_after : (ps q : List Part) → any_present q ≡ false → any_present (ps ++ q) ≡ any_present ps
unfolding any_present
some_after [] q e = e
some_after (p ∷ ps) q e = ap (λ (b : Bool). is_present p || b) (some_after ps q e)

tidy_bare : (ps q : List Part) → bare ps ≡ true → tidy q ≡ true → tidy (ps ++ q) ≡ true
unfolding tidy bare
tidy_bare [] q h g = g
tidy_bare (p ∷ ps) q h g = let b = both (eqb (digits_in p) 0) (bare ps) h in rw (b.0, tidy_bare ps q b.1 g)

tidy_none : (ps q : List Part) → tidy ps ≡ true → any_present q ≡ false → tidy q ≡ true → tidy (ps ++ q) ≡ true
unfolding tidy
tidy_none [] q h s g = g
tidy_none (p ∷ ps) q h s g =
    let b = both (eqb (digits_in p) 0 || not (any_present ps)) (tidy ps) h in
    rw (some_after ps q s, b.0, tidy_none ps q b.1 s g)

fit_append : (ps q : List Part) → AllFit ps → AllFit q → AllFit (ps ++ q)
unfolding AllFit
fit_append [] q h g = g
fit_append (p ∷ ps) q h g = (h.0, fit_append ps q h.1 g)

pub record WholeFrom (l : List ℕ) (ps : List Part) : Type 0 where
  pub is : l ≡ put_all ps
  pub fits : AllFit ps
  pub count : length ps ≡ 7
  pub tidied : tidy ps ≡ true

split_4 : (ds ts : List Part) → length ds ≡ 4 → (take 4 (ds ++ ts) ≡ ds) × (drop 4 (ds ++ ts) ≡ ts)
split_4 ds ts n = (take_at ds ts 4 n, drop_at ds ts 4 n)

head_P : (l : List ℕ) → eqb (first_octet l) letter_p ≡ true → l ≡ letter_p ∷ drop 1 l
head_P [] e = absurd (let z : 0 ≡ letter_p = eqb-true 0 letter_p e in omega arith)
head_P (x ∷ l) e = ap (λ (y : ℕ). y ∷ l) (eqb-true x letter_p e)

whole-text : (l : List ℕ) (ds ts : List Part) (r s : List ℕ) → take 4 (ds ++ ts) ≡ ds → drop 4 (ds ++ ts) ≡ ts → l ≡ letter_p ∷ drop 1 l
    → drop 1 l ≡ put_parts date_letters ds ++ r → r ≡ put_times ts ++ s → s ≡ [] → l ≡ put_all (ds ++ ts)
unfolding put_duration
whole-text l ds ts r s a b h e g w =
    rw (a, b) (h ∙ ap (λ (y : List ℕ). letter_p ∷ y) (e ∙ ap (λ (y : List ℕ). put_parts date_letters ds ++ y)
    (g ∙ ap (λ (y : List ℕ). put_times ts ++ y) w ∙ append-nil (put_times ts))))

pub duration-from : (l : List ℕ) (ps : List Part) → get_duration l ≡ found ps [] → WholeFrom l ps
unfolding get_duration
duration-from l ps e =
    let h = cond-found (eqb (first_octet l) letter_p) _ ps [] e in
    let x = onward-found (get_parts date_letters (drop 1 l)) _ ps [] h.1 in
    let y = onward-found (get_times x.1) _ ps [] x.3 in
    let p = parts_from_lem date_letters (drop 1 l) x.0 x.1 date_pos x.2 in
    let q = times_from x.1 y.0 y.1 y.2 in
    let v : x.0 ++ y.0 ≡ ps = let z = y.3 in cc in
    let w : y.1 ≡ [] = let z = y.3 in cc in
    subst (WholeFrom l) v (joined x.0 y.0 x.1 y.1 (head_P l h.0) p q w)
  where
    joined : (ds ts : List Part) (r s : List ℕ) → l ≡ letter_p ∷ drop 1 l → PartsFrom date_letters (drop 1 l) ds r → TimesFrom r ts s → s ≡ []
        → WholeFrom l (ds ++ ts)
    joined ds ts r s h p q w =
        let k = split_4 ds ts p.count in
        record {
          is = whole-text l ds ts r s k.0 k.1 h p.is q.is w;
          fits = fit_append ds ts p.fits q.fits;
          count = length-append ds ts ∙ (let a = p.count in let b = q.count in omega arith);
          tidied = by_test (bare ds) (λ t. tidy_bare ds ts t q.tidied)
              (λ t. tidy_none ds ts p.tidied (q.nothing (empty r (simp t at p.ended))) q.tidied);
        }
