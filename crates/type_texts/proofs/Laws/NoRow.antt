-- "2 for any other difference" (#103): when a type's text is refusal 2. All else that is no type is 1.
use Rattle.std.specs.Prelude.{Option}
use Rattle.std.specs.Option.{is_some}
use mathlib.Core.Path.{◌≡◌, refl, ap, sym, ◌∙◌, subst}
use mathlib.Core.Logic.{◌⊎◌, inl, inr}
use mathlib.Core.List.{List, [], ◌∷◌, ◌++◌, map}
use mathlib.Core.Bool.{Bool, true, false, ◌&&◌, not, cond, and-eq-true_iff, false≢true}
use Prim.Native.Nat.{ℕ, ◌≤◌}
use native.Mathlib.Omega.{arith}
use lib.Dec.{leb}
use lib.ListN.{length, length-map}
use borrow.Author.Tests.{le-leb, leb-true, not-true}
use Rattle.octets.specs.Octets.{bytes, eq_list}
use Rattle.octets.specs.Pieces.{split_on}
use Rattle.lists.specs.Lists.{basic_in, list_of, year_in}
use Rattle.lists.specs.Lists.{most_lists}
use Rattle.types.specs.AnyTypes.{DURATION, carrying, dated_type, limited_to, timed_type}
use Rattle.types.specs.Types.{DATE, TIME-OF-DAY, DATE-TIME, placed}
use Rattle.lists.specs.declared.lists.Settings.{Settings}
use Rattle.types.specs.declared.types.AnyType.{AnyType}
use Rattle.types.specs.declared.types.Limits.{Limits}
use Rattle.types.specs.declared.types.TypeRead.{TypeRead}
use Rattle.type_texts.specs.TypeTexts.{all_of, distinct, equal_lists, joined, list_type, lists_of, one_row, row_in, type_of, usable, years_of}
use Rattle.type_texts.specs.Written.{join_with}
use Rattle.type_texts.proofs.Laws.Converse.{split_lacks, usable_read}
use Rattle.type_texts.proofs.Laws.Joining.{lacks}
use Rattle.type_texts.proofs.Laws.ListOrder.{alike, barred, row_same, row_sym}
use Rattle.type_texts.proofs.Laws.SameSettings.{OnlyYears, equal_are_same, only_years_row, row_only_years, same_are_equal}
use Rattle.type_texts.proofs.Laws.Words.{join_split}

-- ---- in words

-- A text that is one of several.
pub data Among (p : List ℕ) : List (List ℕ) → Type 0 where
  here : {ps : List (List ℕ)} → Among p (p ∷ ps)
  there : {q : List ℕ} {ps : List (List ℕ)} → Among p ps → Among p (q ∷ ps)

-- "no Year twice": no two texts are one list.
pub data Differ : List (List ℕ) → Type 0 where
  none : Differ []
  and_one : {p : List ℕ} {ps : List (List ℕ)} → ((q : List ℕ) → Among q ps → list_of p ≡ list_of q → ⊥) → Differ ps → Differ (p ∷ ps)

-- Up to six lists with bars between them, each of which can be read and has the limits' places, no two of them the same, and some two of which
-- differ, and not only in Year, in two Years of one row.
pub record TwoRows (limits : Limits) (l : List ℕ) : Type 0 where
  pub lists : List (List ℕ)
  pub text-is : l ≡ join_with 124 lists
  pub no_bar : (p : List ℕ) → Among p lists → lacks 124 p ≡ true
  pub count : length lists ≤ most_lists
  pub readable : (p : List ℕ) → Among p lists → usable limits (list_of p) ≡ true
  pub differ : Differ lists
  pub first : List ℕ
  pub second : List ℕ
  pub first_in : Among first lists
  pub second_in : Among second lists
  pub two : list_of first ≡ list_of second → ⊥
  pub apart : OnlyYears (list_of first) (list_of second) → ⊥

-- ---- from the words to the tests

-- What is true of each is true of all, ..
all-of : {A : Type 0} (f : List ℕ → A) (q : A → Bool) (ps : List (List ℕ)) → ((p : List ℕ) → Among p ps → q (f p) ≡ true) → all_of q (map f ps) ≡ true
unfolding all_of
all-of f q [] h = refl
all-of f q (p ∷ ps) h = rw (h p here, all-of f q ps (λ r a. h r (there a)))

-- .. and the other way round.
of_all : {A : Type 0} (f : List ℕ → A) (q : A → Bool) (ps : List (List ℕ)) → all_of q (map f ps) ≡ true → (p : List ℕ) → Among p ps → q (f p) ≡ true
unfolding all_of
of_all f q [] h r x = elim x [ ]
of_all f q (p ∷ ps) h r here = ((and-eq-true_iff (q (f p)) _).0 h).0
of_all f q (p ∷ ps) h r (there a) = of_all f q ps ((and-eq-true_iff (q (f p)) _).0 h).1 r a

-- A test that cannot hold.
fails : (t : Bool) → (t ≡ true → ⊥) → t ≡ false
fails true h = absurd (h refl)
fails false h = refl

negated : (t : Bool) → t ≡ false → not t ≡ true
negated t e = rw e

held : {t : Bool} → t ≡ true → t ≡ false → ⊥
held e f = false≢true (sym f ∙ e)

module _ (limits : Limits) where
  differ_tests : (ps : List (List ℕ)) → ((p : List ℕ) → Among p ps → usable limits (list_of p) ≡ true) → Differ ps → distinct (map list_of ps) ≡ true
  unfolding distinct
  differ_tests [] u none = refl
  differ_tests (p ∷ ps) u (and_one f d) =
      let r = usable_read limits (list_of p) (u p here) in
      rw (
        all-of list_of (λ t. not (equal_lists (list_of p) t)) ps
            (λ q a. negated _ (fails _ (λ e. f q a (equal_are_same p q r (usable_read limits (list_of q) (u q (there a))) e)))),
        differ_tests ps (λ q a. u q (there a)) d,
      )

  tests_differ : (ps : List (List ℕ)) → distinct (map list_of ps) ≡ true → Differ ps
  unfolding distinct
  tests_differ [] e = none
  tests_differ (p ∷ ps) e =
      let h = (and-eq-true_iff (all_of (λ t. not (equal_lists (list_of p) t)) (map list_of ps)) _).0 e in
      and_one (λ q a s. held (same_are_equal _ _ s) (not-true _ (of_all list_of (λ t. not (equal_lists (list_of p) t)) ps h.0 q a))) (tests_differ ps h.1)

  -- Of two lists of one row with a third, each is of one row with the other.
  shared : (s t u : Option Settings) → one_row s t ≡ true → one_row s u ≡ true → one_row t u ≡ true
  shared s t u e f = sym (row_same s t (alike s t e) u) ∙ f

  row_itself : (s : Option Settings) → (t : Option Settings) → one_row s t ≡ true → one_row s s ≡ true
  row_itself s t e = shared t s s (sym (row_sym s t) ∙ e) (sym (row_sym s t) ∙ e)

  -- Where all lists share a row with the first, any two of them share it.
  all_share : (p : List ℕ) (ps : List (List ℕ)) → all_of (one_row (list_of p)) (map list_of ps) ≡ true → (q r : List ℕ) → Among q (p ∷ ps) → Among r (p ∷ ps)
      → (list_of q ≡ list_of r) ⊎ (one_row (list_of q) (list_of r) ≡ true)
  all_share p ps e q r here here = inl refl
  all_share p ps e q r here (there b) = inr (of_all list_of (one_row (list_of p)) ps e r b)
  all_share p ps e q r (there a) here = inr (sym (row_sym (list_of p) (list_of q)) ∙ of_all list_of (one_row (list_of p)) ps e q a)
  all_share p ps e q r (there a) (there b) =
      inr (shared (list_of p) (list_of q) (list_of r) (of_all list_of (one_row (list_of p)) ps e q a) (of_all list_of (one_row (list_of p)) ps e r b))

  joined_apart : (s : Option Settings) (r : List (Option Settings)) → length (s ∷ r) ≤ most_lists → all_of (usable limits) (s ∷ r) ≡ true → distinct (s ∷ r) ≡ true
      → all_of (one_row s) r ≡ false → joined limits (s ∷ r) ≡ TypeRead.NoRow
  unfolding joined
  joined_apart s r c u d o = rw (le-leb (length (s ∷ r)) most_lists c, u, d, o)

every : (q : List ℕ → Bool) (ps : List (List ℕ)) → ((p : List ℕ) → Among p ps → q p ≡ true) → all_of q ps ≡ true
unfolding all_of
every q [] h = refl
every q (p ∷ ps) h = rw (h p here, every q ps (λ r a. h r (there a)))

alone : (q p : List ℕ) → Among q (p ∷ []) → q ≡ p
alone q p here = refl
alone q p (there x) = elim x [ ]

module _ (limits : Limits) (l : List ℕ) (r : TwoRows limits l) where
  list_read : (p : List ℕ) → Among p r.lists → is_some (list_of p) ≡ true
  list_read p a = usable_read limits (list_of p) (r.readable p a)

  clash : (list_of r.first ≡ list_of r.second) ⊎ (one_row (list_of r.first) (list_of r.second) ≡ true) → ⊥
  clash (inl e) = r.two e
  clash (inr e) = go (row_only_years r.first r.second (list_read r.first r.first_in) (list_read r.second r.second_in) e)
    where
      go : (list_of r.first ≡ list_of r.second) ⊎ OnlyYears (list_of r.first) (list_of r.second) → ⊥
      go (inl e) = r.two e
      go (inr o) = r.apart o

  -- Up to six lists that don't make one row are refusal 2.
  pub no_row_given : type_of limits l ≡ TypeRead.NoRow
  no_row_given = ap (type_of limits) r.text-is ∙ go r.lists r.no_bar r.count r.readable r.differ r.first_in r.second_in
    where
      go : (ps : List (List ℕ)) → ((p : List ℕ) → Among p ps → lacks 124 p ≡ true) → length ps ≤ most_lists
          → ((p : List ℕ) → Among p ps → usable limits (list_of p) ≡ true) → Differ ps → Among r.first ps → Among r.second ps
          → type_of limits (join_with 124 ps) ≡ TypeRead.NoRow
      go [] b c u d f s = elim f [ ]
      go (p ∷ []) b c u d f s = absurd (r.two (ap list_of (alone r.first p f ∙ sym (alone r.second p s))))
      go (p ∷ q ∷ ps) b c u d f s =
          let n : length (map list_of (p ∷ q ∷ ps)) ≡ length (p ∷ q ∷ ps) = length-map (p ∷ q ∷ ps) list_of in
          barred limits p q ps (every (lacks 124) (p ∷ q ∷ ps) b)
          ∙ joined_apart limits (list_of p) (map list_of (q ∷ ps)) (omega arith) (all-of list_of (usable limits) (p ∷ q ∷ ps) u)
          (differ_tests limits (p ∷ q ∷ ps) u d) (fails _ (λ e. clash (all_share limits p (q ∷ ps) e r.first r.second f s)))

-- ---- from the tests to the words

limited_not : (limits : Limits) (t : AnyType) → limited_to limits t ≡ TypeRead.NoRow → ⊥
unfolding limited_to
limited_not limits t = go (placed limits (dated_type t) (timed_type t))
  where
    go : (b : Bool) → cond b (TypeRead.«Type» (carrying limits t)) TypeRead.Unreadable ≡ TypeRead.NoRow → ⊥
    go true e = let z : ◌≡◌ {A = ℕ} 0 1 = cc in omega arith
    go false e = let z : ◌≡◌ {A = ℕ} 0 1 = cc in omega arith

passed : (b : Bool) (x : TypeRead) → cond b x TypeRead.Unreadable ≡ TypeRead.NoRow → (b ≡ true) × (x ≡ TypeRead.NoRow)
passed true x e = (refl, e)
passed false x e = absurd (let z : ◌≡◌ {A = ℕ} 0 1 = cc in omega arith)

-- One that fails a test.
one_fails : (q : Option Settings → Bool) (ps : List (List ℕ)) → all_of q (map list_of ps) ≡ false → (p : List ℕ) × (Among p ps) × (q (list_of p) ≡ false)
unfolding all_of
one_fails q [] e = absurd (false≢true (sym e))
one_fails q (p ∷ ps) e = go (q (list_of p)) refl e (one_fails q ps)
  where
    go : (b : Bool) → q (list_of p) ≡ b → (b && all_of q (map list_of ps)) ≡ false
        → (all_of q (map list_of ps) ≡ false → (r : List ℕ) × (Among r ps) × (q (list_of r) ≡ false)) → (r : List ℕ) × (Among r (p ∷ ps)) × (q (list_of r) ≡ false)
    go true h k f = let i = f k in (i.0, there i.1, i.2)
    go false h k f = (p, here, h)

no_row : (b : Bool) (x : TypeRead) → (x ≡ TypeRead.NoRow → ⊥) → cond b x TypeRead.NoRow ≡ TypeRead.NoRow → b ≡ false
no_row true x n e = absurd (n e)
no_row false x n e = refl

each_lacks : (ps : List (List ℕ)) → all_of (lacks 124) ps ≡ true → (p : List ℕ) → Among p ps → lacks 124 p ≡ true
unfolding all_of
each_lacks [] h r x = elim x [ ]
each_lacks (p ∷ ps) h r here = ((and-eq-true_iff (lacks 124 p) _).0 h).0
each_lacks (p ∷ ps) h r (there a) = each_lacks ps ((and-eq-true_iff (lacks 124 p) _).0 h).1 r a

first_differs : (p : List ℕ) (ps : List (List ℕ)) → Differ (p ∷ ps) → (q : List ℕ) → Among q ps → list_of p ≡ list_of q → ⊥
first_differs p ps (and_one f d) q a e = f q a e

module _ (limits : Limits) (l : List ℕ) where
  lists_apart : joined limits (lists_of l) ≡ TypeRead.NoRow → TwoRows limits l
  unfolding lists_of joined
  lists_apart = go (split_on 124 l) refl (split_lacks 124 l)
    where
      go : (ps : List (List ℕ)) → split_on 124 l ≡ ps → all_of (lacks 124) ps ≡ true → joined limits (map list_of ps) ≡ TypeRead.NoRow → TwoRows limits l
      go [] e k j = absurd (let z : ◌≡◌ {A = ℕ} 0 1 = cc in omega arith)
      go (p ∷ ps) e k j =
          let c = passed (leb (length (map list_of (p ∷ ps))) most_lists && all_of (usable limits) (map list_of (p ∷ ps)) && distinct (map list_of (p ∷ ps))) _ j in
          let a = (and-eq-true_iff (leb (length (map list_of (p ∷ ps))) most_lists && all_of (usable limits) (map list_of (p ∷ ps))) _).0 c.0 in
          let u = (and-eq-true_iff (leb (length (map list_of (p ∷ ps))) most_lists) _).0 a.0 in
          let n : length (map list_of (p ∷ ps)) ≡ length (p ∷ ps) = length-map (p ∷ ps) list_of in
          let m = leb-true (length (map list_of (p ∷ ps))) most_lists u.0 in
          let o = no_row (all_of (one_row (list_of p)) (map list_of ps)) _ (limited_not limits (list_type (list_of p) (years_of (row_in (list_of p)) (map year_in (map list_of (p ∷ ps)))))) c.1 in
          let q = one_fails (one_row (list_of p)) ps o in
          let d = tests_differ limits (p ∷ ps) a.1 in
          record {
            lists = p ∷ ps;
            text-is = sym (join_split 124 l) ∙ ap (join_with 124) e;
            no_bar = each_lacks (p ∷ ps) k;
            count = omega arith;
            readable = of_all list_of (usable limits) (p ∷ ps) u.1;
            differ = d;
            first = p;
            second = q.0;
            first_in = here;
            second_in = there q.1;
            two = first_differs p ps d q.0 q.1;
            apart = λ s. held (only_years_row _ _ s) q.2;
          }

  -- A name never gives refusal 2.
  by_name : (n : AnyType) (b : Bool) (x : TypeRead) → cond b (limited_to limits n) x ≡ TypeRead.NoRow → x ≡ TypeRead.NoRow
  by_name n true x j = absurd (limited_not limits n j)
  by_name n false x j = j

  -- Only lists that don't make one row are refusal 2.
  pub no_row_only : type_of limits l ≡ TypeRead.NoRow → TwoRows limits l
  unfolding type_of
  no_row_only j =
      lists_apart
      (by_name DURATION (eq_list l (bytes "DURATION")) _
      (by_name (AnyType.Point DATE-TIME) (eq_list l (bytes "DATE-TIME")) _
      (by_name (AnyType.Point TIME-OF-DAY) (eq_list l (bytes "TIME-OF-DAY")) _ (by_name (AnyType.Point DATE) (eq_list l (bytes "DATE")) _ j))))

one_of_two : (p a b : List ℕ) → Among p (a ∷ b ∷ []) → (p ≡ a) ⊎ (p ≡ b)
one_of_two p a b here = inl refl
one_of_two p a b (there i) = inr (alone p b i)

none_among : (q : List ℕ) (ps : List (List ℕ)) → Among q ps → ps ≡ [] → ⊥
none_among q ps here e = let z : ◌≡◌ {A = ℕ} 0 1 = cc in omega arith
none_among q ps (there a) e = let z : ◌≡◌ {A = ℕ} 0 1 = cc in omega arith

-- Two lists that can be read and differ in Basic, as one of durations beside one of points, are refusal 2.
pub two_basics : (limits : Limits) (a b : List ℕ) → (lacks 124 a ≡ true) × (lacks 124 b ≡ true)
    → (usable limits (list_of a) ≡ true) × (usable limits (list_of b) ≡ true) → (basic_in (list_of a) ≡ basic_in (list_of b) → ⊥)
    → type_of limits (a ++ 124 ∷ b) ≡ TypeRead.NoRow
unfolding join_with
two_basics limits a b n u d =
    no_row_given limits (a ++ 124 ∷ b) (record {
      lists = a ∷ b ∷ [];
      text-is = refl;
      no_bar = each (λ p. lacks 124 p ≡ true) n.0 n.1;
      count = omega arith;
      readable = each (λ p. usable limits (list_of p) ≡ true) u.0 u.1;
      differ = and_one (λ q i e. only q i e) (and_one (λ q i e. none_among q [] i refl) none);
      first = a;
      second = b;
      first_in = here;
      second_in = there here;
      two = λ e. d (ap (λ (s : Option Settings). basic_in s) e);
      apart = λ o. d o.basic_is;
    })
  where
    only : (q : List ℕ) → Among q (b ∷ []) → list_of a ≡ list_of q → ⊥
    only q i e = d (ap (λ (s : Option Settings). basic_in s) (e ∙ ap list_of (alone q b i)))

    each : (P : List ℕ → Type 0) → P a → P b → (p : List ℕ) → Among p (a ∷ b ∷ []) → P p
    each P x y p i = go (one_of_two p a b i)
      where
        go : (p ≡ a) ⊎ (p ≡ b) → P p
        go (inl e) = subst P (sym e) x
        go (inr e) = subst P (sym e) y
