-- Lists may stand in any order: the type, or the refusal, is the same.
use Rattle.std.specs.Prelude.{Option}
use mathlib.Core.Path.{◌≡◌, refl, ap, ap₂, sym, ◌∙◌}
use mathlib.Core.Bool.{Bool, true, false, ◌&&◌, not, cond, and-false, and-eq-true_iff, false≢true}
use mathlib.Core.List.{List, [], ◌∷◌, ◌++◌, map, Permᴰ}
use Prim.Native.Nat.{ℕ}
use native.Mathlib.Omega.{arith}
use lib.Dec.{eqb, leb}
use lib.ListN.{length}
use borrow.Author.Tests.{eqb-true}
use Rattle.octets.specs.Octets.{bytes, eq_list}
use Rattle.octets.proofs.Laws.Octets.{equal}
use Rattle.types.specs.AnyTypes.{limited_to}
use Rattle.types.specs.Years.{row_number}
use Rattle.types.specs.declared.years.YearRow.{YearRow}
use Rattle.lists.specs.Lists.{basic_in, date_in, year_in, time_in, zone_in, interval_in, list_of, dated_list, timed_list}
use Rattle.type_texts.specs.TypeTexts.{all_of, distinct, equal_lists, joined, list_type, lists_of, member, one_row, point_type, row_in}
use Rattle.lists.specs.Lists.{most_lists}
use Rattle.type_texts.specs.TypeTexts.{same_but_year, type_of, usable, years_of}
use Rattle.type_texts.specs.Written.{join_with}
use Rattle.types.specs.declared.types.Limits.{Limits}
use Rattle.types.specs.declared.types.TypeRead.{TypeRead}
use Rattle.lists.specs.declared.lists.Settings.{Settings}
use Rattle.type_texts.proofs.Laws.Joining.{all_perm, lacks, length-perm, perm-map, split_join}
use Rattle.type_texts.proofs.Laws.Kept.{eqb_turn, member-perm}
use Rattle.type_texts.proofs.Laws.Tests.{five_hold}

-- ---- two lists

module _ (a b : Option Settings) where
  same_sym : same_but_year a b ≡ same_but_year b a
  unfolding same_but_year
  same_sym =
      rw (
        eqb_turn (basic_in a) (basic_in b),
        eqb_turn (date_in a) (date_in b),
        eqb_turn (time_in a) (time_in b),
        eqb_turn (zone_in a) (zone_in b),
        eqb_turn (interval_in a) (interval_in b),
      )

  equal_sym : equal_lists a b ≡ equal_lists b a
  unfolding equal_lists
  equal_sym = rw (same_sym, eqb_turn (year_in a) (year_in b))

  pub row_sym : one_row a b ≡ one_row b a
  unfolding one_row
  row_sym = rw (same_sym, eqb_turn (row_number (row_in a)) (row_number (row_in b)))

-- Rows of one number are one.
pub one_number : (a b : YearRow) → row_number a ≡ row_number b → a ≡ b
one_number YearRow.Year YearRow.Year e = refl
one_number YearRow.Year YearRow.AnyYear e = absurd (omega arith)
one_number YearRow.AnyYear YearRow.Year e = absurd (omega arith)
one_number YearRow.AnyYear YearRow.AnyYear e = refl

-- What two lists of one row share.
pub record Alike (s t : Option Settings) : Type 0 where
  pub basic_is : basic_in s ≡ basic_in t
  pub date_is : date_in s ≡ date_in t
  pub time_is : time_in s ≡ time_in t
  pub zone_is : zone_in s ≡ zone_in t
  pub interval_is : interval_in s ≡ interval_in t
  pub row_is : row_in s ≡ row_in t

pub alike : (s t : Option Settings) → one_row s t ≡ true → Alike s t
unfolding one_row same_but_year
alike s t e =
    let p : (same_but_year s t ≡ true) × (eqb (row_number (row_in s)) (row_number (row_in t)) ≡ true) = (and-eq-true_iff _ _).0 e in
    let q = five_hold (eqb (basic_in s) (basic_in t)) (eqb (date_in s) (date_in t)) (eqb (time_in s) (time_in t)) (eqb (zone_in s) (zone_in t))
    (eqb (interval_in s) (interval_in t)) p.0 in
    record {
      basic_is = eqb-true _ _ q.0;
      date_is = eqb-true _ _ q.1;
      time_is = eqb-true _ _ q.2;
      zone_is = eqb-true _ _ q.3;
      interval_is = eqb-true _ _ q.4;
      row_is = one_number _ _ (eqb-true _ _ p.1);
    }

-- Lists of one row share it with the same lists.
pub row_same : (s t : Option Settings) → Alike s t → (u : Option Settings) → one_row s u ≡ one_row t u
unfolding one_row same_but_year
row_same s t a u = rw (a.basic_is, a.date_is, a.time_is, a.zone_is, a.interval_is, a.row_is)

-- ---- the type of lists

module _ (ys zs : List ℕ) (h : (n : ℕ) → member n ys ≡ member n zs) where
  years_same : (r : YearRow) → years_of r ys ≡ years_of r zs
  unfolding years_of
  years_same YearRow.Year = rw (h 1, h 2)
  years_same YearRow.AnyYear = rw (h 3, h 4, h 5, h 6, h 7, h 8)

  -- Lists of one row, with the same Years beside them, are of one type.
  type_same : (a b : Option Settings) → Alike a b → list_type a (years_of (row_in a) ys) ≡ list_type b (years_of (row_in b) zs)
  unfolding list_type point_type dated_list timed_list
  type_same a b s = rw (s.basic_is, s.date_is, s.time_is, s.zone_is, s.row_is, years_same (row_in b))

itself : (s : Option Settings) → Alike s s
itself s = record { basic_is = refl; date_is = refl; time_is = refl; zone_is = refl; interval_is = refl; row_is = refl }

and_cross : (a b c d : Bool) → (a && b) && (c && d) ≡ (a && c) && (b && d)
and_cross true true c d = refl
and_cross true false true d = refl
and_cross true false false d = refl
and_cross false b c d = refl

all_same : {A : Type 0} (p q : A → Bool) → ((x : A) → p x ≡ q x) → (l : List A) → all_of p l ≡ all_of q l
unfolding all_of
all_same p q h [] = refl
all_same p q h (x ∷ l) = ap₂ (λ (a b : Bool). a && b) (h x) (all_same p q h l)

distinct-perm : {a b : List (Option Settings)} → Permᴰ a b → distinct a ≡ distinct b
unfolding distinct all_of
distinct-perm Permᴰ.nil = refl
distinct-perm (Permᴰ.cons {b = b} e d) = rw e (ap₂ (λ (t u : Bool). t && u) (all_perm (λ t. not (equal_lists b t)) d) (distinct-perm d))
distinct-perm (Permᴰ.swap {a = a} {b = b} {l = r} e g) =
    turned ∙ ap₂ (λ (x y : Option Settings). distinct (x ∷ y ∷ r)) g e
  where
    turned : distinct (a ∷ b ∷ r) ≡ distinct (b ∷ a ∷ r)
    turned =
        rw (equal_sym b a)
        (and_cross (not (equal_lists a b)) (all_of (λ t. not (equal_lists a t)) r) (all_of (λ t. not (equal_lists b t)) r) (distinct r))
distinct-perm (Permᴰ.trans d e) = distinct-perm d ∙ distinct-perm e

module _ (limits : Limits) where
  abbrev fine : List (Option Settings) → Bool
  fine l = leb (length l) most_lists && all_of (usable limits) l && distinct l

  fine_perm : {a b : List (Option Settings)} → Permᴰ a b → fine a ≡ fine b
  fine_perm d = rw (length-perm d, all_perm (usable limits) d, distinct-perm d)

  abbrev of_row : Option Settings → List (Option Settings) → List ℕ → TypeRead
  of_row s r ys = cond (all_of (one_row s) r) (limited_to limits (list_type s (years_of (row_in s) ys))) TypeRead.NoRow

  row-perm : (s : Option Settings) {a b : List (Option Settings)} → Permᴰ a b → of_row s a (map year_in (s ∷ a)) ≡ of_row s b (map year_in (s ∷ b))
  row-perm s {a} {b} d =
      rw (
        all_perm (one_row s) d,
        type_same (map year_in (s ∷ a)) (map year_in (s ∷ b)) (λ n. member-perm n (perm-map year_in (Permᴰ.cons {a = s} {b = s} refl d))) s s (itself s),
      )

  row_swap : (a b : Option Settings) (r : List (Option Settings)) → of_row a (b ∷ r) (map year_in (a ∷ b ∷ r)) ≡ of_row b (a ∷ r) (map year_in (b ∷ a ∷ r))
  unfolding all_of
  row_swap a b r = go (one_row a b) refl
    where
      turned : Permᴰ (a ∷ b ∷ r) (b ∷ a ∷ r)
      turned = Permᴰ.swap refl refl

      go : (t : Bool) → one_row a b ≡ t → of_row a (b ∷ r) (map year_in (a ∷ b ∷ r)) ≡ of_row b (a ∷ r) (map year_in (b ∷ a ∷ r))
      go true e =
          rw (
            e,
            sym (row_sym a b) ∙ e,
            all_same (one_row a) (one_row b) (row_same a b (alike a b e)) r,
            type_same (map year_in (a ∷ b ∷ r)) (map year_in (b ∷ a ∷ r)) (λ n. member-perm n (perm-map year_in turned)) a b (alike a b e),
          )
      go false e = rw (e, sym (row_sym a b) ∙ e)

  -- Lists give the same type, or the same refusal, in any order.
  pub joined-perm : {a b : List (Option Settings)} → Permᴰ a b → joined limits a ≡ joined limits b
  unfolding joined
  joined-perm Permᴰ.nil = refl
  joined-perm (Permᴰ.cons {a = a} {b = b} {l₁ = l} {l₂ = r} e d) =
      rw e (ap₂ (λ (t : Bool) (v : TypeRead). cond t v TypeRead.Unreadable) (fine_perm (Permᴰ.cons {a = b} {b = b} refl d)) (row-perm b d))
  joined-perm (Permᴰ.swap {a = a} {b = b} {l = r} e g) =
      rw (← e, ← g)
      (ap₂ (λ (t : Bool) (v : TypeRead). cond t v TypeRead.Unreadable) (fine_perm (Permᴰ.swap {a = a} {b = b} {l = r} refl refl)) (row_swap a b r))
  joined-perm (Permᴰ.trans d e) = joined-perm d ∙ joined-perm e

-- ---- texts

has_bar : (a b : List ℕ) → lacks 124 (a ++ 124 ∷ b) ≡ false
unfolding lacks
has_bar [] b = refl
has_bar (x ∷ a) b = rw (has_bar a b) (and-false (not (eqb x 124)))

-- The names that stand for settings.
abbrev pub name_texts : List (List ℕ)
name_texts = bytes "DATE" ∷ bytes "TIME-OF-DAY" ∷ bytes "DATE-TIME" ∷ bytes "DURATION" ∷ []

not_it : (c : ℕ) (a b : List ℕ) → lacks c a ≡ false → lacks c b ≡ true → eq_list a b ≡ false
not_it c a b h k = go (eq_list a b) refl where
  go : (t : Bool) → eq_list a b ≡ t → t ≡ false
  go true e = absurd (false≢true (sym h ∙ ap (lacks c) (equal a b e) ∙ k))
  go false e = refl

four : (a b d e : Bool) → a && (b && (d && (e && true))) ≡ true → (a ≡ true) × (b ≡ true) × (d ≡ true) × (e ≡ true)
four true true true true h = (refl, refl, refl, refl)
four true true true false h = absurd (false≢true h)
four true true false e h = absurd (false≢true h)
four true false d e h = absurd (false≢true h)
four false b d e h = absurd (false≢true h)

-- A text with an octet that no name has is lists.
pub no_name : (limits : Limits) (c : ℕ) (l : List ℕ) → all_of (lacks c) name_texts ≡ true → lacks c l ≡ false → type_of limits l ≡ joined limits (lists_of l)
unfolding type_of all_of
no_name limits c l n h =
    let p = four (lacks c (bytes "DATE")) (lacks c (bytes "TIME-OF-DAY")) (lacks c (bytes "DATE-TIME")) (lacks c (bytes "DURATION")) n in
    rw (not_it c l _ h p.0, not_it c l _ h p.1, not_it c l _ h p.2, not_it c l _ h p.3)

-- Texts with a bar between them are lists.
pub barred : (limits : Limits) (p q : List ℕ) (ps : List (List ℕ)) → all_of (lacks 124) (p ∷ q ∷ ps) ≡ true
    → type_of limits (join_with 124 (p ∷ q ∷ ps)) ≡ joined limits (map list_of (p ∷ q ∷ ps))
unfolding lists_of join_with all_of lacks
barred limits p q ps h = no_name limits 124 _ refl (has_bar p (join_with 124 (q ∷ ps))) ∙ rw (split_join 124 p (q ∷ ps) refl h)

-- Texts with a bar between them give the same type, or the same refusal, in any order.
pub any_order : (limits : Limits) (p q : List ℕ) (ps rs : List (List ℕ)) → all_of (lacks 124) (p ∷ q ∷ ps) ≡ true → Permᴰ (p ∷ q ∷ ps) rs
    → type_of limits (join_with 124 (p ∷ q ∷ ps)) ≡ type_of limits (join_with 124 rs)
any_order limits p q ps [] h d = absurd (omega (arith, length-perm d))
any_order limits p q ps (r ∷ []) h d = absurd (omega (arith, length-perm d))
any_order limits p q ps (r ∷ s ∷ rs) h d =
    barred limits p q ps h ∙ joined-perm limits (perm-map list_of d) ∙ sym (barred limits r s rs (sym (all_perm (lacks 124) d) ∙ h))
