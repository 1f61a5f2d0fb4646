-- The converse of completeness for types: what is read as a type is the name of a useful time type, or the settings of that type, its lists in some
-- order and the pairs of each in some order.
use Rattle.std.specs.Prelude.{Option}
use Rattle.std.specs.Option.{is_some}
use mathlib.Core.Path.{◌≡◌, refl, ap, ap₂, sym, ◌∙◌, subst}
use mathlib.Core.List.{List, [], ◌∷◌, map, Permᴰ}
use mathlib.Core.Bool.{Bool, true, false, ◌&&◌, ◌||◌, not, cond, and-eq-true_iff, false≢true}
use Prim.Native.Nat.{ℕ}
use native.Mathlib.Omega.{arith}
use lib.Dec.{eqb, leb}
use lib.ListN.{length}
use borrow.Author.Tests.{le-leb, eqb-true, eq-eqb, not-true}
use Rattle.octets.specs.Octets.{bytes, eq_list}
use Rattle.octets.specs.Pieces.{split_on, with_first}
use Rattle.octets.proofs.Laws.Octets.{equal}
use Rattle.answers.proofs.Laws.Outcomes.{by_number}
use Rattle.lists.specs.Lists.{dated_list, year_in, list_of}
use Rattle.lists.specs.declared.lists.Settings.{Settings}
use Rattle.texts.specs.declared.forms.DateForm.{DateForm}
use Rattle.texts.specs.declared.forms.TimeForm.{TimeForm}
use Rattle.types.specs.Numbers.{date_number, date_at, zone_number}
use Rattle.types.proofs.Laws.Limits.{limits_carried}
use Rattle.types.proofs.Laws.Numbers.{date_back}
use Rattle.types.proofs.Laws.Years.{some_named, year_back}
use Rattle.types.specs.AnyTypes.{DURATION, limited_to, limits_of, well_formed}
use Rattle.types.specs.Types.{listed, unlimited_date, unlimited_time, DATE, TIME-OF-DAY, DATE-TIME, well_parts}
use Rattle.types.specs.Years.{names, row_number, row_of_year, some_year, year_setting_at, year_number, year_settings}
use Rattle.types.specs.declared.types.AnyType.{AnyType}
use Rattle.types.specs.declared.types.Limits.{Limits}
use Rattle.types.specs.declared.types.Parts.{Parts}
use Rattle.types.specs.declared.types.TypeRead.{TypeRead}
use Rattle.types.specs.declared.years.YearRow.{YearRow}
use Rattle.types.specs.declared.years.YearSetting.{YearSetting}
use Rattle.types.specs.declared.years.Years.{Years}
use Rattle.type_texts.specs.TypeTexts.{all_of, distinct, equal_lists, joined, lists_of, member, one_row, same_but_year, time_at, type_of, usable, years_of}
use Rattle.lists.specs.Lists.{most_lists}
use Rattle.type_texts.specs.Written.{Arranged, InAnyOrder, date_pairs, date_time_pairs, duration_pairs, end, keep, listed_type, lists_for, lists_for_type, more}
use Rattle.type_texts.specs.Written.{named_years, time_pairs, type_text}
use Rattle.type_texts.proofs.Laws.Arranged.{ListOf, a_date, a_time, a_date_time, a_duration, list_arranged}
use Rattle.type_texts.proofs.Laws.Complete.{settings_read}
use Rattle.type_texts.proofs.Laws.Joining.{lacks, perm-map}
use Rattle.type_texts.proofs.Laws.Kept.{apart, kept_map, kept_order}
use Rattle.type_texts.proofs.Laws.ListOrder.{Alike, alike}
use Rattle.type_texts.proofs.Laws.WellFormed.{first_named}
use Rattle.type_texts.proofs.Laws.Words.{pieces, type-text}
use Rattle.type_texts.proofs.Laws.Written.{all_numbers, date_list, date_time_list, duration_list, list_at, lists_apart, numbers_of, time_back, time_code}
use Rattle.type_texts.proofs.Laws.Written.{time_list}

-- A text of settings, and the type under limits that they give: its lists in some order, the pairs of each in some order.
pub record Reads (limits : Limits) (t : AnyType) (l : List ℕ) : Type 0 where
  pub of_type : AnyType
  pub given : limited_to limits (listed_type of_type) ≡ TypeRead.«Type» t
  pub pairs : List (List (List ℕ))
  pub order : InAnyOrder pairs (lists_for_type of_type)
  pub text-is : l ≡ type_text pairs

-- The type of settings that are listed.
abbrev listed_parts : Parts → AnyType
listed_parts p = AnyType.Point (listed p)

reads_as : (limits : Limits) (l : List ℕ) (t : AnyType) → type_of limits l ≡ TypeRead.«Type» t → (u : AnyType) → well_formed u ≡ true
    → (wss : List (List (List ℕ))) → InAnyOrder wss (lists_for_type u) → l ≡ type_text wss → Reads limits t l
reads_as limits l t h u w wss o e = record {
  of_type = u;
  given = sym (settings_read limits u w o) ∙ ap (type_of limits) (sym e) ∙ h;
  pairs = wss;
  order = o;
  text-is = e;
}

-- ---- the Years of lists

abbrev numbers : List YearSetting → List ℕ
numbers ys = map year_number ys

some_number : (y : YearSetting) → member (year_number y) all_numbers ≡ true
unfolding member
some_number YearSetting.Basic = refl
some_number YearSetting.Proleptic = refl
some_number YearSetting.Negative = refl
some_number YearSetting.L5 = refl
some_number YearSetting.L6 = refl
some_number YearSetting.L7 = refl
some_number YearSetting.L8 = refl
some_number YearSetting.L9 = refl

-- What holds of each of some Years holds of the number of each.
of_number : (P : ℕ → Type 0) (ys : List YearSetting) → ((y : YearSetting) → member (year_number y) (numbers ys) ≡ true → P (year_number y))
    → (n : ℕ) → member n (numbers ys) ≡ true → P n
unfolding member
of_number P [] f n e = absurd (false≢true e)
of_number P (y ∷ ys) f n e = go (eqb (year_number y) n) refl e (of_number P ys (λ x m. f x (rw m (any (eqb (year_number y) (year_number x))))) n)
  where
    any : (b : Bool) → (b || true) ≡ true
    any true = refl
    any false = refl

    go : (b : Bool) → eqb (year_number y) n ≡ b → (b || member n (numbers ys)) ≡ true → (member n (numbers ys) ≡ true → P n) → P n
    go true h k g = subst P (eqb-true _ _ h) (f y (rw (eq-eqb (year_number y) (year_number y) refl)))
    go false h k g = g k

-- Whether lists of a row name a Year: it is of the row, and its number is among theirs.
names_of : (r : YearRow) (ns : List ℕ) (x : YearSetting) → names (years_of r ns) x ≡ eqb (row_number (row_of_year x)) (row_number r) && member (year_number x) ns
unfolding years_of
names_of YearRow.Year ns YearSetting.Basic = refl
names_of YearRow.Year ns YearSetting.Proleptic = refl
names_of YearRow.Year ns YearSetting.Negative = refl
names_of YearRow.Year ns YearSetting.L5 = refl
names_of YearRow.Year ns YearSetting.L6 = refl
names_of YearRow.Year ns YearSetting.L7 = refl
names_of YearRow.Year ns YearSetting.L8 = refl
names_of YearRow.Year ns YearSetting.L9 = refl
names_of YearRow.AnyYear ns YearSetting.Basic = refl
names_of YearRow.AnyYear ns YearSetting.Proleptic = refl
names_of YearRow.AnyYear ns YearSetting.Negative = refl
names_of YearRow.AnyYear ns YearSetting.L5 = refl
names_of YearRow.AnyYear ns YearSetting.L6 = refl
names_of YearRow.AnyYear ns YearSetting.L7 = refl
names_of YearRow.AnyYear ns YearSetting.L8 = refl
names_of YearRow.AnyYear ns YearSetting.L9 = refl

absorbed : (a b : Bool) → (b ≡ true → a ≡ true) → a && b ≡ b
absorbed true b h = refl
absorbed false true h = absurd (false≢true (h refl))
absorbed false false h = refl

again : (ys : List YearSetting) → map year_setting_at (numbers ys) ≡ ys
again [] = refl
again (y ∷ ys) = rw (year_back y, again ys)

-- Years of one row, none twice, are those that their type names, in some order.
named_order : (r : YearRow) (ys : List YearSetting) → apart (numbers ys) ≡ true
    → ((x : YearSetting) → member (year_number x) (numbers ys) ≡ true → row_of_year x ≡ r) → Permᴰ ys (named_years (years_of r (numbers ys)))
unfolding apart member
named_order r ys a h =
    let same : numbers_of (years_of r (numbers ys)) ≡ keep (λ n. member n (numbers ys)) all_numbers =
    kept_map year_number (names (years_of r (numbers ys))) (λ n. member n (numbers ys))
    (λ x. names_of r (numbers ys) x ∙ absorbed _ _ (λ m. eq-eqb (row_number (row_of_year x)) _ (ap row_number (h x m)))) year_settings in
    let order = kept_order (numbers ys) all_numbers a refl (of_number (λ n. member n all_numbers ≡ true) ys (λ y m. some_number y)) in
    subst2 (again ys) (again (named_years (years_of r (numbers ys)))) (perm-map year_setting_at (subst (λ (l : List ℕ). Permᴰ (numbers ys) l)
    (sym same) order))
  where
    subst2 : {a b c d : List YearSetting} → a ≡ b → c ≡ d → Permᴰ a c → Permᴰ b d
    subst2 {a} {b} {c} {d} e g p = subst (λ (l : List YearSetting). Permᴰ b l) g (subst (λ (l : List YearSetting). Permᴰ l c) e p)

-- ---- lists that share a row

-- A list with a date that shares the row of another has its Date setting, ..
of_date : (f : DateForm) (y : YearSetting) (ws : List (List ℕ)) (s : Option Settings) → ListOf ws s → Alike (date_list f y) s
    → (z : YearSetting) × (Permᴰ ws (date_pairs f z)) × (s ≡ date_list f z)
of_date f y ws s (a_date g z p e) a =
    let m : Alike (date_list f y) (date_list g z) = rw e at a in
    let n : g ≡ f = by_number date_number date_at date_back g f (sym m.date_is) in
    (z, subst (λ (d : DateForm). Permᴰ ws (date_pairs d z)) n p, e ∙ ap (λ (d : DateForm). date_list d z) n)
of_date f y ws s (a_time u k p e) a = let m : Alike (date_list f y) (time_list u) = rw e at a in let z = m.basic_is in absurd (omega arith)
of_date f y ws s (a_date_time g u z k p e) a = let m : Alike (date_list f y) (date_time_list g u z) = rw e at a in let z = m.basic_is in absurd (omega arith)
of_date f y ws s (a_duration p e) a = let m : Alike (date_list f y) duration_list = rw e at a in let z = m.basic_is in absurd (omega arith)

-- .. one with a date and a time its Date, Time and Local-or-UTC settings, ..
of_date_time : (f : DateForm) (u : TimeForm) (y : YearSetting) (ws : List (List ℕ)) (s : Option Settings) → ListOf ws s → Alike (date_time_list f u y) s
    → (z : YearSetting) × (Permᴰ ws (date_time_pairs f u z)) × (s ≡ date_time_list f u z)
of_date_time f u y ws s (a_date_time g v z k p e) a =
    let m : Alike (date_time_list f u y) (date_time_list g v z) = rw e at a in
    let n : g ≡ f = by_number date_number date_at date_back g f (sym m.date_is) in
    let d : time_at (time_code v.clock v.digits) (zone_number v.zone) ≡ time_at (time_code u.clock u.digits) (zone_number u.zone) =
    ap (λ (c : ℕ). time_at c (zone_number v.zone)) (sym m.time_is) ∙ ap (λ (c : ℕ). time_at (time_code u.clock u.digits) c) (sym m.zone_is) in
    let o : v ≡ u = sym (time_back v) ∙ d ∙ time_back u in
    let q : Permᴰ ws (date_time_pairs f v z) = subst (λ (d : DateForm). Permᴰ ws (date_time_pairs d v z)) n p in (
      z,
      subst (λ (w : TimeForm). Permᴰ ws (date_time_pairs f w z)) o q,
      e ∙ ap (λ (d : DateForm). date_time_list d v z) n ∙ ap (λ (w : TimeForm). date_time_list f w z) o,
    )
of_date_time f u y ws s (a_date g z p e) a = let m : Alike (date_time_list f u y) (date_list g z) = rw e at a in let z = m.basic_is in absurd (omega arith)
of_date_time f u y ws s (a_time v k p e) a = let m : Alike (date_time_list f u y) (time_list v) = rw e at a in let z = m.basic_is in absurd (omega arith)
of_date_time f u y ws s (a_duration p e) a = let m : Alike (date_time_list f u y) duration_list = rw e at a in let z = m.basic_is in absurd (omega arith)

-- .. and a list without a Year is the same.
no_year : (s : Option Settings) → year_in s ≡ 0 → (q : List (List ℕ)) (t : Option Settings) → ListOf q t → Alike s t → dated_list s ≡ false → equal_lists s t ≡ true
unfolding equal_lists same_but_year dated_list
no_year s z q t r a n =
    let y : year_in t ≡ 0 = go r in
    rw (
      eq-eqb _ _ a.basic_is,
      eq-eqb _ _ a.date_is,
      eq-eqb _ _ a.time_is,
      eq-eqb _ _ a.zone_is,
      eq-eqb _ _ a.interval_is,
      eq-eqb _ _ (z ∙ sym y),
    )
  where
    go : ListOf q t → year_in t ≡ 0
    go (a_date f x p e) = absurd (false≢true (sym n ∙ rw (a.basic_is, e)))
    go (a_time u k p e) = rw e
    go (a_date_time f u x k p e) = absurd (false≢true (sym n ∙ rw (a.basic_is, e)))
    go (a_duration p e) = rw e

-- ---- all lists of a text

-- A list that is usable can be read.
pub usable_read : (limits : Limits) (s : Option Settings) → usable limits s ≡ true → is_some s ≡ true
unfolding usable
usable_read limits s e = ((and-eq-true_iff _ _).0 e).0

-- The Years of lists of one shape, with their pairs.
record Gathered (f : YearSetting → List (List ℕ)) (g : YearSetting → Option Settings) (ps : List (List ℕ)) : Type 0 where
  years : List YearSetting
  of_pairs : Arranged (pieces ps) (map f years)
  lists_are : map list_of ps ≡ map g years

gather : (limits : Limits) (f : YearSetting → List (List ℕ)) (g : YearSetting → Option Settings) (s : Option Settings)
    → ((ws : List (List ℕ)) (t : Option Settings) → ListOf ws t → Alike s t → (z : YearSetting) × (Permᴰ ws (f z)) × (t ≡ g z))
    → (ps : List (List ℕ)) → all_of (usable limits) (map list_of ps) ≡ true → all_of (one_row s) (map list_of ps) ≡ true → Gathered f g ps
unfolding all_of
gather limits f g s k [] u o = record { years = []; of_pairs = end; lists_are = refl }
gather limits f g s k (p ∷ ps) u o =
    let v : (usable limits (list_of p) ≡ true) × (all_of (usable limits) (map list_of ps) ≡ true) = (and-eq-true_iff _ _).0 u in
    let w : (one_row s (list_of p) ≡ true) × (all_of (one_row s) (map list_of ps) ≡ true) = (and-eq-true_iff _ _).0 o in
    let z = k (split_on 32 p) (list_of p) (list_arranged p (usable_read limits (list_of p) v.0)) (alike s (list_of p) w.0) in
    let r = gather limits f g s k ps v.1 w.1 in
    record {
      years = z.0 ∷ r.years;
      of_pairs = more z.1 r.of_pairs;
      lists_are = ap₂ (λ (s : Option Settings) (w : List (Option Settings)). s ∷ w) z.2
          r.lists_are;
    }

-- Lists of one shape that share a row with the first name Years of its row.
rows_shared : (b d t z i : ℕ) (y : YearSetting) (ys : List YearSetting)
    → all_of (one_row (list_at b d t z i (year_number y))) (map (λ x. list_at b d t z i (year_number x)) ys) ≡ true
    → (x : YearSetting) → member (year_number x) (numbers ys) ≡ true → row_of_year x ≡ row_of_year y
unfolding all_of member
rows_shared b d t z i y [] o x m = absurd (false≢true m)
rows_shared b d t z i y (v ∷ ys) o x m =
    let w = (and-eq-true_iff (one_row (list_at b d t z i (year_number y)) (list_at b d t z i (year_number v))) _).0 o in
    let a = alike (list_at b d t z i (year_number y)) (list_at b d t z i (year_number v)) w.0 in
    let r : row_of_year v ≡ row_of_year y = ap row_of_year (sym (year_back v)) ∙ sym a.row_is ∙ ap row_of_year (year_back y) in
    go (eqb (year_number v) (year_number x)) refl m r (rows_shared b d t z i y ys w.1 x)
  where
    go : (c : Bool) → eqb (year_number v) (year_number x) ≡ c → (c || member (year_number x) (numbers ys)) ≡ true → row_of_year v ≡ row_of_year y
        → (member (year_number x) (numbers ys) ≡ true → row_of_year x ≡ row_of_year y) → row_of_year x ≡ row_of_year y
    go true e k r f = ap row_of_year (by_number year_number year_setting_at year_back x v (sym (eqb-true _ _ e))) ∙ r
    go false e k r f = f k

-- Pieces lack the octet that they are split at.
pub split_lacks : (c : ℕ) (l : List ℕ) → all_of (lacks c) (split_on c l) ≡ true
unfolding split_on all_of lacks
split_lacks c [] = refl
split_lacks c (x ∷ l) = go (eqb x c) (split_on c l) refl (split_lacks c l)
  where
    go : (b : Bool) (ps : List (List ℕ)) → eqb x c ≡ b → all_of (lacks c) ps ≡ true → all_of (lacks c) (cond b ([] ∷ ps) (with_first x ps)) ≡ true
    go true ps e i = i
    go false [] e i = rw e
    go false (w ∷ ws) e i = rw e i

first-row : (y : YearSetting) (ys : List YearSetting) → ((x : YearSetting) → member (year_number x) (numbers ys) ≡ true → row_of_year x ≡ row_of_year y)
    → (x : YearSetting) → member (year_number x) (numbers (y ∷ ys)) ≡ true → row_of_year x ≡ row_of_year y
unfolding member
first-row y ys k x m = go (eqb (year_number y) (year_number x)) refl m
  where
    go : (c : Bool) → eqb (year_number y) (year_number x) ≡ c → (c || member (year_number x) (numbers ys)) ≡ true → row_of_year x ≡ row_of_year y
    go true e j = ap row_of_year (by_number year_number year_setting_at year_back x y (sym (eqb-true _ _ e)))
    go false e j = k x j

first_read : (limits : Limits) (p : List ℕ) (ps : List (List ℕ)) → all_of (usable limits) (map list_of (p ∷ ps)) ≡ true → is_some (list_of p) ≡ true
unfolding all_of
first_read limits p ps u = usable_read limits (list_of p) ((and-eq-true_iff (usable limits (list_of p)) _).0 u).0

module _ (limits : Limits) (l : List ℕ) (t : AnyType) (h : type_of limits l ≡ TypeRead.«Type» t) (p : List ℕ) (ps : List (List ℕ)) (x : split_on 124 l ≡ p ∷ ps)
    (u : all_of (usable limits) (map list_of (p ∷ ps)) ≡ true) (n : distinct (map list_of (p ∷ ps)) ≡ true)
    (o : all_of (one_row (list_of p)) (map list_of ps) ≡ true) where
  -- Lists with a date: the type names their Years.
  dated : (b d c z : ℕ) (f : YearSetting → List (List ℕ)) (m : Years → Parts)
      → ((years : Years) → some_year years ≡ true → well_parts (m years) ≡ true) → ((years : Years) → lists_for (m years) ≡ map f (named_years years))
      → (y : YearSetting) → Permᴰ (split_on 32 p) (f y) → list_of p ≡ list_at b d c z 0 (year_number y)
      → Gathered f (λ v. list_at b d c z 0 (year_number v)) ps → Reads limits t l
  unfolding all_of
  dated b d c z f m well lists y q e r =
      let ys = y ∷ r.years in
      let are : map list_of (p ∷ ps) ≡ map (list_at b d c z 0) (numbers ys) = rw (e, r.lists_are) (fused ys) in
      let a : apart (numbers ys) ≡ true = sym (lists_apart limits b d c z 0 (numbers ys)) ∙ ap distinct (sym are) ∙ n in
      let k = rows_shared b d c z 0 y r.years (rw (e, r.lists_are) at o) in
      let row : (v : YearSetting) → member (year_number v) (numbers ys) ≡ true → row_of_year v ≡ row_of_year y = first-row y r.years k in
      let years = years_of (row_of_year y) (numbers ys) in
      let some : some_year years ≡ true = some_named years y (first_named y (numbers r.years)) in
      reads_as limits l t h (listed_parts (m years)) (well years some) (pieces (p ∷ ps))
      (record {
        lists = map f ys;
        of_lists = rw (lists years) (perm-map f (named_order (row_of_year y) ys a row));
        of_pairs = more q r.of_pairs;
      })
      (type-text l (p ∷ ps) x)
    where
      fused : (v : List YearSetting) → map (λ w. list_at b d c z 0 (year_number w)) v ≡ map (list_at b d c z 0) (numbers v)
      fused [] = refl
      fused (w ∷ v) = ap (λ (g : List (Option Settings)). list_at b d c z 0 (year_number w) ∷ g) (fused v)

  -- A list without a date stands alone.
  undated : dated_list (list_of p) ≡ false → year_in (list_of p) ≡ 0 → ps ≡ []
  unfolding all_of distinct
  undated k z = go ps o n u
    where
      go : (qs : List (List ℕ)) → all_of (one_row (list_of p)) (map list_of qs) ≡ true → distinct (map list_of (p ∷ qs)) ≡ true
          → all_of (usable limits) (map list_of (p ∷ qs)) ≡ true → qs ≡ []
      go [] a b c = refl
      go (q ∷ qs) a b c =
          let w = (and-eq-true_iff (one_row (list_of p) (list_of q)) _).0 a in
          let v = (and-eq-true_iff (usable limits (list_of p)) _).0 c in
          let j = (and-eq-true_iff (usable limits (list_of q)) _).0 v.1 in
          let e = no_year (list_of p) z (split_on 32 q) (list_of q) (list_arranged q (usable_read limits (list_of q) j.0)) (alike _ _ w.0) k in
          let i = (and-eq-true_iff (all_of (λ s. not (equal_lists (list_of p) s)) (map list_of (q ∷ qs))) _).0 b in
          let g = (and-eq-true_iff (not (equal_lists (list_of p) (list_of q))) _).0 i.0 in
          absurd (false≢true (sym (not-true _ g.0) ∙ e))

  alone : (v : AnyType) → well_formed v ≡ true → (vs : List (List ℕ)) → lists_for_type v ≡ vs ∷ [] → Permᴰ (split_on 32 p) vs → ps ≡ [] → Reads limits t l
  alone v w vs k q e =
      reads_as limits l t h v w (split_on 32 p ∷ [])
      (record { lists = vs ∷ []; of_lists = rw k (mathlib.Core.List.Permᴰ.refl (vs ∷ [])); of_pairs = more q end })
      (type-text l (p ∷ []) (x ∙ ap (λ (r : List (List ℕ)). p ∷ r) e))

  gathered : (f : YearSetting → List (List ℕ)) (g : YearSetting → Option Settings)
      → ((ws : List (List ℕ)) (s : Option Settings) → ListOf ws s → Alike (list_of p) s → (z : YearSetting) × (Permᴰ ws (f z)) × (s ≡ g z)) → Gathered f g ps
  unfolding all_of
  gathered f g k = gather limits f g (list_of p) k ps ((and-eq-true_iff (usable limits (list_of p)) _).0 u).1 o

  first_list : ListOf (split_on 32 p) (list_of p) → Reads limits t l
  unfolding dated_list
  first_list (a_date f y q e) =
      dated 1 (date_number f) 0 0 (date_pairs f) (λ v. Parts.Date (unlimited_date f v)) (λ v s. s) (λ v. refl) y q e
      (gathered (date_pairs f) (date_list f) (λ ws s r a. of_date f y ws s r (rw e at a)))
  first_list (a_time v k q e) =
      alone (listed_parts (Parts.Time (unlimited_time v))) (le-leb v.digits 9 k) (time_pairs v) refl q (undated (rw e) (rw e))
  first_list (a_date_time f v y k q e) =
      dated 3 (date_number f) (time_code v.clock v.digits) (zone_number v.zone) (date_time_pairs f v)
      (λ w. Parts.DateTime (unlimited_date f w) (unlimited_time v)) (λ w s. rw s (le-leb v.digits 9 k)) (λ w. refl) y q e
      (gathered (date_time_pairs f v) (date_time_list f v) (λ ws s r a. of_date_time f v y ws s r (rw e at a)))
  first_list (a_duration q e) = alone AnyType.ListedDuration refl duration_pairs refl q (undated (rw e) (rw e))

module _ (limits : Limits) (l : List ℕ) (t : AnyType) (h : type_of limits l ≡ TypeRead.«Type» t) where
  of_row_lem : (b : Bool) (r : TypeRead) → cond b r TypeRead.NoRow ≡ TypeRead.«Type» t → b ≡ true
  of_row_lem true r e = refl
  of_row_lem false r e = absurd (let z : ◌≡◌ {A = ℕ} 0 1 = cc in omega arith)

  passed : (b : Bool) (r : TypeRead) → cond b r TypeRead.Unreadable ≡ TypeRead.«Type» t → (b ≡ true) × (r ≡ TypeRead.«Type» t)
  passed true r e = (refl, e)
  passed false r e = absurd (let z : ◌≡◌ {A = ℕ} 0 1 = cc in omega arith)

  lists_read : joined limits (lists_of l) ≡ TypeRead.«Type» t → Reads limits t l
  unfolding lists_of joined
  lists_read = go (split_on 124 l) refl
    where
      go : (ps : List (List ℕ)) → split_on 124 l ≡ ps → joined limits (map list_of ps) ≡ TypeRead.«Type» t → Reads limits t l
      go [] e j = absurd (let z : ◌≡◌ {A = ℕ} 0 1 = cc in omega arith)
      go (p ∷ ps) e j =
          let c = passed (leb (length (map list_of (p ∷ ps))) most_lists && all_of (usable limits) (map list_of (p ∷ ps)) && distinct (map list_of (p ∷ ps))) _ j in
          let a = (and-eq-true_iff (leb (length (map list_of (p ∷ ps))) most_lists && all_of (usable limits) (map list_of (p ∷ ps))) _).0 c.0 in
          let u = (and-eq-true_iff (leb (length (map list_of (p ∷ ps))) most_lists) _).0 a.0 in
          let o = of_row_lem (all_of (one_row (list_of p)) (map list_of ps)) _ c.1 in
          first_list limits l t h p ps e u.1 a.1 o (list_arranged p (first_read limits p ps u.1))

-- ---- the law

-- How a text that is read as a type stands for it.
pub data Stands (limits : Limits) (t : AnyType) (l : List ℕ) : Type 0 where
  DATE-is : l ≡ bytes "DATE" → limited_to limits (AnyType.Point DATE) ≡ TypeRead.«Type» t → Stands limits t l
  TIME-OF-DAY-is : l ≡ bytes "TIME-OF-DAY" → limited_to limits (AnyType.Point TIME-OF-DAY) ≡ TypeRead.«Type» t → Stands limits t l
  DATE-TIME-is : l ≡ bytes "DATE-TIME" → limited_to limits (AnyType.Point DATE-TIME) ≡ TypeRead.«Type» t → Stands limits t l
  DURATION-is : l ≡ bytes "DURATION" → limited_to limits DURATION ≡ TypeRead.«Type» t → Stands limits t l
  settings_are : Reads limits t l → Stands limits t l

-- By whether a text is a name.
by_name : (limits : Limits) (l : List ℕ) (t n : AnyType) (name : List ℕ) (x : TypeRead)
    → (l ≡ name → limited_to limits n ≡ TypeRead.«Type» t → Stands limits t l)
    → (x ≡ TypeRead.«Type» t → Stands limits t l)
    → cond (eq_list l name) (limited_to limits n) x ≡ TypeRead.«Type» t
    → Stands limits t l
by_name limits l t n name x f g = go (eq_list l name) refl
  where
    go : (b : Bool) → eq_list l name ≡ b → cond b (limited_to limits n) x ≡ TypeRead.«Type» t → Stands limits t l
    go true e j = f (equal l name e) j
    go false e j = g j

-- What is read as a type is a name, and the type is what the name stands for, or it is the type's own settings, in some order; under these limits.
pub read_stands : (limits : Limits) (l : List ℕ) (t : AnyType) → type_of limits l ≡ TypeRead.«Type» t → Stands limits t l
unfolding type_of
read_stands limits l t h =
    by_name limits l t (AnyType.Point DATE) (bytes "DATE") _ DATE-is
    (by_name limits l t (AnyType.Point TIME-OF-DAY) (bytes "TIME-OF-DAY") _ TIME-OF-DAY-is
    (by_name limits l t (AnyType.Point DATE-TIME) (bytes "DATE-TIME") _ DATE-TIME-is
    (by_name limits l t DURATION (bytes "DURATION") _ DURATION-is (λ j. settings_are (lists_read limits l t h j)))))
    h

-- The type that is read carries the limits given beside its text, and no other restriction.
pub read_limits : (limits : Limits) (l : List ℕ) (t : AnyType) → type_of limits l ≡ TypeRead.«Type» t → limits_of t ≡ limits
read_limits limits l t h = go (read_stands limits l t h)
  where
    go : Stands limits t l → limits_of t ≡ limits
    go (DATE-is e k) = limits_carried limits (AnyType.Point DATE) t k
    go (TIME-OF-DAY-is e k) = limits_carried limits (AnyType.Point TIME-OF-DAY) t k
    go (DATE-TIME-is e k) = limits_carried limits (AnyType.Point DATE-TIME) t k
    go (DURATION-is e k) = limits_carried limits DURATION t k
    go (settings_are r) = limits_carried limits (listed_type r.of_type) t r.given
