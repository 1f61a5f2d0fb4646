-- Nothing ill-formed is ever read.
use Rattle.std.specs.Prelude.{Option, Some, None}
use Rattle.std.specs.Option.{is_some, option_map, option_or}
use Rattle.lists.specs.Lists.{numbers_in}
use mathlib.Core.Path.{◌≡◌, refl, sym, ◌∙◌, subst}
use mathlib.Core.List.{List, [], ◌∷◌, map}
use mathlib.Core.Bool.{Bool, true, false, ◌&&◌, not, cond, and-eq-true_iff, false≢true}
use Prim.Native.Nat.{ℕ, zero, suc, ◌+◌, ◌-◌, ◌*◌, ◌/◌, ◌<◌, ◌≤◌}
use native.Mathlib.Omega.{arith}
use lib.Dec.{eqb, leb}
use lib.ListN.{length, get_or, set, take, length-set}
use lib.Seq.{get_or-set_same, get_or-set_other}
use borrow.Author.Tests.{leb-true, le-leb, eq-eqb, eqb-true, eqb-false, not-true}
use Rattle.octets.specs.Octets.{bytes, eq_list}
use Rattle.octets.specs.Pieces.{split_on}
use Rattle.types.specs.AnyTypes.{DURATION, carrying, dated_type, limited_to, timed_type, well_formed}
use Rattle.types.specs.Types as Points
use Rattle.types.specs.Types.{DATE, TIME-OF-DAY, DATE-TIME, placed, restricted, well_parts}
use Rattle.types.specs.Years.{names, row_of_year, some_year, year_setting_at, year_number}
use Rattle.types.proofs.Laws.Years.{some_named}
use Rattle.types.specs.declared.years.YearSetting.{YearSetting}
use Rattle.lists.specs.Words.{place_in, year_words, clock_words, fraction_words, with_digits, is_digit_count, fraction_number, time_number, pair_of}
use Rattle.lists.specs.Lists.{settings, none_yet, refused_list, add_pair, add_pairs, basic_in, date_in, year_in, time_in, zone_in, dated_list, timed_list, present_if}
use Rattle.lists.specs.Lists.{interval_in, interval_list, complete, completed, list_of}
use Rattle.type_texts.specs.TypeTexts.{all_of, distinct, joined, list_type, lists_of, member, one_row, point_type, row_in, time_at, type_of}
use Rattle.lists.specs.Lists.{most_lists}
use Rattle.type_texts.specs.TypeTexts.{usable, years_of}
use Rattle.types.specs.declared.types.AnyType.{AnyType}
use Rattle.types.specs.declared.types.Parts.{Parts}
use Rattle.types.specs.declared.types.«Type».{«Type»}
use Rattle.types.specs.declared.types.Limits.{Limits}
use Rattle.types.specs.declared.types.TypeRead.{TypeRead}
use Rattle.lists.specs.declared.words.Pair.{Pair}
use Rattle.lists.specs.declared.lists.Settings.{Settings}
use Rattle.lists.proofs.Laws.Words.{place-in}
use Rattle.lists.proofs.Laws.Lists.{OfPair, every_pair, six_properties}
use Rattle.type_texts.proofs.Laws.Tests.{five_hold}

-- ---- The numbers of a list's Year and Time.

fraction-le : (l : List ℕ) (n : ℕ) → fraction_number l ≡ Some n → n ≤ 99
unfolding fraction_number
fraction-le l n = go (is_digit_count d) refl where
  d : ℕ
  d = get_or l (length l - 1) 0

  digits : d ≤ 57 → (o : Option ℕ) → ((k : ℕ) → o ≡ Some k → k ≤ 3) → option_map (with_digits (d - 48)) o ≡ Some n → n ≤ 99
  digits h None f e = cc
  digits h (Some k) f e =
      let q : (d - 48) * 10 + k ≡ n = cc in
      let m : k ≤ 3 = f k refl in
      omega arith

  go : (t : Bool) → is_digit_count d ≡ t → cond t (option_map (with_digits (d - 48)) (place_in fraction_words (take (length l - 1) l))) None ≡ Some n
      → n ≤ 99
  go true e h =
      let p : (leb 49 d ≡ true) × (leb d 57 ≡ true) = (and-eq-true_iff _ _).0 e in
      digits (leb-true d 57 p.1) (place_in fraction_words (take (length l - 1) l)) (λ k e. place-in fraction_words (take (length l - 1) l) e) h
  go false e h = cc

time-le : (l : List ℕ) (n : ℕ) → time_number l ≡ Some n → n ≤ 99
time-le l n = go (place_in clock_words l) refl where
  go : (o : Option ℕ) → place_in clock_words l ≡ o → option_or o (fraction_number l) ≡ Some n → n ≤ 99
  go None e h = fraction-le l n h
  go (Some k) e h =
      let q : k ≡ n = cc in
      let m : k ≤ 3 = place-in clock_words l e in
      omega arith

record InRange (p : Pair) : Type 0 where
  year : p.property ≡ 2 → p.setting ≤ 8
  time : p.property ≡ 3 → p.setting ≤ 99

pair_in_range : (l : List ℕ) → OfPair InRange (pair_of l)
pair_in_range l =
    every_pair InRange l
    (λ m e. record { year = λ z. absurd (omega arith); time = λ z. absurd (omega arith) })
    (λ m e. record { year = λ z. absurd (omega arith); time = λ z. absurd (omega arith) })
    (λ m e. record { year = λ z. place-in year_words l e; time = λ z. absurd (omega arith) })
    (λ m e. record { year = λ z. absurd (omega arith); time = λ z. time-le l m e })
    (λ m e. record { year = λ z. absurd (omega arith); time = λ z. absurd (omega arith) })
    (λ m e. record { year = λ z. absurd (omega arith); time = λ z. absurd (omega arith) })

record Bounded (s : Option Settings) : Type 0 where
  size : length (numbers_in s) ≡ 6
  year : year_in s ≤ 8
  time : time_in s ≤ 99

set-le : (ns : List ℕ) (p v q n : ℕ) → p < length ns → (p ≡ q → v ≤ n) → get_or ns q 0 ≤ n → get_or (set ns p v) q 0 ≤ n
set-le ns p v q n l h k = go (eqb p q) refl where
  go : (t : Bool) → eqb p q ≡ t → get_or (set ns p v) q 0 ≤ n
  go true e = let z : p ≡ q = eqb-true p q e in rw (← z, get_or-set_same ns p v 0 l) (h z)
  go false e = rw (get_or-set_other ns p q v 0 (λ z. eqb-false p q e (sym z))) k

add_bounded : (s : Option Settings) (q : Option Pair) → OfPair InRange q → OfPair (λ p. p.property < 6) q → Bounded s → Bounded (add_pair s q)
unfolding add_pair
add_bounded None q r k b = record { size = refl; year = omega arith; time = omega arith }
add_bounded (Some s) None r k b = record { size = refl; year = omega arith; time = omega arith }
add_bounded (Some s) (Some p) r k b = go (eqb (get_or s.numbers p.property 0) 0) where
  go : (t : Bool) → Bounded (cond t (settings (set s.numbers p.property p.setting)) refused_list)
  go true =
      let h : p.property < length s.numbers = rw b.size (k p refl) in
      record {
        size = length-set s.numbers p.property p.setting ∙ b.size;
        year = set-le s.numbers p.property p.setting 2 8 h (r p refl).year b.year;
        time = set-le s.numbers p.property p.setting 3 99 h (r p refl).time b.time;
      }
  go false = record { size = refl; year = omega arith; time = omega arith }

pairs_bounded : (s : Option Settings) (ws : List (List ℕ)) → Bounded s → Bounded (add_pairs s ws)
unfolding add_pairs
pairs_bounded s [] b = b
pairs_bounded s (w ∷ ws) b = pairs_bounded (add_pair s (pair_of w)) ws (add_bounded s (pair_of w) (pair_in_range w) (six_properties w) b)

-- ---- A list that can be read is complete, and its numbers are in range.

record Sound (s : Option Settings) : Type 0 where
  all : complete s ≡ true
  bounds : Bounded s

list_sound : (l : List ℕ) → is_some (list_of l) ≡ true → Sound (list_of l)
unfolding list_of completed
list_sound l = go (complete s) refl where
  s : Option Settings
  s = add_pairs (settings none_yet) (split_on 32 l)

  go : (t : Bool) → complete s ≡ t → is_some (cond t s refused_list) ≡ true → Sound (cond t s refused_list)
  go true e h = record { all = e; bounds = pairs_bounded (settings none_yet) (split_on 32 l) (record { size = refl; year = omega arith; time = omega arith }) }
  go false e h = absurd (false≢true h)

-- ---- A type that such lists make is well-formed.

first_member : (n : ℕ) (ys : List ℕ) → member n (n ∷ ys) ≡ true
unfolding member
first_member n ys = rw (eq-eqb n n refl)

-- A first Year is named, whatever the others.
pub first_named : (y : YearSetting) (ys : List ℕ) → names (years_of (row_of_year y) (year_number y ∷ ys)) y ≡ true
unfolding years_of
first_named YearSetting.Basic ys = first_member 1 ys
first_named YearSetting.Proleptic ys = first_member 2 ys
first_named YearSetting.Negative ys = first_member 3 ys
first_named YearSetting.L5 ys = first_member 4 ys
first_named YearSetting.L6 ys = first_member 5 ys
first_named YearSetting.L7 ys = first_member 6 ys
first_named YearSetting.L8 ys = first_member 7 ys
first_named YearSetting.L9 ys = first_member 8 ys

-- Each number from 1 to 8 is that of a Year.
year-number : (n : ℕ) → 0 < n → n ≤ 8 → year_number (year_setting_at n) ≡ n
unfolding year_setting_at
year-number zero h k = absurd (omega arith)
year-number (suc zero) h k = refl
year-number (suc (suc zero)) h k = refl
year-number (suc (suc (suc zero))) h k = refl
year-number (suc (suc (suc (suc zero)))) h k = refl
year-number (suc (suc (suc (suc (suc zero))))) h k = refl
year-number (suc (suc (suc (suc (suc (suc zero)))))) h k = refl
year-number (suc (suc (suc (suc (suc (suc (suc zero))))))) h k = refl
year-number (suc (suc (suc (suc (suc (suc (suc (suc zero)))))))) h k = refl
year-number (suc (suc (suc (suc (suc (suc (suc (suc (suc n))))))))) h k = absurd (omega arith)

some-year : (n : ℕ) (ys : List ℕ) → 0 < n → n ≤ 8 → some_year (years_of (row_of_year (year_setting_at n)) (n ∷ ys)) ≡ true
some-year n ys h k =
    let e = year-number n h k in
    some_named _ (year_setting_at n)
    (subst (λ (m : ℕ). names (years_of (row_of_year (year_setting_at n)) (m ∷ ys)) (year_setting_at n) ≡ true) e (first_named (year_setting_at n) ys))

dated_year : (s : Option Settings) → complete s ≡ true → dated_list s ≡ true → 0 < year_in s
unfolding complete
dated_year s c e =
    let p = (and-eq-true_iff _ (present_if (interval_list s) (interval_in s))).0 c in
    let q = five_hold (not (eqb (basic_in s) 0)) (present_if (dated_list s) (date_in s)) (present_if (dated_list s) (year_in s)) (present_if (timed_list s) (time_in s))
    (present_if (timed_list s) (zone_in s)) p.0 in
    let y : not (eqb (year_in s) 0) ≡ true = rw e at q.2 in
    let n : year_in s ≡ 0 → ⊥ = eqb-false (year_in s) 0 (not-true _ y) in
    omega arith

digits-few : (t z : ℕ) → t ≤ 99 → leb (time_at t z).digits 9 ≡ true
unfolding time_at
digits-few t z h = le-leb (t / 10) 9 (omega arith)

list_well-formed : (s : Option Settings) (ys : List ℕ) → Sound s → well_formed (list_type s (years_of (row_in s) (year_in s ∷ ys))) ≡ true
unfolding list_type point_type timed_list dated_list
list_well-formed s ys h = go (eqb (basic_in s) 1) (eqb (basic_in s) 2) (eqb (basic_in s) 3) refl refl refl where
  year : dated_list s ≡ true → some_year (years_of (row_in s) (year_in s ∷ ys)) ≡ true
  year e = some-year (year_in s) ys (dated_year s h.all e) h.bounds.year

  few : leb (time_at (time_in s) (zone_in s)).digits 9 ≡ true
  few = digits-few (time_in s) (zone_in s) h.bounds.time

  go : (a b c : Bool) → eqb (basic_in s) 1 ≡ a → eqb (basic_in s) 2 ≡ b → eqb (basic_in s) 3 ≡ c → well_formed (list_type s (years_of (row_in s) (year_in s ∷ ys))) ≡ true
  go true b c e f g = rw (e, year (rw e))
  go false true true e f g = rw (e, f, g, few)
  go false true false e f g = rw (e, f, g, few)
  go false false true e f g = rw (e, f, g, year (rw (e, g)), few)
  go false false false e f g = rw (e, f, g)

-- ---- What is read is well-formed.

abbrev Good : TypeRead → Type 0
Good (TypeRead.«Type» t) = well_formed t ≡ true
Good TypeRead.Unreadable = Unit {0}
Good TypeRead.NoRow = Unit {0}

good_cond : (k : Bool) (a b : TypeRead) → (k ≡ true → Good a) → Good b → Good (cond k a b)
good_cond true a b f g = f refl
good_cond false a b f g = g

-- Limits change no setting.
same_parts : (limits : Limits) (p : Parts) → well_parts (restricted limits p) ≡ well_parts p
same_parts limits (Parts.Date d) = refl
same_parts limits (Parts.Time t) = refl
same_parts limits (Parts.DateTime d t) = refl

point-well : (limits : Limits) (t : «Type») → Points.well_formed (Points.carrying limits t) ≡ Points.well_formed t
point-well limits («Type».Listed p) = same_parts limits p
point-well limits («Type».Date w) = refl
point-well limits («Type».TimeOfDay h) = refl
point-well limits («Type».DateTime w h) = refl

same_well : (limits : Limits) (t : AnyType) → well_formed (carrying limits t) ≡ well_formed t
same_well limits (AnyType.Point t) = point-well limits t
same_well limits AnyType.Duration = refl
same_well limits AnyType.ListedDuration = refl

good_limited : (limits : Limits) (t : AnyType) → well_formed t ≡ true → Good (limited_to limits t)
unfolding limited_to
good_limited limits t h = good_cond (placed limits (dated_type t) (timed_type t)) _ _ (λ e. same_well limits t ∙ h) tt

second : (a b c d e : Bool) → a && (b && c && d) && e ≡ true → b ≡ true
second true true c d e h = refl
second true false c d e h = absurd (false≢true h)
second false b c d e h = absurd (false≢true h)

good_joined : (limits : Limits) (s : Option Settings) (r : List (Option Settings)) → (is_some s ≡ true → Sound s) → Good (joined limits (s ∷ r))
unfolding joined all_of usable
good_joined limits s r h =
    good_cond (leb (length (s ∷ r)) most_lists && all_of (usable limits) (s ∷ r) && distinct (s ∷ r)) _ _
    (λ e.
    let v : is_some s ≡ true = second (leb (length (s ∷ r)) most_lists) (is_some s) (placed limits (dated_list s) (timed_list s)) (all_of (usable limits) r)
    (distinct (s ∷ r)) e in
    good_cond (all_of (one_row s) r) _ _ (λ f. good_limited limits (list_type s (years_of (row_in s) (map year_in (s ∷ r)))) (list_well-formed s (map year_in r) (h v))) tt)
    tt

good_lists : (limits : Limits) (l : List ℕ) → Good (joined limits (lists_of l))
unfolding lists_of joined
good_lists limits l = go (split_on 124 l) where
  go : (ps : List (List ℕ)) → Good (joined limits (map list_of ps))
  go [] = tt
  go (p ∷ ps) = good_joined limits (list_of p) (map list_of ps) (list_sound p)

good : (limits : Limits) (l : List ℕ) → Good (type_of limits l)
unfolding type_of
good limits l =
    good_cond (eq_list l (bytes "DATE")) _ _ (λ e. good_limited limits (AnyType.Point DATE) refl)
    (good_cond (eq_list l (bytes "TIME-OF-DAY")) _ _ (λ e. good_limited limits (AnyType.Point TIME-OF-DAY) refl)
    (good_cond (eq_list l (bytes "DATE-TIME")) _ _ (λ e. good_limited limits (AnyType.Point DATE-TIME) refl)
    (good_cond (eq_list l (bytes "DURATION")) _ _ (λ e. good_limited limits DURATION refl) (good_lists limits l))))

-- Every type that is read is well-formed.
pub read_well-formed : (limits : Limits) (l : List ℕ) (t : AnyType) → type_of limits l ≡ TypeRead.«Type» t → well_formed t ≡ true
read_well-formed limits l t e = subst Good e (good limits l)
