-- From the words of a type to its settings, its lists and the type.
use Rattle.std.specs.Prelude.{Option, Some}
use mathlib.Core.Path.{◌≡◌, refl, ap, ap₂, sym, ◌∙◌, subst}
use mathlib.Core.List.{List, [], ◌∷◌, ◌++◌, map, Permᴰ}
use mathlib.Core.Bool.{Bool, true, false, ◌&&◌, ◌||◌, not, cond, and-eq-true_iff, false≢true}
use Prim.Native.Nat.{ℕ, suc, ◌+◌, ◌*◌, ◌/◌, ◌%◌, ◌<◌, ◌≤◌}
use native.Mathlib.Omega.{arith}
use lib.Dec.{eqb, leb}
use lib.ListN.{length, drop, length-map}
use borrow.Author.Tests.{le-leb, ne_eqb, eq-eqb, eqb-true, eqb-false, not-true}
use Rattle.octets.specs.Octets.{bytes, eq_list}
use Rattle.types.specs.Numbers.{date_number, date_at, clock_number, clock_at, zone_number, zone_at}
use Rattle.types.specs.Types.{unlimited_date, unlimited_time, listed, has_date, has_time, placed}
use Rattle.types.specs.Years.{names, row_number, row_of_year, some_year, year_setting_at, year_number, year_settings, year_word, years_row}
use Rattle.types.proofs.Laws.Years.{named_row, named_some, year_back}
use Rattle.types.specs.AnyTypes.{limited_to}
use Rattle.lists.specs.Words.{place_from, fraction_number, pair, pair_of}
use Rattle.lists.specs.Lists.{settings, none_yet, add_pair, add_pairs, dated_list, timed_list, interval_list, complete, completed, list_of, year_in}
use Rattle.type_texts.specs.TypeTexts.{all_of, distinct, equal_lists, joined, list_type, lists_of, member, one_row, point_type}
use Rattle.lists.specs.Lists.{most_lists}
use Rattle.type_texts.specs.TypeTexts.{same_but_year, time_at, type_of, usable, years_of}
use Rattle.type_texts.specs.Written.{Arranged, InAnyOrder, clock_word, date_pairs, date_time_pairs, date_word, duration_pairs, end, join_with, keep, more}
use Rattle.type_texts.specs.Written.{named_years, time_pairs, time_word, type_text, zone_word}
use Rattle.texts.specs.declared.forms.DateForm.{DateForm}
use Rattle.texts.specs.declared.forms.ClockForm.{ClockForm}
use Rattle.texts.specs.declared.forms.ZoneForm.{ZoneForm}
use Rattle.texts.specs.declared.forms.TimeForm.{TimeForm}
use Rattle.types.specs.declared.types.AnyType.{AnyType}
use Rattle.types.specs.declared.years.YearRow.{YearRow}
use Rattle.types.specs.declared.years.YearSetting.{YearSetting}
use Rattle.types.specs.declared.years.Years.{Years}
use Rattle.types.specs.declared.types.DateType.{DateType}
use Rattle.types.specs.declared.types.TimeType.{TimeType}
use Rattle.types.specs.declared.types.Parts.{Parts}
use Rattle.types.specs.declared.types.Limits.{Limits}
use Rattle.types.specs.declared.types.TypeRead.{TypeRead}
use Rattle.lists.specs.declared.lists.Settings.{Settings}
use Rattle.lists.proofs.Laws.Spelled.{interval_D, time_HF, time_HMF, time_HMSF, word_read, year}
use Rattle.type_texts.proofs.Laws.Joining.{lacks, split_join, lacks_join, has_join, all_perm, all_weaken, length-perm, perm-map}
use Rattle.type_texts.proofs.Laws.Kept.{apart, eqb_turn, kept_all, kept_apart, kept-length, kept_map, member-kept}
use Rattle.type_texts.proofs.Laws.ListOrder.{joined-perm, no_name, one_number}
use Rattle.lists.proofs.Laws.Order.{pairs_perm}

-- ---- The words give the numbers of the settings, and the numbers give the settings back.

basic_pairs :
    (pair_of (bytes "Basic=Date") ≡ Some (pair 0 1))
    × (pair_of (bytes "Basic=Time") ≡ Some (pair 0 2))
    × (pair_of (bytes "Basic=Date-Time") ≡ Some (pair 0 3))
    × (pair_of (bytes "Basic=Interval") ≡ Some (pair 0 4))
unfolding pair_of place_from eq_list
basic_pairs = (refl, refl, refl, refl)

interval_pair : pair_of (bytes "Interval-type=D") ≡ Some (pair 5 1)
interval_pair = word_read _ _ interval_D

record DateSetting (f : DateForm) : Type 0 where
  word : pair_of (date_word f) ≡ Some (pair 1 (date_number f))
  some : 0 < date_number f
  back : date_at (date_number f) ≡ f

date_setting : (f : DateForm) → DateSetting f
unfolding pair_of place_from eq_list date_at
date_setting DateForm.Y = record { word = refl; some = omega arith; back = refl }
date_setting DateForm.YM = record { word = refl; some = omega arith; back = refl }
date_setting DateForm.YMD = record { word = refl; some = omega arith; back = refl }
date_setting DateForm.YD = record { word = refl; some = omega arith; back = refl }
date_setting DateForm.YW = record { word = refl; some = omega arith; back = refl }
date_setting DateForm.YWD = record { word = refl; some = omega arith; back = refl }

record YearNumber (y : YearSetting) : Type 0 where
  word : pair_of (bytes (year_word y)) ≡ Some (pair 2 (year_number y))
  some : 0 < year_number y

some_number : (y : YearSetting) → 0 < year_number y
some_number YearSetting.Basic = omega arith
some_number YearSetting.Proleptic = omega arith
some_number YearSetting.Negative = omega arith
some_number YearSetting.L5 = omega arith
some_number YearSetting.L6 = omega arith
some_number YearSetting.L7 = omega arith
some_number YearSetting.L8 = omega arith
some_number YearSetting.L9 = omega arith

year_setting : (y : YearSetting) → YearNumber y
year_setting y = record { word = word_read _ _ (year y); some = some_number y }

record ZoneSetting (z : ZoneForm) : Type 0 where
  word : pair_of (zone_word z) ≡ Some (pair 4 (zone_number z))
  some : 0 < zone_number z
  back : zone_at (zone_number z) ≡ z

zone_setting : (z : ZoneForm) → ZoneSetting z
unfolding pair_of place_from eq_list fraction_number zone_at
zone_setting ZoneForm.L = record { word = refl; some = omega arith; back = refl }
zone_setting ZoneForm.Z = record { word = refl; some = omega arith; back = refl }
zone_setting ZoneForm.LD = record { word = refl; some = omega arith; back = refl }

fraction-pair : (c : ClockForm) (n : ℕ) → 1 ≤ n → n ≤ 9 → pair_of (clock_word c ++ bytes "F" ++ (48 + n) ∷ []) ≡ Some (pair 3 (n * 10 + clock_number c))
fraction-pair ClockForm.H n h k = word_read _ _ (time_HF n h k)
fraction-pair ClockForm.HM n h k = word_read _ _ (time_HMF n h k)
fraction-pair ClockForm.HMS n h k = word_read _ _ (time_HMSF n h k)

record ClockSetting (c : ClockForm) : Type 0 where
  word : pair_of (clock_word c) ≡ Some (pair 3 (clock_number c))
  some : 0 < clock_number c
  few : clock_number c ≤ 3
  back : clock_at (clock_number c) ≡ c

clock_setting : (c : ClockForm) → ClockSetting c
unfolding pair_of place_from eq_list clock_at
clock_setting ClockForm.H = record { word = refl; some = omega arith; few = omega arith; back = refl }
clock_setting ClockForm.HM = record { word = refl; some = omega arith; few = omega arith; back = refl }
clock_setting ClockForm.HMS = record { word = refl; some = omega arith; few = omega arith; back = refl }

-- The number of a Time setting: n times 10, and H, HM or HMS.
abbrev pub time_code : ClockForm → ℕ → ℕ
time_code c n = n * 10 + clock_number c

time-word : (c : ClockForm) (n : ℕ) → n ≤ 9 → pair_of (time_word c n) ≡ Some (pair 3 (time_code c n))
time-word c n k = go (eqb n 0) refl where
  go : (t : Bool) → eqb n 0 ≡ t →
      pair_of (cond t (clock_word c) (clock_word c ++ bytes "F" ++ (48 + n) ∷ [])) ≡ Some (pair 3 (time_code c n))
  go true e =
      let h : n ≡ 0 = eqb-true n 0 e in
      let z : clock_number c ≡ time_code c n = omega arith in
      (clock_setting c).word ∙ ap (λ (k : ℕ). Some (pair 3 k)) z
  go false e =
      let h : n ≡ 0 → ⊥ = eqb-false n 0 e in
      fraction-pair c n (omega arith) k

pub time_back : (t : TimeForm) → time_at (time_code t.clock t.digits) (zone_number t.zone) ≡ t
unfolding time_at
time_back t =
    let p = clock_setting t.clock in
    let k : clock_number t.clock ≤ 3 = p.few in
    let a : time_code t.clock t.digits % 10 ≡ clock_number t.clock = omega arith in
    let b : time_code t.clock t.digits / 10 ≡ t.digits = omega arith in
    rw (a, b, p.back, (zone_setting t.zone).back)

-- ---- One list: its pairs give its settings.

-- The settings of a list with a date.
abbrev pub date_list : DateForm → YearSetting → Option Settings
date_list f y = settings (1 ∷ date_number f ∷ year_number y ∷ 0 ∷ 0 ∷ 0 ∷ [])

-- The settings of a list with a time.
abbrev pub time_list : TimeForm → Option Settings
time_list t = settings (2 ∷ 0 ∷ 0 ∷ time_code t.clock t.digits ∷ zone_number t.zone ∷ 0 ∷ [])

-- The settings of a list with a date and a time.
abbrev pub date_time_list : DateForm → TimeForm → YearSetting → Option Settings
date_time_list f t y = settings (3 ∷ date_number f ∷ year_number y ∷ time_code t.clock t.digits ∷ zone_number t.zone ∷ 0 ∷ [])

-- The settings of a list of durations.
abbrev pub duration_list : Option Settings
duration_list = settings (4 ∷ 0 ∷ 0 ∷ 0 ∷ 0 ∷ 1 ∷ [])

not-zero : (n : ℕ) → 0 < n → eqb n 0 ≡ false
not-zero n h = ne_eqb n 0 (λ z. omega arith)

-- The pairs of a list with a date give its settings.
pub date-list : (f : DateForm) (y : YearSetting) → completed (add_pairs (settings none_yet) (date_pairs f y)) ≡ date_list f y
unfolding completed complete dated_list timed_list interval_list add_pairs add_pair
date-list f y =
    let d = date_setting f in
    let v = year_setting y in
    rw (basic_pairs.0, d.word, v.word, not-zero _ d.some, not-zero _ v.some)

-- The pairs of a list with a time give its settings.
pub time-list : (t : TimeForm) → t.digits ≤ 9 → completed (add_pairs (settings none_yet) (time_pairs t)) ≡ time_list t
unfolding completed complete dated_list timed_list interval_list add_pairs add_pair
time-list t k =
    let s : 0 < time_code t.clock t.digits = omega (arith, (clock_setting t.clock).some) in
    let z = zone_setting t.zone in
    rw (basic_pairs.1, time-word t.clock t.digits k, z.word, not-zero _ s, not-zero _ z.some)

-- The pairs of a list with a date and a time give its settings.
pub date-time-list : (f : DateForm) (t : TimeForm) → t.digits ≤ 9 → (y : YearSetting) →
    completed (add_pairs (settings none_yet) (date_time_pairs f t y)) ≡ date_time_list f t y
unfolding completed complete dated_list timed_list interval_list add_pairs add_pair
date-time-list f t k y =
    let d = date_setting f in
    let v = year_setting y in
    let s : 0 < time_code t.clock t.digits = omega (arith, (clock_setting t.clock).some) in
    let z = zone_setting t.zone in
    rw (
      basic_pairs.2,
      d.word,
      v.word,
      time-word t.clock t.digits k,
      z.word,
      not-zero _ d.some,
      not-zero _ v.some,
      not-zero _ s,
      not-zero _ z.some,
    )

-- The pairs of a list of durations give its settings.
pub duration-list : completed (add_pairs (settings none_yet) duration_pairs) ≡ duration_list
unfolding completed complete dated_list timed_list interval_list add_pairs add_pair
duration-list = rw (basic_pairs.3, interval_pair)

-- ---- A list's text, its pairs in any order.

-- A word has no space, no bar, and an equals sign.
unfoldable pub is_word : List ℕ → Bool
is_word w = lacks 32 w && (lacks 124 w && not (lacks 61 w))

-- Every pair of Basic is a word.
pub basic-words :
    (is_word (bytes "Basic=Date") ≡ true)
    × (is_word (bytes "Basic=Time") ≡ true)
    × (is_word (bytes "Basic=Date-Time") ≡ true)
    × (is_word (bytes "Basic=Interval") ≡ true)
unfolding is_word lacks
basic-words = (refl, refl, refl, refl)

-- The pair of Interval-type is a word.
pub interval_is_word : is_word (bytes "Interval-type=D") ≡ true
unfolding is_word lacks
interval_is_word = refl

-- Every pair of Date is a word.
pub date_is_word : (f : DateForm) → is_word (date_word f) ≡ true
unfolding is_word lacks
date_is_word DateForm.Y = refl
date_is_word DateForm.YM = refl
date_is_word DateForm.YMD = refl
date_is_word DateForm.YD = refl
date_is_word DateForm.YW = refl
date_is_word DateForm.YWD = refl

-- Every pair of Year is a word.
pub year_is_word : (y : YearSetting) → is_word (bytes (year_word y)) ≡ true
unfolding is_word lacks
year_is_word YearSetting.Basic = refl
year_is_word YearSetting.Proleptic = refl
year_is_word YearSetting.Negative = refl
year_is_word YearSetting.L5 = refl
year_is_word YearSetting.L6 = refl
year_is_word YearSetting.L7 = refl
year_is_word YearSetting.L8 = refl
year_is_word YearSetting.L9 = refl

-- Every pair of Local-or-UTC is a word.
pub zone_is_word : (z : ZoneForm) → is_word (zone_word z) ≡ true
unfolding is_word lacks
zone_is_word ZoneForm.L = refl
zone_is_word ZoneForm.Z = refl
zone_is_word ZoneForm.LD = refl

-- Every pair of Time is a word.
pub time_is_word : (c : ClockForm) (n : ℕ) → n ≤ 9 → is_word (time_word c n) ≡ true
unfolding is_word lacks
time_is_word c n k = go c (eqb n 0) where
  go : (c : ClockForm) (t : Bool) → is_word (cond t (clock_word c) (clock_word c ++ bytes "F" ++ (48 + n) ∷ [])) ≡ true
  go ClockForm.H true = refl
  go ClockForm.HM true = refl
  go ClockForm.HMS true = refl
  go ClockForm.H false = rw (ne_eqb (48 + n) 32 (λ z. omega arith), ne_eqb (48 + n) 124 (λ z. omega arith))
  go ClockForm.HM false = rw (ne_eqb (48 + n) 32 (λ z. omega arith), ne_eqb (48 + n) 124 (λ z. omega arith))
  go ClockForm.HMS false = rw (ne_eqb (48 + n) 32 (λ z. omega arith), ne_eqb (48 + n) 124 (λ z. omega arith))

-- The text of a list: it is read as the list, has no bar, and has an equals sign.
pub record ListText (ws : List (List ℕ)) (s : Option Settings) : Type 0 where
  pub reads : list_of (join_with 32 ws) ≡ s
  pub bar : lacks 124 (join_with 32 ws) ≡ true
  pub equals : lacks 61 (join_with 32 ws) ≡ false

module _ (vs : List (List ℕ)) (s : Option Settings) (some : 0 < length vs) (words : all_of is_word vs ≡ true) (read : completed (add_pairs (settings none_yet) vs) ≡ s)
  where
    word_parts : (w : List ℕ) → is_word w ≡ true → (lacks 32 w ≡ true) × (lacks 124 w ≡ true) × (lacks 61 w ≡ false)
    unfolding is_word
    word_parts w e =
        let p : (lacks 32 w ≡ true) × (lacks 124 w && not (lacks 61 w) ≡ true) = (and-eq-true_iff _ _).0 e in
        let q : (lacks 124 w ≡ true) × (not (lacks 61 w) ≡ true) = (and-eq-true_iff _ _).0 p.1 in
        (p.0, q.0, not-true _ q.1)

    -- Pairs in any order are the text of their list.
    pub list_text : (ws : List (List ℕ)) → Permᴰ ws vs → ListText ws s
    unfolding list_of all_of
    list_text [] d = absurd (omega (arith, length-perm d))
    list_text (w ∷ ws) d =
        let e : all_of is_word (w ∷ ws) ≡ true = all_perm is_word d ∙ words in
        let f : (is_word w ≡ true) × (all_of is_word ws ≡ true) = (and-eq-true_iff _ _).0 e in
        record {
          reads =
              rw (split_join 32 w ws refl (all_weaken is_word (lacks 32) (λ x h. (word_parts x h).0) (w ∷ ws) e), pairs_perm (settings none_yet) refl d)
              read;
          bar = lacks_join 124 32 (w ∷ ws) refl (all_weaken is_word (lacks 124) (λ x h. (word_parts x h).1) (w ∷ ws) e);
          equals = has_join 61 32 w ws (word_parts w f.0).2;
        }

-- ---- A type's text is no name, and each of its lists is read.

-- Lists in another order, the pairs of each arranged as they were.
arranged_perm : {us vs wss : List (List (List ℕ))} → Permᴰ us vs → Arranged wss us →
    (xss : List (List (List ℕ))) × (Arranged xss vs) × (Permᴰ wss xss)
arranged_perm mathlib.Core.List.Permᴰ.nil end = ([], end, mathlib.Core.List.Permᴰ.nil)
arranged_perm (mathlib.Core.List.Permᴰ.cons e d) (more {ws = w} p r) =
    let i = arranged_perm d r in (w ∷ i.0, more (subst (λ (v : List (List ℕ)). Permᴰ w v) e p) i.1, mathlib.Core.List.Permᴰ.cons refl i.2)
arranged_perm (mathlib.Core.List.Permᴰ.swap e g) (more {ws = w} p (more {ws = v} {wss = wss} q r)) = (
  v ∷ w ∷ wss,
  more (subst (λ (u : List (List ℕ)). Permᴰ v u) g q) (more (subst (λ (u : List (List ℕ)). Permᴰ w u) e p) r),
  mathlib.Core.List.Permᴰ.swap refl refl,
)
arranged_perm (mathlib.Core.List.Permᴰ.trans d e) a =
    let i = arranged_perm d a in let j = arranged_perm e i.1 in (j.0, j.1, mathlib.Core.List.Permᴰ.trans i.2 j.2)

length_arranged : {wss vss : List (List (List ℕ))} → Arranged wss vss → length wss ≡ length vss
length_arranged end = refl
length_arranged (more d r) = ap suc (length_arranged r)

-- A text of lists without a bar in any of them, and with an equals sign in each, is these lists.
some_lists : (limits : Limits) (wss : List (List (List ℕ))) → 0 < length wss → all_of (lacks 124) (map (join_with 32) wss) ≡ true
    → all_of (λ p. not (lacks 61 p)) (map (join_with 32) wss) ≡ true → type_of limits (type_text wss) ≡ joined limits (map list_of (map (join_with 32) wss))
unfolding type_text lists_of all_of lacks
some_lists limits [] h b q = absurd (omega arith)
some_lists limits (ws ∷ wss) h b q =
    let n = not-true (lacks 61 (join_with 32 ws)) ((and-eq-true_iff _ _).0 q).0 in
    let e : lacks 61 (join_with 124 (join_with 32 ws ∷ map (join_with 32) wss)) ≡ false = has_join 61 124 (join_with 32 ws) (map (join_with 32) wss) n in
    no_name limits 61 _ refl e ∙ rw (split_join 124 (join_with 32 ws) (map (join_with 32) wss) refl b)

module _ (f : YearSetting → List (List ℕ)) (g : YearSetting → Option Settings) (k : (y : YearSetting) (ws : List (List ℕ)) → Permᴰ ws (f y) → ListText ws (g y))
  where
    lists_read : (ys : List YearSetting) {wss : List (List (List ℕ))} → Arranged wss (map f ys) →
        map list_of (map (join_with 32) wss) ≡ map g ys
    lists_read [] end = refl
    lists_read (y ∷ ys) (more d r) = rw ((k y _ d).reads, lists_read ys r)

    no_bars : (ys : List YearSetting) {wss : List (List (List ℕ))} → Arranged wss (map f ys) →
        all_of (lacks 124) (map (join_with 32) wss) ≡ true
    unfolding all_of
    no_bars [] end = refl
    no_bars (y ∷ ys) (more d r) = rw ((k y _ d).bar, no_bars ys r)

    have_equals : (ys : List YearSetting) {wss : List (List (List ℕ))} → Arranged wss (map f ys) →
        all_of (λ p. not (lacks 61 p)) (map (join_with 32) wss) ≡ true
    unfolding all_of
    have_equals [] end = refl
    have_equals (y ∷ ys) (more d r) = rw ((k y _ d).equals, have_equals ys r)

    -- The lists of a text, in any order, are read and joined.
    pub text-read : (limits : Limits) (y : YearSetting) (ys : List YearSetting) {wss : List (List (List ℕ))} →
        InAnyOrder wss (map f (y ∷ ys)) →
        type_of limits (type_text wss) ≡ joined limits (map g (y ∷ ys))
    text-read limits y ys {wss} o =
        let x = arranged_perm o.of_lists o.of_pairs in
        let d : Permᴰ (map (join_with 32) wss) (map (join_with 32) x.0) = perm-map (join_with 32) x.2 in
        some_lists limits wss (omega (arith, length-perm o.of_lists, length_arranged o.of_pairs))
        (all_perm (lacks 124) d ∙ no_bars (y ∷ ys) x.1) (all_perm (λ p. not (lacks 61 p)) d ∙ have_equals (y ∷ ys) x.1)
        ∙ joined-perm limits (perm-map list_of d) ∙ ap (joined limits) (lists_read (y ∷ ys) x.1)

-- ---- The lists of a type make the type.

-- A list by its numbers, the Year's last.
abbrev pub list_at : (b d t z i y : ℕ) → Option Settings
list_at b d t z i y = settings (b ∷ d ∷ y ∷ t ∷ z ∷ i ∷ [])

-- Whether limits have their place in a list with this Basic.
abbrev placed_at : Limits → ℕ → Bool
placed_at limits b = placed limits (eqb b 1 || eqb b 3) (eqb b 2 || eqb b 3)

abbrev where_so : Bool → TypeRead → TypeRead
where_so k r = cond k r TypeRead.Unreadable

self : (n : ℕ) → eqb n n ≡ true
self n = eq-eqb n n refl

-- ---- Lists that differ in Year alone.

module _ (limits : Limits) (b d t z i : ℕ) where
  abbrev at : ℕ → Option Settings
  at y = list_at b d t z i y

  equal_years : (y x : ℕ) → equal_lists (at y) (at x) ≡ eqb y x
  unfolding equal_lists same_but_year
  equal_years y x = rw (self b, self d, self t, self z, self i)

  same_row_lem : (y x : ℕ) → row_of_year (year_setting_at y) ≡ row_of_year (year_setting_at x) → one_row (at y) (at x) ≡ true
  unfolding one_row same_but_year
  same_row_lem y x e = rw (self b, self d, self t, self z, self i, eq-eqb (row_number (row_of_year (year_setting_at y))) _ (ap row_number e))

  not_among : (y : ℕ) (ys : List ℕ) → all_of (λ s. not (equal_lists (at y) s)) (map at ys) ≡ not (member y ys)
  unfolding all_of member
  not_among y [] = refl
  not_among y (x ∷ ys) = rw (equal_years y x, eqb_turn y x, not_among y ys) (neither (eqb x y) (member y ys))
    where
      neither : (p q : Bool) → not p && not q ≡ not (p || q)
      neither true q = refl
      neither false q = refl

  -- Lists differ where their Years do, ..
  pub lists_apart : (ys : List ℕ) → distinct (map at ys) ≡ apart ys
  unfolding distinct apart
  lists_apart [] = refl
  lists_apart (y ∷ ys) = ap₂ (λ (p q : Bool). p && q) (not_among y ys) (lists_apart ys)

  -- .. are of one row where their Years are, ..
  lists-row : (y : ℕ) (r : YearRow) (ys : List ℕ) → row_of_year (year_setting_at y) ≡ r → all_of (λ x. eqb (row_number (row_of_year (year_setting_at x)))
      (row_number r)) ys ≡ true
      → all_of (one_row (at y)) (map at ys) ≡ true
  unfolding all_of
  lists-row y r [] e h = refl
  lists-row y r (x ∷ ys) e h =
      let p = (and-eq-true_iff (eqb (row_number (row_of_year (year_setting_at x))) (row_number r)) _).0 h in
      let q : row_of_year (year_setting_at y) ≡ row_of_year (year_setting_at x) = e ∙ sym (one_number _ _ (eqb-true _ _ p.0)) in
      rw (same_row_lem y x q, lists-row y r ys e p.1)

  -- .. are usable where the limits have their place, ..
  lists-usable : (k : Bool) → placed_at limits b ≡ k → (ys : List ℕ) → 0 < length ys → all_of (usable limits) (map at ys) ≡ k
  unfolding all_of usable dated_list timed_list
  lists-usable k e [] h = absurd (omega arith)
  lists-usable true e (y ∷ ys) h = rw e (all-of ys)
    where
      all-of : (ys : List ℕ) → all_of (usable limits) (map at ys) ≡ true
      all-of [] = refl
      all-of (x ∷ ys) = rw e (all-of ys)
  lists-usable false e (y ∷ ys) h = rw e

  -- .. and have their Years.
  lists_years : (ys : List ℕ) → map year_in (map at ys) ≡ ys
  lists_years [] = refl
  lists_years (y ∷ ys) = ap (λ (l : List ℕ). y ∷ l) (lists_years ys)

  -- Up to six Years of one row, none twice: their lists make a type.
  lists-joined : (k : Bool) → placed_at limits b ≡ k → (y : ℕ) (ys : List ℕ) → length (y ∷ ys) ≤ most_lists → apart (y ∷ ys) ≡ true
      → (r : YearRow) → all_of (λ x. eqb (row_number (row_of_year (year_setting_at x))) (row_number r)) (y ∷ ys) ≡ true
      → joined limits (map at (y ∷ ys)) ≡ where_so k (limited_to limits (list_type (at y) (years_of (row_of_year (year_setting_at y)) (y ∷ ys))))
  unfolding joined all_of
  lists-joined k e y ys l a r h =
      let n : length (map at (y ∷ ys)) ≡ suc (length ys) = length-map (y ∷ ys) at in
      let m : leb (length (map at (y ∷ ys))) most_lists ≡ true = le-leb (length (map at (y ∷ ys))) most_lists (omega arith) in
      let p = (and-eq-true_iff (eqb (row_number (row_of_year (year_setting_at y))) (row_number r)) _).0 h in
      let w = lists-row y r ys (one_number _ _ (eqb-true _ _ p.0)) p.1 in
      rw (m, lists-usable k e (y ∷ ys) (omega arith), lists_apart (y ∷ ys) ∙ a, w, lists_years (y ∷ ys)) (go k)
    where
      go : (k : Bool) → cond (k && true) (limited_to limits (list_type (at y) (years_of (row_of_year (year_setting_at y)) (y ∷ ys)))) TypeRead.Unreadable
          ≡ where_so k (limited_to limits (list_type (at y) (years_of (row_of_year (year_setting_at y)) (y ∷ ys))))
      go true = refl
      go false = refl

-- ---- The Years that a type names.

-- The numbers of the Years that a type names.
abbrev pub numbers_of : Years → List ℕ
numbers_of years = map year_number (named_years years)

-- The numbers of all Years.
abbrev pub all_numbers : List ℕ
all_numbers = map year_number year_settings

-- Whether the Year with a number is one that a type names.
abbrev names_number : Years → ℕ → Bool
names_number years n = names years (year_setting_at n)

numbers-kept : (years : Years) → numbers_of years ≡ keep (names_number years) all_numbers
numbers-kept years = kept_map year_number (names years) (names_number years) (λ y. rw (year_back y)) year_settings

few-numbers : (years : Years) → length (numbers_of years) ≤ most_lists
unfolding keep
few-numbers (Years.Plain y) = rw (length-map (named_years (Years.Plain y)) year_number) (omega (arith, few y.basic y.proleptic))
  where
    few : (a b : Bool) → length (keep (names (Years.Plain (record { basic = a; proleptic = b }))) year_settings) ≤ 2
    few true true = omega arith
    few true false = omega arith
    few false true = omega arith
    few false false = omega arith
few-numbers (Years.Signed y) =
    rw (length-map (named_years (Years.Signed y)) year_number) (kept-length (names (Years.Signed y)) (drop 2 year_settings))

numbers_apart : (years : Years) → apart (numbers_of years) ≡ true
unfolding apart member
numbers_apart years = rw (numbers-kept years) (kept_apart (names_number years) all_numbers refl)

numbers-row : (years : Years) → all_of (λ x. eqb (row_number (row_of_year (year_setting_at x))) (row_number (years_row years))) (numbers_of years) ≡ true
numbers-row years =
    rw (numbers-kept years)
    (kept_all (names_number years) _ (λ n h. eq-eqb _ _ (ap row_number (named_row years (year_setting_at n) h))) all_numbers)

alone : (k : Bool) → (k && true) || false ≡ k
alone true = refl
alone false = refl

never : (k : Bool) → k && false ≡ false
never true = refl
never false = refl

-- A Year is among those that a type names where the type names it.
named_member : (years : Years) (y : YearSetting) → member (year_number y) (numbers_of years) ≡ names years y
unfolding member keep year_setting_at
named_member years y = rw (numbers-kept years) (go y)
  where
    go : (y : YearSetting) → member (year_number y) (keep (names_number years) all_numbers) ≡ names years y
    go YearSetting.Basic = simp (member-kept, never, alone)
    go YearSetting.Proleptic = simp (member-kept, never, alone)
    go YearSetting.Negative = simp (member-kept, never, alone)
    go YearSetting.L5 = simp (member-kept, never, alone)
    go YearSetting.L6 = simp (member-kept, never, alone)
    go YearSetting.L7 = simp (member-kept, never, alone)
    go YearSetting.L8 = simp (member-kept, never, alone)
    go YearSetting.L9 = simp (member-kept, never, alone)

-- The Years that are named are those that are read.
years_back : (years : Years) → years_of (years_row years) (numbers_of years) ≡ years
unfolding years_of
years_back (Years.Plain y) = rw (named_member (Years.Plain y) YearSetting.Basic, named_member (Years.Plain y) YearSetting.Proleptic)
years_back (Years.Signed y) =
    rw (
      named_member (Years.Signed y) YearSetting.Negative,
      named_member (Years.Signed y) YearSetting.L5,
      named_member (Years.Signed y) YearSetting.L6,
      named_member (Years.Signed y) YearSetting.L7,
      named_member (Years.Signed y) YearSetting.L8,
      named_member (Years.Signed y) YearSetting.L9,
    )

-- A type with a date names a Year.
pub some_named : (years : Years) → some_year years ≡ true → (y : YearSetting) × (ys : List YearSetting) × (named_years years ≡ y ∷ ys)
unfolding member
some_named years h = go (named_years years) refl
  where
    s : (y : YearSetting) × (names years y ≡ true)
    s = named_some years h

    go : (l : List YearSetting) → named_years years ≡ l → (y : YearSetting) × (ys : List YearSetting) × (named_years years ≡ y ∷ ys)
    go [] e =
        absurd (false≢true (ap (λ (l : List YearSetting). member (year_number s.0) (map year_number l)) (sym e) ∙ named_member years s.0 ∙ s.1))
    go (y ∷ ys) e = (y, ys, e)

module _ (limits : Limits) (b d t z : ℕ) (k : Bool) (e : placed_at limits b ≡ k) (years : Years) (h : some_year years ≡ true) where
  abbrev list_of_year : YearSetting → Option Settings
  list_of_year y = list_at b d t z 0 (year_number y)

  numbers-first : (y : YearSetting) × (ys : List YearSetting) × (named_years years ≡ y ∷ ys)
  numbers-first = some_named years h

  -- The lists of a type's Years make the type of the first of them with all these Years.
  years_joined : (y : YearSetting) (ys : List YearSetting) → named_years years ≡ y ∷ ys → (row_of_year (year_setting_at (year_number y)) ≡ years_row years)
      × (joined limits (map list_of_year (named_years years))
      ≡ where_so k (limited_to limits (list_type (list_at b d t z 0 (year_number y)) (years_of (row_of_year (year_setting_at (year_number y))) (numbers_of years)))))
  unfolding all_of
  years_joined y ys n =
      let r : all_of (λ x. eqb (row_number (row_of_year (year_setting_at x))) (row_number (years_row years))) (year_number y ∷ map year_number ys) ≡ true =
      rw n at (numbers-row years) in
      let l : length (year_number y ∷ map year_number ys) ≤ most_lists = rw n at (few-numbers years) in
      let a : apart (year_number y ∷ map year_number ys) ≡ true = rw n at (numbers_apart years) in
      let p = (and-eq-true_iff (eqb (row_number (row_of_year (year_setting_at (year_number y)))) (row_number (years_row years))) _).0 r in (
        one_number _ _ (eqb-true _ _ p.0),
        rw (n, fused (y ∷ ys)) (lists-joined limits b d t z 0 k e (year_number y) (map year_number ys) l a (years_row years) r),
      )
    where
      fused : (l : List YearSetting) → map list_of_year l ≡ map (list_at b d t z 0) (map year_number l)
      fused [] = refl
      fused (x ∷ l) = ap (λ (r : List (Option Settings)). list_of_year x ∷ r) (fused l)

one-joined : (limits : Limits) (b d t z i : ℕ) (k : Bool) → placed_at limits b ≡ k →
    joined limits (list_at b d t z i 0 ∷ []) ≡ where_so k (limited_to limits (list_type (list_at b d t z i 0) (years_of (row_of_year (year_setting_at 0)) (0 ∷ []))))
unfolding joined all_of usable distinct dated_list timed_list list_type point_type
one-joined limits b d t z i true e = rw e
one-joined limits b d t z i false e = rw e

abbrev unlimited : Parts → Parts
unlimited (Parts.Date d) = Parts.Date (unlimited_date d.form d.years)
unlimited (Parts.Time t) = Parts.Time (unlimited_time t.form)
unlimited (Parts.DateTime d t) = Parts.DateTime (unlimited_date d.form d.years) (unlimited_time t.form)

twice : (k : Bool) (r : TypeRead) → where_so k (where_so k r) ≡ where_so k r
twice true r = refl
twice false r = refl

-- Limits take the place of those that a type had, and may be tested twice.
limited_again : (limits : Limits) (p : Parts) →
    where_so (placed limits (has_date p) (has_time p)) (limited_to limits (AnyType.Point (listed (unlimited p))))
    ≡ limited_to limits (AnyType.Point (listed p))
unfolding limited_to
limited_again limits (Parts.Date d) = twice (placed limits true false) _
limited_again limits (Parts.Time t) = twice (placed limits false true) _
limited_again limits (Parts.DateTime d t) = twice (placed limits true true) _

module _ (limits : Limits) where
  -- The lists of a type of dates make that type.
  pub date_joined : (d : DateType) → some_year d.years ≡ true →
      joined limits (map (date_list d.form) (named_years d.years)) ≡ limited_to limits (AnyType.Point (listed (Parts.Date d)))
  unfolding list_type point_type dated_list timed_list
  date_joined d h =
      let n = some_named d.years h in
      let p = years_joined limits 1 (date_number d.form) 0 0 _ refl d.years h n.0 n.1 n.2 in
      p.1 ∙ rw ((date_setting d.form).back, p.0, years_back d.years) (limited_again limits (Parts.Date d))

  -- The list of a type of times makes that type.
  pub time_joined : (t : TimeType) → joined limits (time_list t.form ∷ []) ≡ limited_to limits (AnyType.Point (listed (Parts.Time t)))
  unfolding list_type point_type dated_list timed_list
  time_joined t =
      one-joined limits 2 0 (time_code t.form.clock t.form.digits) (zone_number t.form.zone) 0 _ refl
      ∙ rw (time_back t.form) (limited_again limits (Parts.Time t))

  -- The lists of a type of dates with times make that type.
  pub date_time_joined : (d : DateType) (t : TimeType) → some_year d.years ≡ true →
      joined limits (map (date_time_list d.form t.form) (named_years d.years)) ≡ limited_to limits (AnyType.Point (listed (Parts.DateTime d t)))
  unfolding list_type point_type dated_list timed_list
  date_time_joined d t h =
      let n = some_named d.years h in
      let p = years_joined limits 3 (date_number d.form) (time_code t.form.clock t.form.digits) (zone_number t.form.zone) _ refl d.years h
      n.0 n.1 n.2 in
      p.1 ∙ rw ((date_setting d.form).back, p.0, years_back d.years, time_back t.form) (limited_again limits (Parts.DateTime d t))

  -- The list of durations makes its type.
  pub duration-joined : joined limits (duration_list ∷ []) ≡ limited_to limits AnyType.ListedDuration
  unfolding list_type point_type dated_list timed_list limited_to
  duration-joined = one-joined limits 4 0 0 0 1 _ refl ∙ twice (placed limits false false) _
