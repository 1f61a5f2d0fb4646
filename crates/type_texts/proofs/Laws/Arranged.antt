-- The converse of completeness: a list that can be read is the pairs of its settings, each once, in some order, and nothing else.
use Rattle.std.specs.Prelude.{Option, Some, None}
use Rattle.std.specs.Option.{is_some}
use Rattle.lists.specs.Lists.{numbers_in}
use mathlib.Core.Path.{◌≡◌, refl, ap, sym, ◌∙◌, subst}
use mathlib.Core.List.{List, [], ◌∷◌, ◌++◌, Permᴰ}
use mathlib.Core.Bool.{Bool, true, false, ◌&&◌, not, cond, and-eq-true_iff, false≢true}
use Prim.Native.Nat.{ℕ, zero, suc, ◌+◌, ◌<◌, ◌≤◌}
use native.Mathlib.Omega.{arith}
use lib.Dec.{eqb}
use lib.ListN.{length, get_or, set}
use borrow.Author.Tests.{eqb-true}
use Rattle.octets.specs.Octets.{bytes}
use Rattle.octets.specs.Pieces.{split_on}
use Rattle.lists.specs.Words.{pair, pair_of}
use Rattle.lists.specs.Lists.{settings, none_yet, refused_list, add_pair, add_pairs, dated_list, timed_list, interval_list, present_if, complete}
use Rattle.lists.specs.Lists.{completed, list_of}
use Rattle.lists.specs.declared.words.Pair.{Pair}
use Rattle.lists.specs.declared.lists.Settings.{Settings}
use Rattle.lists.proofs.Laws.Lists.{six_properties, some_setting}
use Rattle.lists.proofs.Laws.Order.{add-length}
use Rattle.texts.specs.declared.forms.DateForm.{DateForm}
use Rattle.texts.specs.declared.forms.ClockForm.{ClockForm}
use Rattle.texts.specs.declared.forms.TimeForm.{TimeForm}
use Rattle.texts.specs.declared.forms.ZoneForm.{ZoneForm}
use Rattle.types.specs.Numbers.{date_number, zone_number}
use Rattle.types.specs.Years.{year_number, year_word}
use Rattle.types.specs.declared.years.YearSetting.{YearSetting}
use Rattle.type_texts.specs.Written.{date_word, time_word, zone_word, date_pairs, time_pairs, date_time_pairs, duration_pairs}
use Rattle.type_texts.proofs.Laws.Written.{time_code, date_list, time_list, date_time_list, duration_list}
use Rattle.type_texts.proofs.Laws.Tests.{five_hold}
use Rattle.type_texts.proofs.Laws.Words.{SettingWord, basic_date, basic_time, basic_date_time, basic_interval, date, year, time, zone, interval}
use Rattle.type_texts.proofs.Laws.Words.{setting_spelled, pairs_read}

-- The pieces of a list and its settings: those of a date, of a time, of both, or of durations.
pub data ListOf (ws : List (List ℕ)) (s : Option Settings) : Type 0 where
  a_date : (f : DateForm) (y : YearSetting) → Permᴰ ws (date_pairs f y) → s ≡ date_list f y → ListOf ws s
  a_time : (t : TimeForm) → t.digits ≤ 9 → Permᴰ ws (time_pairs t) → s ≡ time_list t → ListOf ws s
  a_date_time : (f : DateForm) (t : TimeForm) (y : YearSetting) → t.digits ≤ 9 → Permᴰ ws (date_time_pairs f t y) → s ≡ date_time_list f t y → ListOf ws s
  a_duration : Permᴰ ws duration_pairs → s ≡ duration_list → ListOf ws s

-- ---- the words of numbers, from the property k on

data Shown : ℕ → List ℕ → List (List ℕ) → Type 0 where
  end : (k : ℕ) → Shown k [] []
  lacks : {k : ℕ} {ns : List ℕ} {ws : List (List ℕ)} → Shown (suc k) ns ws → Shown k (0 ∷ ns) ws
  has : {k n : ℕ} {w : List ℕ} {ns : List ℕ} {ws : List (List ℕ)} → 0 < n → SettingWord w (pair k n) → Shown (suc k) ns ws → Shown k (n ∷ ns) (w ∷ ws)

-- One setting more, where there was none.
record More (k : ℕ) (ns : List ℕ) (us : List (List ℕ)) : Type 0 where
  words : List (List ℕ)
  shown : Shown k ns words
  perm : Permᴰ us words

put : (p k : ℕ) (ns : List ℕ) (us : List (List ℕ)) (w : List ℕ) (n q : ℕ) → q ≡ k + p → 0 < n → p < length ns → get_or ns p 0 ≡ 0 → SettingWord w (pair q n)
    → Shown k ns us → More k (set ns p n) (w ∷ us)
put p k ns us w n q e h l g x (end j) = absurd (omega arith)
put zero k ns us w n q e h l g x (lacks {ns = ms} {ws = vs} r) =
    let z : q ≡ k = omega arith in
    record { words = w ∷ us; shown = has h (subst (λ (i : ℕ). SettingWord w (pair i n)) z x) r; perm = mathlib.Core.List.Permᴰ.refl (w ∷ us) }
put zero k ns us w n q e h l g x (has i y r) = absurd (omega arith)
put (suc p) k ns us w n q e h l g x (lacks {ns = ms} {ws = vs} r) =
    let m = put p (suc k) ms vs w n q (omega arith) h (omega arith) g x r in
    record { words = m.words; shown = lacks m.shown; perm = m.perm }
put (suc p) k ns us w n q e h l g x (has {w = u} {ns = ms} {ws = vs} i y r) =
    let m = put p (suc k) ms vs w n q (omega arith) h (omega arith) g x r in
    record { words = u ∷ m.words; shown = has i y m.shown; perm = mathlib.Core.List.Permᴰ.trans (mathlib.Core.List.Permᴰ.swap refl refl) (mathlib.Core.List.Permᴰ.cons refl m.perm) }

-- ---- pairs that are added

record Added (s : Option Settings) (q : Option Pair) : Type 0 where
  one : Pair
  one-is : q ≡ Some one
  fresh : get_or (numbers_in s) one.property 0 ≡ 0
  numbers_are : numbers_in (add_pair s q) ≡ set (numbers_in s) one.property one.setting

added : (s : Option Settings) (q : Option Pair) → is_some (add_pair s q) ≡ true → Added s q
unfolding add_pair
added None q h = absurd (false≢true h)
added (Some s) None h = absurd (false≢true h)
added (Some s) (Some p) h = go (eqb (get_or s.numbers p.property 0) 0) refl h
  where
    go : (c : Bool) → eqb (get_or s.numbers p.property 0) 0 ≡ c → is_some (cond c (settings (set s.numbers p.property p.setting)) refused_list) ≡ true
        → Added (Some s) (Some p)
    go true g h = record { one = p; one-is = refl; fresh = eqb-true _ 0 g; numbers_are = rw g }
    go false g h = absurd (false≢true h)

pairs_shown : (s : Option Settings) (ws us : List (List ℕ)) → length (numbers_in s) ≡ 6 → Shown 0 (numbers_in s) us → is_some (add_pairs s ws) ≡ true
    → More 0 (numbers_in (add_pairs s ws)) (ws ++ us)
unfolding add_pairs
pairs_shown s [] us l r h = record { words = us; shown = r; perm = mathlib.Core.List.Permᴰ.refl us }
pairs_shown s (w ∷ ws) us l r h =
    let a = added s (pair_of w) (pairs_read (add_pair s (pair_of w)) ws h) in
    let p = a.one in
    let six : p.property < 6 = six_properties w p a.one-is in
    let m = put p.property 0 (numbers_in s) us w p.setting p.property (omega arith) (some_setting w p a.one-is) (omega arith) a.fresh
    (setting_spelled w p a.one-is) r in
    let k : length (numbers_in (add_pair s (pair_of w))) ≡ 6 = add-length s (pair_of w) l in
    let i = pairs_shown (add_pair s (pair_of w)) ws m.words k (subst (λ (ns : List ℕ). Shown 0 ns m.words) (sym a.numbers_are) m.shown) h in
    record {
      words = i.words;
      shown = i.shown;
      perm = mathlib.Core.List.Permᴰ.trans (mathlib.Core.List.Permᴰ.symm (mathlib.Core.List.Permᴰ.middle w ws us)) (mathlib.Core.List.Permᴰ.trans (mathlib.Core.List.Permᴰ.append_left ws m.perm) i.perm);
    }

pairs_length : (s : Option Settings) (ws : List (List ℕ)) → length (numbers_in s) ≡ 6 → length (numbers_in (add_pairs s ws)) ≡ 6
unfolding add_pairs
pairs_length s [] l = l
pairs_length s (w ∷ ws) l = pairs_length (add_pair s (pair_of w)) ws (add-length s (pair_of w) l)

-- ---- the words of each property

data BasicIs : List ℕ → ℕ → Type 0 where
  one : BasicIs (bytes "Basic=Date") 1
  two : BasicIs (bytes "Basic=Time") 2
  three : BasicIs (bytes "Basic=Date-Time") 3
  four : BasicIs (bytes "Basic=Interval") 4

basic_is : (w : List ℕ) (q : Pair) → SettingWord w q → q.property ≡ 0 → BasicIs w q.setting
basic_is w q basic_date e = one
basic_is w q basic_time e = two
basic_is w q basic_date_time e = three
basic_is w q basic_interval e = four
basic_is w q (date f) e = absurd (omega arith)
basic_is w q (year y) e = absurd (omega arith)
basic_is w q (time c n h) e = absurd (omega arith)
basic_is w q (zone z) e = absurd (omega arith)
basic_is w q interval e = absurd (omega arith)

data DateIs : List ℕ → ℕ → Type 0 where
  date-of : (f : DateForm) → DateIs (date_word f) (date_number f)

date_is : (w : List ℕ) (q : Pair) → SettingWord w q → q.property ≡ 1 → DateIs w q.setting
date_is w q basic_date e = absurd (omega arith)
date_is w q basic_time e = absurd (omega arith)
date_is w q basic_date_time e = absurd (omega arith)
date_is w q basic_interval e = absurd (omega arith)
date_is w q (date f) e = date-of f
date_is w q (year y) e = absurd (omega arith)
date_is w q (time c n h) e = absurd (omega arith)
date_is w q (zone z) e = absurd (omega arith)
date_is w q interval e = absurd (omega arith)

data YearIs : List ℕ → ℕ → Type 0 where
  year-of : (y : YearSetting) → YearIs (bytes (year_word y)) (year_number y)

year_is : (w : List ℕ) (q : Pair) → SettingWord w q → q.property ≡ 2 → YearIs w q.setting
year_is w q basic_date e = absurd (omega arith)
year_is w q basic_time e = absurd (omega arith)
year_is w q basic_date_time e = absurd (omega arith)
year_is w q basic_interval e = absurd (omega arith)
year_is w q (date f) e = absurd (omega arith)
year_is w q (year y) e = year-of y
year_is w q (time c n h) e = absurd (omega arith)
year_is w q (zone z) e = absurd (omega arith)
year_is w q interval e = absurd (omega arith)

data TimeIs : List ℕ → ℕ → Type 0 where
  time_of : (c : ClockForm) (n : ℕ) → n ≤ 9 → TimeIs (time_word c n) (time_code c n)

time_is : (w : List ℕ) (q : Pair) → SettingWord w q → q.property ≡ 3 → TimeIs w q.setting
time_is w q basic_date e = absurd (omega arith)
time_is w q basic_time e = absurd (omega arith)
time_is w q basic_date_time e = absurd (omega arith)
time_is w q basic_interval e = absurd (omega arith)
time_is w q (date f) e = absurd (omega arith)
time_is w q (year y) e = absurd (omega arith)
time_is w q (time c n h) e = time_of c n h
time_is w q (zone z) e = absurd (omega arith)
time_is w q interval e = absurd (omega arith)

data ZoneIs : List ℕ → ℕ → Type 0 where
  zone_of : (z : ZoneForm) → ZoneIs (zone_word z) (zone_number z)

zone_is : (w : List ℕ) (q : Pair) → SettingWord w q → q.property ≡ 4 → ZoneIs w q.setting
zone_is w q basic_date e = absurd (omega arith)
zone_is w q basic_time e = absurd (omega arith)
zone_is w q basic_date_time e = absurd (omega arith)
zone_is w q basic_interval e = absurd (omega arith)
zone_is w q (date f) e = absurd (omega arith)
zone_is w q (year y) e = absurd (omega arith)
zone_is w q (time c n h) e = absurd (omega arith)
zone_is w q (zone z) e = zone_of z
zone_is w q interval e = absurd (omega arith)

data IntervalIs : List ℕ → ℕ → Type 0 where
  duration_alone : IntervalIs (bytes "Interval-type=D") 1

interval_is : (w : List ℕ) (q : Pair) → SettingWord w q → q.property ≡ 5 → IntervalIs w q.setting
interval_is w q basic_date e = absurd (omega arith)
interval_is w q basic_time e = absurd (omega arith)
interval_is w q basic_date_time e = absurd (omega arith)
interval_is w q basic_interval e = absurd (omega arith)
interval_is w q (date f) e = absurd (omega arith)
interval_is w q (year y) e = absurd (omega arith)
interval_is w q (time c n h) e = absurd (omega arith)
interval_is w q (zone z) e = absurd (omega arith)
interval_is w q interval e = duration_alone

-- ---- a complete list

six_hold : (a b c d e f : Bool) → a && b && c && d && e && f ≡ true
    → (a ≡ true) × (b ≡ true) × (c ≡ true) × (d ≡ true) × (e ≡ true) × (f ≡ true)
six_hold a b c d e f h =
    let p = (and-eq-true_iff (a && b && c && d && e) f).0 h in
    let q = five_hold a b c d e p.0 in
    (q.0, q.1, q.2, q.3, q.4, p.1)

-- What has no place is not there.
not_there : (n : ℕ) → 0 < n → present_if false n ≡ true → ⊥
not_there n h e = let z : n ≡ 0 = eqb-true n 0 e in omega arith

-- The first number has a word where its setting is to be there.
needs : (k n : ℕ) (ns : List ℕ) (ws : List (List ℕ)) → present_if true n ≡ true → Shown k (n ∷ ns) ws
    → (w : List ℕ) × (vs : List (List ℕ)) × SettingWord w (pair k n) × (ws ≡ w ∷ vs) × Shown (suc k) ns vs
needs k n ns ws p (lacks x) = absurd (false≢true p)
needs k n ns ws p (has {w = w} {ws = vs} i u x) = (w, vs, u, refl, x)

-- The first number has no word where its setting has no place.
skips : (k n : ℕ) (ns : List ℕ) (ws : List (List ℕ)) → present_if false n ≡ true → Shown k (n ∷ ns) ws → (n ≡ 0) × Shown (suc k) ns ws
skips k n ns ws p (lacks x) = (refl, x)
skips k n ns ws p (has i u x) = absurd (not_there n i p)

stops : (k : ℕ) (ws : List (List ℕ)) → Shown k [] ws → ws ≡ []
stops k ws (end j) = refl

-- Words that come one after the other.
four_words : {w₁ w₂ w₃ w₄ : List ℕ} {l₀ l₁ l₂ l₃ l₄ : List (List ℕ)} → l₀ ≡ w₁ ∷ l₁ → l₁ ≡ w₂ ∷ l₂ → l₂ ≡ w₃ ∷ l₃ → l₃ ≡ w₄ ∷ l₄ → l₄ ≡ []
    → l₀ ≡ w₁ ∷ w₂ ∷ w₃ ∷ w₄ ∷ []
four_words e₁ e₂ e₃ e₄ e₅ = rw (e₁, e₂, e₃, e₄, e₅)

as_date : (w₁ w₂ : List ℕ) (ws : List (List ℕ)) (d y t z i : ℕ) → ws ≡ w₁ ∷ w₂ ∷ [] → t ≡ 0 → z ≡ 0 → i ≡ 0 → DateIs w₁ d → YearIs w₂ y
    → ListOf (bytes "Basic=Date" ∷ ws) (settings (1 ∷ d ∷ y ∷ t ∷ z ∷ i ∷ []))
as_date w₁ w₂ ws d y t z i e j k l (date-of f) (year-of g) = rw (e, j, k, l) (a_date f g (mathlib.Core.List.Permᴰ.refl _) refl)

as_time : (w₁ w₂ : List ℕ) (ws : List (List ℕ)) (d y t z i : ℕ) → ws ≡ w₁ ∷ w₂ ∷ [] → d ≡ 0 → y ≡ 0 → i ≡ 0 → TimeIs w₁ t → ZoneIs w₂ z
    → ListOf (bytes "Basic=Time" ∷ ws) (settings (2 ∷ d ∷ y ∷ t ∷ z ∷ i ∷ []))
as_time w₁ w₂ ws d y t z i e j k l (time_of c n h) (zone_of g) =
    rw (e, j, k, l) (a_time (record { clock = c; digits = n; zone = g }) h (mathlib.Core.List.Permᴰ.refl _) refl)

as_both : (w₁ w₂ w₃ w₄ : List ℕ) (ws : List (List ℕ)) (d y t z i : ℕ) → ws ≡ w₁ ∷ w₂ ∷ w₃ ∷ w₄ ∷ [] → i ≡ 0
    → DateIs w₁ d → YearIs w₂ y → TimeIs w₃ t → ZoneIs w₄ z
    → ListOf (bytes "Basic=Date-Time" ∷ ws) (settings (3 ∷ d ∷ y ∷ t ∷ z ∷ i ∷ []))
as_both w₁ w₂ w₃ w₄ ws d y t z i e l (date-of f) (year-of g) (time_of c n h) (zone_of v) =
    rw (e, l) (a_date_time f (record { clock = c; digits = n; zone = v }) g h (mathlib.Core.List.Permᴰ.refl _) refl)

as-duration : (w : List ℕ) (ws : List (List ℕ)) (d y t z i : ℕ) → ws ≡ w ∷ [] → d ≡ 0 → y ≡ 0 → t ≡ 0 → z ≡ 0 → IntervalIs w i
    → ListOf (bytes "Basic=Interval" ∷ ws) (settings (4 ∷ d ∷ y ∷ t ∷ z ∷ i ∷ []))
as-duration w ws d y t z i e j k l m duration_alone = rw (e, j, k, l, m) (a_duration (mathlib.Core.List.Permᴰ.refl _) refl)

module _ (d y t z i : ℕ) (ws : List (List ℕ)) (x : Shown 1 (d ∷ y ∷ t ∷ z ∷ i ∷ []) ws) where
  dated-list : present_if true d ≡ true → present_if true y ≡ true → present_if false t ≡ true → present_if false z ≡ true → present_if false i ≡ true
      → ListOf (bytes "Basic=Date" ∷ ws) (settings (1 ∷ d ∷ y ∷ t ∷ z ∷ i ∷ []))
  dated-list p q r s u =
      let a = needs 1 d (y ∷ t ∷ z ∷ i ∷ []) ws p x in
      let b = needs 2 y (t ∷ z ∷ i ∷ []) a.1 q a.4 in
      let c = skips 3 t (z ∷ i ∷ []) b.1 r b.4 in
      let e = skips 4 z (i ∷ []) b.1 s c.1 in
      let g = skips 5 i [] b.1 u e.1 in
      let f : ws ≡ a.0 ∷ b.0 ∷ [] = a.3 ∙ ap (λ (l : List (List ℕ)). a.0 ∷ l) (b.3 ∙ ap (λ (l : List (List ℕ)). b.0 ∷ l) (stops 6 b.1 g.1)) in
      as_date a.0 b.0 ws d y t z i f c.0 e.0 g.0 (date_is a.0 (pair 1 d) a.2 refl) (year_is b.0 (pair 2 y) b.2 refl)

  timed-list : present_if false d ≡ true → present_if false y ≡ true → present_if true t ≡ true → present_if true z ≡ true → present_if false i ≡ true
      → ListOf (bytes "Basic=Time" ∷ ws) (settings (2 ∷ d ∷ y ∷ t ∷ z ∷ i ∷ []))
  timed-list p q r s u =
      let a = skips 1 d (y ∷ t ∷ z ∷ i ∷ []) ws p x in
      let b = skips 2 y (t ∷ z ∷ i ∷ []) ws q a.1 in
      let c = needs 3 t (z ∷ i ∷ []) ws r b.1 in
      let e = needs 4 z (i ∷ []) c.1 s c.4 in
      let g = skips 5 i [] e.1 u e.4 in
      let f : ws ≡ c.0 ∷ e.0 ∷ [] = c.3 ∙ ap (λ (l : List (List ℕ)). c.0 ∷ l) (e.3 ∙ ap (λ (l : List (List ℕ)). e.0 ∷ l) (stops 6 e.1 g.1)) in
      as_time c.0 e.0 ws d y t z i f a.0 b.0 g.0 (time_is c.0 (pair 3 t) c.2 refl) (zone_is e.0 (pair 4 z) e.2 refl)

  both_list : present_if true d ≡ true → present_if true y ≡ true → present_if true t ≡ true → present_if true z ≡ true → present_if false i ≡ true
      → ListOf (bytes "Basic=Date-Time" ∷ ws) (settings (3 ∷ d ∷ y ∷ t ∷ z ∷ i ∷ []))
  both_list p q r s u =
      let a = needs 1 d (y ∷ t ∷ z ∷ i ∷ []) ws p x in
      let b = needs 2 y (t ∷ z ∷ i ∷ []) a.1 q a.4 in
      let c = needs 3 t (z ∷ i ∷ []) b.1 r b.4 in
      let e = needs 4 z (i ∷ []) c.1 s c.4 in
      let g = skips 5 i [] e.1 u e.4 in
      let f : ws ≡ a.0 ∷ b.0 ∷ c.0 ∷ e.0 ∷ [] = four_words a.3 b.3 c.3 e.3 (stops 6 e.1 g.1) in
      as_both a.0 b.0 c.0 e.0 ws d y t z i f g.0 (date_is a.0 (pair 1 d) a.2 refl) (year_is b.0 (pair 2 y) b.2 refl)
      (time_is c.0 (pair 3 t) c.2 refl) (zone_is e.0 (pair 4 z) e.2 refl)

  interval-list : present_if false d ≡ true → present_if false y ≡ true → present_if false t ≡ true → present_if false z ≡ true → present_if true i ≡ true
      → ListOf (bytes "Basic=Interval" ∷ ws) (settings (4 ∷ d ∷ y ∷ t ∷ z ∷ i ∷ []))
  interval-list p q r s u =
      let a = skips 1 d (y ∷ t ∷ z ∷ i ∷ []) ws p x in
      let b = skips 2 y (t ∷ z ∷ i ∷ []) ws q a.1 in
      let c = skips 3 t (z ∷ i ∷ []) ws r b.1 in
      let e = skips 4 z (i ∷ []) ws s c.1 in
      let g = needs 5 i [] ws u e.1 in
      let f : ws ≡ g.0 ∷ [] = g.3 ∙ ap (λ (l : List (List ℕ)). g.0 ∷ l) (stops 6 g.1 g.4) in
      as-duration g.0 ws d y t z i f a.0 b.0 c.0 e.0 (interval_is g.0 (pair 5 i) g.2 refl)

-- By the setting of Basic.
by_basic : (u : List ℕ) (b d y t z i : ℕ) (ws : List (List ℕ)) → BasicIs u b → Shown 1 (d ∷ y ∷ t ∷ z ∷ i ∷ []) ws
    → complete (settings (b ∷ d ∷ y ∷ t ∷ z ∷ i ∷ [])) ≡ true
    → ListOf (u ∷ ws) (settings (b ∷ d ∷ y ∷ t ∷ z ∷ i ∷ []))
unfolding complete dated_list timed_list interval_list
by_basic u b d y t z i ws one x c =
    let p = six_hold true (present_if true d) (present_if true y) (present_if false t) (present_if false z) (present_if false i) c in
    dated-list d y t z i ws x p.1 p.2 p.3 p.4 p.5
by_basic u b d y t z i ws two x c =
    let p = six_hold true (present_if false d) (present_if false y) (present_if true t) (present_if true z) (present_if false i) c in
    timed-list d y t z i ws x p.1 p.2 p.3 p.4 p.5
by_basic u b d y t z i ws three x c =
    let p = six_hold true (present_if true d) (present_if true y) (present_if true t) (present_if true z) (present_if false i) c in
    both_list d y t z i ws x p.1 p.2 p.3 p.4 p.5
by_basic u b d y t z i ws four x c =
    let p = six_hold true (present_if false d) (present_if false y) (present_if false t) (present_if false z) (present_if true i) c in
    interval-list d y t z i ws x p.1 p.2 p.3 p.4 p.5

first_there : (b d y t z i : ℕ) → complete (settings (b ∷ d ∷ y ∷ t ∷ z ∷ i ∷ [])) ≡ true → present_if true b ≡ true
unfolding complete
first_there b d y t z i c =
    (six_hold (not (eqb b 0)) (present_if (dated_list s) d) (present_if (dated_list s) y) (present_if (timed_list s) t) (present_if (timed_list s) z)
    (present_if (interval_list s) i) c).0
  where
    s : Option Settings
    s = settings (b ∷ d ∷ y ∷ t ∷ z ∷ i ∷ [])

-- Six numbers that are complete are the settings of their words.
complete_list : (ns : List ℕ) (ws : List (List ℕ)) → length ns ≡ 6 → Shown 0 ns ws → complete (settings ns) ≡ true → ListOf ws (settings ns)
complete_list [] ws l x c = absurd (omega arith)
complete_list (b ∷ []) ws l x c = absurd (omega arith)
complete_list (b ∷ d ∷ []) ws l x c = absurd (omega arith)
complete_list (b ∷ d ∷ y ∷ []) ws l x c = absurd (omega arith)
complete_list (b ∷ d ∷ y ∷ t ∷ []) ws l x c = absurd (omega arith)
complete_list (b ∷ d ∷ y ∷ t ∷ z ∷ []) ws l x c = absurd (omega arith)
complete_list (b ∷ d ∷ y ∷ t ∷ z ∷ i ∷ []) ws l x c =
    let a = needs 0 b (d ∷ y ∷ t ∷ z ∷ i ∷ []) ws (first_there b d y t z i c) x in
    rw a.3 (by_basic a.0 b d y t z i a.1 (basic_is a.0 (pair 0 b) a.2 refl) a.4 c)
complete_list (b ∷ d ∷ y ∷ t ∷ z ∷ i ∷ o ∷ ns) ws l x c = absurd (omega arith)

-- ---- the law

any_order : (us ws : List (List ℕ)) (s : Option Settings) → Permᴰ us ws → ListOf ws s → ListOf us s
any_order us ws s p (a_date f y q e) = a_date f y (mathlib.Core.List.Permᴰ.trans p q) e
any_order us ws s p (a_time t h q e) = a_time t h (mathlib.Core.List.Permᴰ.trans p q) e
any_order us ws s p (a_date_time f t y h q e) = a_date_time f t y h (mathlib.Core.List.Permᴰ.trans p q) e
any_order us ws s p (a_duration q e) = a_duration (mathlib.Core.List.Permᴰ.trans p q) e

append-nothing : (ws : List (List ℕ)) → ws ++ [] ≡ ws
append-nothing [] = refl
append-nothing (w ∷ ws) = ap (λ (l : List (List ℕ)). w ∷ l) (append-nothing ws)

again : (s : Option Settings) → is_some s ≡ true → s ≡ settings (numbers_in s)
again None h = absurd (false≢true h)
again (Some s) h = refl

-- A text that is read as a list is the pairs of a list's settings, "each property at most once", "in any order", with one space between.
pub list_arranged : (l : List ℕ) → is_some (list_of l) ≡ true → ListOf (split_on 32 l) (list_of l)
unfolding list_of completed
list_arranged l = go (complete s) refl
  where
    s : Option Settings
    s = add_pairs (settings none_yet) (split_on 32 l)

    go : (b : Bool) → complete s ≡ b → is_some (cond b s refused_list) ≡ true → ListOf (split_on 32 l) (cond b s refused_list)
    go false c h = absurd (false≢true h)
    go true c h =
        let m = pairs_shown (settings none_yet) (split_on 32 l) [] refl (lacks (lacks (lacks (lacks (lacks (lacks (end 6))))))) h in
        let q : Permᴰ (split_on 32 l) m.words = subst (λ (us : List (List ℕ)). Permᴰ us m.words) (append-nothing (split_on 32 l)) m.perm in
        let e : s ≡ settings (numbers_in s) = again s h in
        subst (ListOf (split_on 32 l)) (sym e)
        (any_order (split_on 32 l) m.words (settings (numbers_in s)) q
        (complete_list (numbers_in s) m.words (pairs_length (settings none_yet) (split_on 32 l) refl) m.shown (sym (ap complete e) ∙ c)))
