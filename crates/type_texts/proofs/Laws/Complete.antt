-- Completeness: every well-formed type is read from its settings, its lists in any order and the pairs of each in any order.
use Rattle.std.specs.Prelude.{Option}
use mathlib.Core.Path.{◌≡◌, refl, ap, sym, ◌∙◌}
use mathlib.Core.List.Permᴰ
use mathlib.Core.List.{List, [], ◌∷◌, map, Permᴰ}
use mathlib.Core.Bool.{Bool, true, false, cond, and-eq-true_iff, or-true}
use Prim.Native.Nat.{ℕ, ◌≤◌}
use native.Mathlib.Omega.{arith}
use borrow.Author.Tests.{leb-true}
use Rattle.octets.specs.Octets.{bytes, eq_list}
use Rattle.types.proofs.Laws.Limits.{carrying-kept}
use Rattle.types.proofs.Laws.WellFormed.{well-settings}
use Rattle.types.specs.AnyTypes.{DURATION, carrying, dated_type, limited_to, limits_of, timed_type, well_formed}
use Rattle.types.specs.Types as Points
use Rattle.types.specs.Types.{listed, DATE, TIME-OF-DAY, DATE-TIME, every_year, has_date, has_time, placed, restricted, few_digits}
use Rattle.types.specs.Types.{well_parts, parts_of}
use Rattle.types.specs.Years.{some_year}
use Rattle.types.specs.declared.years.YearSetting.{YearSetting}
use Rattle.type_texts.specs.TypeTexts.{all_of, joined, type_of}
use Rattle.type_texts.specs.Written.{date_pairs, time_pairs, date_time_pairs, duration_pairs, keep, named_years, lists_for, join_with, type_text}
use Rattle.type_texts.specs.Written.{Arranged, InAnyOrder, end, more, listed_type, lists_for_type}
use Rattle.texts.specs.declared.forms.DateForm.{DateForm}
use Rattle.texts.specs.declared.forms.TimeForm.{TimeForm}
use Rattle.types.specs.declared.types.AnyType.{AnyType}
use Rattle.types.specs.declared.types.TimeType.{TimeType}
use Rattle.types.specs.declared.types.Parts.{Parts}
use Rattle.types.specs.declared.types.Limits.{Limits}
use Rattle.types.specs.declared.types.TypeRead.{TypeRead}
use Rattle.lists.specs.declared.lists.Settings.{Settings}
use Rattle.type_texts.proofs.Laws.Written.{date_list, time_list, date_time_list, duration_list, date-list, time-list, date-time-list, duration-list}
use Rattle.type_texts.proofs.Laws.Written.{basic-words, date_is_word, year_is_word, zone_is_word, time_is_word, interval_is_word, ListText}
use Rattle.type_texts.proofs.Laws.Written.{list_text, text-read, some_named, date_joined, time_joined, date_time_joined, duration-joined}

-- Each list of a type, its pairs in any order, is read.
date_text : (f : DateForm) (y : YearSetting) (ws : List (List ℕ)) → Permᴰ ws (date_pairs f y) → ListText ws (date_list f y)
unfolding all_of
date_text f y = list_text (date_pairs f y) (date_list f y) (omega arith) (rw (basic-words.0, date_is_word f, year_is_word y)) (date-list f y)

time-text : (t : TimeForm) → t.digits ≤ 9 → (ws : List (List ℕ)) → Permᴰ ws (time_pairs t) → ListText ws (time_list t)
unfolding all_of
time-text t k =
    list_text (time_pairs t) (time_list t) (omega arith)
    (rw (basic-words.1, time_is_word t.clock t.digits k, zone_is_word t.zone))
    (time-list t k)

date-time-text : (f : DateForm) (t : TimeForm) → t.digits ≤ 9 → (y : YearSetting) (ws : List (List ℕ)) →
    Permᴰ ws (date_time_pairs f t y) → ListText ws (date_time_list f t y)
unfolding all_of
date-time-text f t k y =
    list_text (date_time_pairs f t y) (date_time_list f t y) (omega arith)
    (rw (basic-words.2, date_is_word f, year_is_word y, time_is_word t.clock t.digits k, zone_is_word t.zone))
    (date-time-list f t k y)

duration-text : (ws : List (List ℕ)) → Permᴰ ws duration_pairs → ListText ws duration_list
unfolding all_of
duration-text = list_text duration_pairs duration_list (omega arith) (rw (basic-words.3, interval_is_word)) duration-list

-- The lists of at least one Year are read and joined.
some_read : (f : YearSetting → List (List ℕ)) (g : YearSetting → Option Settings) →
    ((y : YearSetting) (ws : List (List ℕ)) → Permᴰ ws (f y) → ListText ws (g y)) →
    (limits : Limits) (ys : List YearSetting) → (y : YearSetting) × (zs : List YearSetting) × (ys ≡ y ∷ zs) → {wss : List (List (List ℕ))} →
    InAnyOrder wss (map f ys) →
    type_of limits (type_text wss) ≡ joined limits (map g ys)
some_read f g k limits ys (y, zs, e) o = text-read f g k limits y zs (rw e at o) ∙ ap (λ (l : List YearSetting). joined limits (map g l)) (sym e)

few : (t : TimeType) → few_digits t ≡ true → t.form.digits ≤ 9
few t h = leb-true t.form.digits 9 h

parts_read : (limits : Limits) (p : Parts) → well_parts p ≡ true → {wss : List (List (List ℕ))} →
    InAnyOrder wss (lists_for p) →
    type_of limits (type_text wss) ≡ limited_to limits (AnyType.Point (listed p))
parts_read limits (Parts.Date d) h r =
    some_read _ _ (date_text d.form) limits (named_years d.years) (some_named d.years h) r ∙ date_joined limits d h
parts_read limits (Parts.Time t) h r =
    text-read (λ y. time_pairs t.form) (λ y. time_list t.form) (λ y. time-text t.form (few t h)) limits YearSetting.Basic [] r ∙ time_joined limits t
parts_read limits (Parts.DateTime d t) h r =
    let p : (some_year d.years ≡ true) × (few_digits t ≡ true) = (and-eq-true_iff _ _).0 h in
    some_read _ _ (date-time-text d.form t.form (few t p.1)) limits (named_years d.years) (some_named d.years p.0) r
    ∙ date_time_joined limits d t p.0

duration_read : (limits : Limits) {wss : List (List (List ℕ))} → InAnyOrder wss (duration_pairs ∷ []) →
    type_of limits (type_text wss) ≡ limited_to limits AnyType.ListedDuration
duration_read limits r = text-read (λ y. duration_pairs) (λ y. duration_list) (λ y. duration-text) limits YearSetting.Basic [] r ∙ duration-joined limits

-- The settings of a type, in any order and under any limits, give that type under these limits, or 1 where they have
-- no place.
pub settings_read : (limits : Limits) (t : AnyType) → well_formed t ≡ true → {wss : List (List (List ℕ))} →
    InAnyOrder wss (lists_for_type t) →
    type_of limits (type_text wss) ≡ limited_to limits (listed_type t)
settings_read limits (AnyType.Point t) h r = parts_read limits (parts_of t) (well-settings t h) r
settings_read limits AnyType.Duration h r = duration_read limits r
settings_read limits AnyType.ListedDuration h r = duration_read limits r

-- A type's own limits have their place in it, and give it.
limits_placed : (p : Parts) → placed (Points.limits_of p) (has_date p) (has_time p) ≡ true
unfolding placed
limits_placed (Parts.Date d) = rw (or-true (every_year d.window))
limits_placed (Parts.Time t) = or-true t.hour24
limits_placed (Parts.DateTime d t) = rw (or-true (every_year d.window), or-true t.hour24)

limits_kept : (p : Parts) → restricted (Points.limits_of p) p ≡ p
limits_kept (Parts.Date d) = refl
limits_kept (Parts.Time t) = refl
limits_kept (Parts.DateTime d t) = refl

own_limits : (t : AnyType) → limited_to (limits_of t) (listed_type t) ≡ TypeRead.«Type» (listed_type t)
unfolding limited_to placed
own_limits (AnyType.Point t) = rw (limits_placed (parts_of t), limits_kept (parts_of t))
own_limits AnyType.Duration = refl
own_limits AnyType.ListedDuration = refl

-- Every well-formed type is read from its settings, in any order, with its own limits; what was a name is then listed.
pub complete : (t : AnyType) → well_formed t ≡ true → {wss : List (List (List ℕ))} →
    InAnyOrder wss (lists_for_type t) →
    type_of (limits_of t) (type_text wss) ≡ TypeRead.«Type» (listed_type t)
complete t h r = settings_read (limits_of t) t h r ∙ own_limits t

listed-placed : (limits : Limits) (t : AnyType) → placed limits (dated_type t) (timed_type t) ≡ true
    → limited_to limits (listed_type t) ≡ TypeRead.«Type» (carrying limits (listed_type t))
unfolding limited_to
listed-placed limits (AnyType.Point t) k = rw k
listed-placed limits AnyType.Duration k = rw k
listed-placed limits AnyType.ListedDuration k = rw k

-- Every well-formed type under limits that have their place is read from its settings, in any order, with these limits.
pub complete_limited : (limits : Limits) (t : AnyType) → well_formed t ≡ true →
    placed limits (dated_type t) (timed_type t) ≡ true → {wss : List (List (List ℕ))} →
    InAnyOrder wss (lists_for_type t) →
    type_of limits (type_text wss) ≡ TypeRead.«Type» (carrying limits (listed_type t))
complete_limited limits t h k r = settings_read limits t h r ∙ listed-placed limits t k

same_pairs : (wss : List (List (List ℕ))) → Arranged wss wss
same_pairs [] = end
same_pairs (ws ∷ wss) = more (Permᴰ.refl ws) (same_pairs wss)

-- Lists and pairs may stand in their own order.
pub in_order : (wss : List (List (List ℕ))) → InAnyOrder wss wss
in_order wss = record { lists = wss; of_lists = Permᴰ.refl wss; of_pairs = same_pairs wss }

-- What was read, where a type is listed as settings in place of its name.
abbrev pub relisted : TypeRead → TypeRead
relisted (TypeRead.«Type» t) = TypeRead.«Type» (listed_type t)
relisted TypeRead.Unreadable = TypeRead.Unreadable
relisted TypeRead.NoRow = TypeRead.NoRow

carrying-listed : (limits : Limits) (t : AnyType) → carrying limits (listed_type t) ≡ listed_type (carrying limits t)
carrying-listed limits (AnyType.Point t) = ap (λ (p : Parts). AnyType.Point (listed p)) (sym (carrying-kept limits t).1)
carrying-listed limits AnyType.Duration = refl
carrying-listed limits AnyType.ListedDuration = refl

limited_relisted : (limits : Limits) (t : AnyType) → limited_to limits (listed_type t) ≡ relisted (limited_to limits t)
unfolding limited_to
limited_relisted limits t = same t ∙ go (placed limits (dated_type t) (timed_type t))
  where
    same : (t : AnyType) → cond (placed limits (dated_type (listed_type t)) (timed_type (listed_type t))) (TypeRead.«Type» (carrying limits (listed_type t)))
        TypeRead.Unreadable
        ≡ cond (placed limits (dated_type t) (timed_type t)) (TypeRead.«Type» (carrying limits (listed_type t))) TypeRead.Unreadable
    same (AnyType.Point t) = refl
    same AnyType.Duration = refl
    same AnyType.ListedDuration = refl

    go : (k : Bool) →
        cond k (TypeRead.«Type» (carrying limits (listed_type t))) TypeRead.Unreadable
        ≡ relisted (cond k (TypeRead.«Type» (carrying limits t)) TypeRead.Unreadable)
    go true = ap TypeRead.«Type» (carrying-listed limits t)
    go false = refl

-- "The names DATE, TIME-OF-DAY and DATE-TIME may stand for their settings", and so may DURATION (#101): under any limits, a name's type and the type
-- of its settings differ in the name alone.
pub name_settings : (limits : Limits) →
    (type_of limits (bytes "Basic=Date Date=YMD Year=Basic") ≡ relisted (type_of limits (bytes "DATE")))
    × (type_of limits (bytes "Basic=Time Time=HMS Local-or-UTC=L") ≡ relisted (type_of limits (bytes "TIME-OF-DAY")))
    × (type_of limits (bytes "Basic=Date-Time Date=YMD Year=Basic Time=HMS Local-or-UTC=L") ≡ relisted (type_of limits (bytes "DATE-TIME")))
    × (type_of limits (bytes "Basic=Interval Interval-type=D") ≡ relisted (type_of limits (bytes "DURATION")))
unfolding type_of eq_list type_text join_with keep
name_settings limits = (
  named (AnyType.Point DATE) refl,
  named (AnyType.Point TIME-OF-DAY) refl,
  named (AnyType.Point DATE-TIME) refl,
  named DURATION refl,
)
  where
    named : (t : AnyType) → well_formed t ≡ true → type_of limits (type_text (lists_for_type t)) ≡ relisted (limited_to limits t)
    named t h = settings_read limits t h (in_order (lists_for_type t)) ∙ limited_relisted limits t
