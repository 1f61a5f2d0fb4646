-- "Base settings": their words, and that a text is read as a setting exactly where it is one of them.
use mathlib.Core.Path.{◌≡◌, refl, ap, sym, ◌∙◌, subst}
use mathlib.Core.List.{List, [], ◌∷◌, ◌++◌}
use mathlib.Core.Bool.{Bool, true, false, cond, and-eq-true_iff}
use Prim.Native.Nat.{ℕ, suc, ◌+◌, ◌-◌, ◌*◌, ◌<◌, ◌≤◌}
use Prim.Native.String.{String}
use native.Mathlib.Omega.{arith}
use lib.Dec.{leb}
use lib.ListN.{length, get_or, take}
use lib.Seq.{take-suc, take_all}
use borrow.Author.Tests.{leb-true, le-leb}
use Rattle.octets.specs.Octets.{bytes, eq_list}
use Rattle.octets.proofs.Laws.Octets.{equal}
use Rattle.lists.specs.Words.{place_from, place_in, basic_words, date_words, year_words, clock_words, fraction_words, zone_words, interval_words}
use Rattle.lists.specs.Words.{with_digits, is_digit_count, fraction_number, pair, pair_of}
use Rattle.std.specs.Prelude.{Option, Some, None}
use Rattle.std.specs.Option.{option_map, option_or}
use Rattle.lists.specs.declared.words.Pair.{Pair}
use Rattle.types.specs.Years.{year_number, year_word}
use Rattle.types.specs.declared.years.YearSetting.{YearSetting}
use Rattle.lists.proofs.Laws.Lists.{every_pair}

-- The words, each with its property and the number of its setting: there are no others.
pub data Word : List ℕ → Pair → Type 0 where
  -- "`Basic`: Date, Time, Date-Time", and "`Basic=Interval`" (#101).
  basic_date : Word (bytes "Basic=Date") (pair 0 1)
  basic_time : Word (bytes "Basic=Time") (pair 0 2)
  basic_date_time : Word (bytes "Basic=Date-Time") (pair 0 3)
  basic_interval : Word (bytes "Basic=Interval") (pair 0 4)
  -- "`Date`: Y, YM, YMD, YD, YW, YWD."
  date_Y : Word (bytes "Date=Y") (pair 1 1)
  date_YM : Word (bytes "Date=YM") (pair 1 2)
  date_YMD : Word (bytes "Date=YMD") (pair 1 3)
  date_YD : Word (bytes "Date=YD") (pair 1 4)
  date_YW : Word (bytes "Date=YW") (pair 1 5)
  date_YWD : Word (bytes "Date=YWD") (pair 1 6)
  -- "`Year`: Basic .., Proleptic .., Negative .., L5 ..", and "L6 to L9" (#103).
  year : (y : YearSetting) → Word (bytes (year_word y)) (pair 2 (year_number y))
  -- Of "`Time`: H, HM, HMS, HFn, HMFn, HMSFn, with n from 1 to 9" the first three.
  time_H : Word (bytes "Time=H") (pair 3 1)
  time_HM : Word (bytes "Time=HM") (pair 3 2)
  time_HMS : Word (bytes "Time=HMS") (pair 3 3)
  -- Of the same the last three.
  time_HF : (n : ℕ) → 1 ≤ n → n ≤ 9 → Word (bytes "Time=HF" ++ (48 + n) ∷ []) (pair 3 (n * 10 + 1))
  time_HMF : (n : ℕ) → 1 ≤ n → n ≤ 9 → Word (bytes "Time=HMF" ++ (48 + n) ∷ []) (pair 3 (n * 10 + 2))
  time_HMSF : (n : ℕ) → 1 ≤ n → n ≤ 9 → Word (bytes "Time=HMSF" ++ (48 + n) ∷ []) (pair 3 (n * 10 + 3))
  -- "`Local-or-UTC`: L, Z, LD."
  zone_L : Word (bytes "Local-or-UTC=L") (pair 4 1)
  zone_Z : Word (bytes "Local-or-UTC=Z") (pair 4 2)
  zone_LD : Word (bytes "Local-or-UTC=LD") (pair 4 3)
  -- "`Interval-type=D`" (#101).
  interval_D : Word (bytes "Interval-type=D") (pair 5 1)

-- ---- what is read is a word

-- What holds where a text is the first word, and of its place among the others, holds of its place.
place_case : (w : List ℕ) (P : Option ℕ → Type 0) (k : ℕ) (s : String) (ws : List (List ℕ)) → (w ≡ bytes s → P (Some k)) → P (place_from (suc k) ws w)
    → P (place_from k (bytes s ∷ ws) w)
unfolding place_from
place_case w P k s ws h r = go (eq_list w (bytes s)) refl
  where
    go : (b : Bool) → eq_list w (bytes s) ≡ b → P (cond b (Some k) (place_from (suc k) ws w))
    go true e = h (equal w (bytes s) e)
    go false e = r

module _ (w : List ℕ) where
  abbrev Spelled-in : ℕ → Option ℕ → Type 0
  Spelled-in p o = (n : ℕ) → o ≡ Some n → Word w (pair p n)

  no_place : (p k : ℕ) → Spelled-in p (place_from k [] w)
  unfolding place_from
  no_place p k n e = cc

  is_word : (p k : ℕ) {v : List ℕ} → Word v (pair p k) → w ≡ v → Spelled-in p (Some k)
  is_word p k x e n h = let q : k ≡ n = cc in subst (λ (m : ℕ). Word w (pair p m)) q (subst (λ (u : List ℕ). Word u (pair p k)) (sym e) x)

  basic_spelled : Spelled-in 0 (place_in basic_words w)
  basic_spelled =
      place_case w (Spelled-in 0) 1 "Basic=Date" _ (is_word 0 1 basic_date)
      (place_case w (Spelled-in 0) 2 "Basic=Time" _ (is_word 0 2 basic_time)
      (place_case w (Spelled-in 0) 3 "Basic=Date-Time" _ (is_word 0 3 basic_date_time)
      (place_case w (Spelled-in 0) 4 "Basic=Interval" _ (is_word 0 4 basic_interval) (no_place 0 5))))

  date_spelled : Spelled-in 1 (place_in date_words w)
  date_spelled =
      place_case w (Spelled-in 1) 1 "Date=Y" _ (is_word 1 1 date_Y)
      (place_case w (Spelled-in 1) 2 "Date=YM" _ (is_word 1 2 date_YM)
      (place_case w (Spelled-in 1) 3 "Date=YMD" _ (is_word 1 3 date_YMD)
      (place_case w (Spelled-in 1) 4 "Date=YD" _ (is_word 1 4 date_YD)
      (place_case w (Spelled-in 1) 5 "Date=YW" _ (is_word 1 5 date_YW)
      (place_case w (Spelled-in 1) 6 "Date=YWD" _ (is_word 1 6 date_YWD) (no_place 1 7))))))

  year_spelled : Spelled-in 2 (place_in year_words w)
  year_spelled =
      place_case w (Spelled-in 2) 1 "Year=Basic" _ (is_word 2 1 (year YearSetting.Basic))
      (place_case w (Spelled-in 2) 2 "Year=Proleptic" _ (is_word 2 2 (year YearSetting.Proleptic))
      (place_case w (Spelled-in 2) 3 "Year=Negative" _ (is_word 2 3 (year YearSetting.Negative))
      (place_case w (Spelled-in 2) 4 "Year=L5" _ (is_word 2 4 (year YearSetting.L5))
      (place_case w (Spelled-in 2) 5 "Year=L6" _ (is_word 2 5 (year YearSetting.L6))
      (place_case w (Spelled-in 2) 6 "Year=L7" _ (is_word 2 6 (year YearSetting.L7))
      (place_case w (Spelled-in 2) 7 "Year=L8" _ (is_word 2 7 (year YearSetting.L8))
      (place_case w (Spelled-in 2) 8 "Year=L9" _ (is_word 2 8 (year YearSetting.L9)) (no_place 2 9))))))))

  clock_spelled : Spelled-in 3 (place_in clock_words w)
  clock_spelled =
      place_case w (Spelled-in 3) 1 "Time=H" _ (is_word 3 1 time_H)
      (place_case w (Spelled-in 3) 2 "Time=HM" _ (is_word 3 2 time_HM)
      (place_case w (Spelled-in 3) 3 "Time=HMS" _ (is_word 3 3 time_HMS) (no_place 3 4)))

  zone_spelled : Spelled-in 4 (place_in zone_words w)
  zone_spelled =
      place_case w (Spelled-in 4) 1 "Local-or-UTC=L" _ (is_word 4 1 zone_L)
      (place_case w (Spelled-in 4) 2 "Local-or-UTC=Z" _ (is_word 4 2 zone_Z)
      (place_case w (Spelled-in 4) 3 "Local-or-UTC=LD" _ (is_word 4 3 zone_LD) (no_place 4 4)))

  interval_spelled : Spelled-in 5 (place_in interval_words w)
  interval_spelled = place_case w (Spelled-in 5) 1 "Interval-type=D" _ (is_word 5 1 interval_D) (no_place 5 2)

-- A fraction word with one digit behind it.
last_apart : (w : List ℕ) → 0 < length w → w ≡ take (length w - 1) w ++ get_or w (length w - 1) 0 ∷ []
last_apart w h =
    let i : suc (length w - 1) ≡ length w = omega arith in
    sym (take_all (suc (length w - 1)) w (omega arith)) ∙ take-suc w (length w - 1) 0 (omega arith)

some_octet : (w : List ℕ) (i : ℕ) → 49 ≤ get_or w i 0 → 0 < length w
some_octet [] i h = absurd (omega arith)
some_octet (x ∷ w) i h = omega arith

-- What is known of the places of fraction words.
data FractionWord (u : List ℕ) : Option ℕ → Type 0 where
  HF : u ≡ bytes "Time=HF" → FractionWord u (Some 1)
  HMF : u ≡ bytes "Time=HMF" → FractionWord u (Some 2)
  HMSF : u ≡ bytes "Time=HMSF" → FractionWord u (Some 3)
  no : FractionWord u None

no_fraction_lem : (u : List ℕ) (k : ℕ) → FractionWord u (place_from k [] u)
unfolding place_from
no_fraction_lem u k = no

fraction_word : (u : List ℕ) → FractionWord u (place_in fraction_words u)
fraction_word u =
    place_case u (FractionWord u) 1 "Time=HF" _ HF
    (place_case u (FractionWord u) 2 "Time=HMF" _ HMF
    (place_case u (FractionWord u) 3 "Time=HMSF" _ HMSF (no_fraction_lem u 4)))

fraction-spelled : (w : List ℕ) → Spelled-in w 3 (fraction_number w)
unfolding fraction_number
fraction-spelled w = go (is_digit_count d) refl
  where
    d : ℕ
    d = get_or w (length w - 1) 0

    u : List ℕ
    u = take (length w - 1) w

    spelled : (s : List ℕ) → 49 ≤ d → u ≡ s → w ≡ s ++ (48 + (d - 48)) ∷ []
    spelled s h e =
        let i : 48 + (d - 48) ≡ d = omega arith in
        sym (ap (λ (x : ℕ). s ++ x ∷ []) i ∙ sym (last_apart w (some_octet w (length w - 1) h) ∙ ap (λ (l : List ℕ). l ++ d ∷ []) e))

    word : 49 ≤ d → d ≤ 57 → (o : Option ℕ) → FractionWord u o → Spelled-in w 3 (option_map (with_digits (d - 48)) o)
    word h k o no = λ n e. cc
    word h k o (HF e) = is_word w 3 _ (time_HF (d - 48) (omega arith) (omega arith)) (spelled _ h e)
    word h k o (HMF e) = is_word w 3 _ (time_HMF (d - 48) (omega arith) (omega arith)) (spelled _ h e)
    word h k o (HMSF e) = is_word w 3 _ (time_HMSF (d - 48) (omega arith) (omega arith)) (spelled _ h e)

    go : (b : Bool) → is_digit_count d ≡ b → Spelled-in w 3 (cond b (option_map (with_digits (d - 48)) (place_in fraction_words u)) None)
    go true e =
        let q : (leb 49 d ≡ true) × (leb d 57 ≡ true) = (and-eq-true_iff _ _).0 e in
        word (leb-true 49 d q.0) (leb-true d 57 q.1) (place_in fraction_words u) (fraction_word u)
    go false e = λ n p. cc

or_else : (w : List ℕ) (m n : Option ℕ) → Spelled-in w 3 m → Spelled-in w 3 n → Spelled-in w 3 (option_or m n)
or_else w None n f g = g
or_else w (Some k) n f g = f

-- ---- the law

-- A text that is read as a setting is the word of that setting.
pub word_spelled : (w : List ℕ) (p : Pair) → pair_of w ≡ Some p → Word w p
word_spelled w =
    every_pair (Word w) w (basic_spelled w) (date_spelled w) (year_spelled w)
    (or_else w (place_in clock_words w) (fraction_number w) (clock_spelled w) (fraction-spelled w)) (zone_spelled w) (interval_spelled w)

year_read : (y : YearSetting) → pair_of (bytes (year_word y)) ≡ Some (pair 2 (year_number y))
unfolding pair_of place_from eq_list
year_read YearSetting.Basic = refl
year_read YearSetting.Proleptic = refl
year_read YearSetting.Negative = refl
year_read YearSetting.L5 = refl
year_read YearSetting.L6 = refl
year_read YearSetting.L7 = refl
year_read YearSetting.L8 = refl
year_read YearSetting.L9 = refl

-- Each word is read as its setting.
pub word_read : (w : List ℕ) (p : Pair) → Word w p → pair_of w ≡ Some p
unfolding pair_of place_from eq_list fraction_number
word_read w p basic_date = refl
word_read w p basic_time = refl
word_read w p basic_date_time = refl
word_read w p basic_interval = refl
word_read w p date_Y = refl
word_read w p date_YM = refl
word_read w p date_YMD = refl
word_read w p date_YD = refl
word_read w p date_YW = refl
word_read w p date_YWD = refl
word_read w p (year y) = year_read y
word_read w p time_H = refl
word_read w p time_HM = refl
word_read w p time_HMS = refl
word_read w p (time_HF n h k) =
    rw (le-leb 49 (48 + n) (omega arith), le-leb (48 + n) 57 (omega arith)) (ap (λ (k : ℕ). Some (pair 3 k)) (omega arith))
word_read w p (time_HMF n h k) =
    rw (le-leb 49 (48 + n) (omega arith), le-leb (48 + n) 57 (omega arith)) (ap (λ (k : ℕ). Some (pair 3 k)) (omega arith))
word_read w p (time_HMSF n h k) =
    rw (le-leb 49 (48 + n) (omega arith), le-leb (48 + n) 57 (omega arith)) (ap (λ (k : ℕ). Some (pair 3 k)) (omega arith))
word_read w p zone_L = refl
word_read w p zone_Z = refl
word_read w p zone_LD = refl
word_read w p interval_D = refl
