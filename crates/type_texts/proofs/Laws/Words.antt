-- The words of the base settings, by the settings of a type; and pieces are put together again.
use Rattle.std.specs.Prelude.{Option, Some, None}
use Rattle.std.specs.Option.{is_some}
use mathlib.Core.Path.{◌≡◌, refl, ap, sym, ◌∙◌}
use mathlib.Core.List.{List, [], ◌∷◌, ◌++◌, map}
use mathlib.Core.Bool.{Bool, true, false, cond}
use Prim.Native.Nat.{ℕ, ◌+◌, ◌≤◌}
use native.Mathlib.Omega.{arith}
use lib.Dec.{eqb}
use borrow.Author.Tests.{eqb-true, ne_eqb}
use Rattle.octets.specs.Octets.{bytes}
use Rattle.octets.specs.Pieces.{split_on, with_first}
use Rattle.lists.specs.Words.{pair, pair_of}
use Rattle.lists.specs.Lists.{add_pair, add_pairs}
use Rattle.lists.specs.declared.words.Pair.{Pair}
use Rattle.lists.specs.declared.lists.Settings.{Settings}
use Rattle.lists.proofs.Laws.Spelled as spelled
use Rattle.lists.proofs.Laws.Spelled.{Word as Spelled, date_Y, date_YM, date_YMD, date_YD, date_YW, date_YWD, interval_D, time_H, time_HM, time_HMS}
use Rattle.lists.proofs.Laws.Spelled.{time_HF, time_HMF, time_HMSF, zone_L, zone_LD, zone_Z}
use Rattle.texts.specs.declared.forms.DateForm.{DateForm}
use Rattle.texts.specs.declared.forms.ClockForm.{ClockForm}
use Rattle.texts.specs.declared.forms.ZoneForm.{ZoneForm}
use Rattle.types.specs.Numbers.{date_number, zone_number}
use Rattle.types.specs.Years.{year_number, year_word}
use Rattle.types.specs.declared.years.YearSetting.{YearSetting}
use Rattle.types.specs.declared.types.AnyType.{AnyType}
use Rattle.types.specs.declared.types.TypeRead.{TypeRead}
use Rattle.type_texts.specs.Written.{date_word, clock_word, time_word, zone_word, join_with, type_text}
use Rattle.type_texts.proofs.Laws.Written.{time_code}

-- ---- words

-- The words of the base settings, each with its property and its number.
pub data SettingWord : List ℕ → Pair → Type 0 where
  basic_date : SettingWord (bytes "Basic=Date") (pair 0 1)
  basic_time : SettingWord (bytes "Basic=Time") (pair 0 2)
  basic_date_time : SettingWord (bytes "Basic=Date-Time") (pair 0 3)
  basic_interval : SettingWord (bytes "Basic=Interval") (pair 0 4)
  date : (f : DateForm) → SettingWord (date_word f) (pair 1 (date_number f))
  year : (y : YearSetting) → SettingWord (bytes (year_word y)) (pair 2 (year_number y))
  time : (c : ClockForm) (n : ℕ) → n ≤ 9 → SettingWord (time_word c n) (pair 3 (time_code c n))
  zone : (z : ZoneForm) → SettingWord (zone_word z) (pair 4 (zone_number z))
  interval : SettingWord (bytes "Interval-type=D") (pair 5 1)

-- The word of a Time setting with a fraction, with its property and its number.
fraction : (c : ClockForm) (n : ℕ) → 1 ≤ n → n ≤ 9 → SettingWord (clock_word c ++ bytes "F" ++ (48 + n) ∷ []) (pair 3 (time_code c n))
fraction c n h k = let w = time c n k in rw (ne_eqb n 0 (λ z. omega arith)) at w

-- The words that there are in lists are these.
settings_word : (w : List ℕ) (p : Pair) → Spelled w p → SettingWord w p
settings_word w p spelled.basic_date = basic_date
settings_word w p spelled.basic_time = basic_time
settings_word w p spelled.basic_date_time = basic_date_time
settings_word w p spelled.basic_interval = basic_interval
settings_word w p date_Y = date DateForm.Y
settings_word w p date_YM = date DateForm.YM
settings_word w p date_YMD = date DateForm.YMD
settings_word w p date_YD = date DateForm.YD
settings_word w p date_YW = date DateForm.YW
settings_word w p date_YWD = date DateForm.YWD
settings_word w p (spelled.year y) = year y
settings_word w p time_H = time ClockForm.H 0 (omega arith)
settings_word w p time_HM = time ClockForm.HM 0 (omega arith)
settings_word w p time_HMS = time ClockForm.HMS 0 (omega arith)
settings_word w p (time_HF n h k) = fraction ClockForm.H n h k
settings_word w p (time_HMF n h k) = fraction ClockForm.HM n h k
settings_word w p (time_HMSF n h k) = fraction ClockForm.HMS n h k
settings_word w p zone_L = zone ZoneForm.L
settings_word w p zone_Z = zone ZoneForm.Z
settings_word w p zone_LD = zone ZoneForm.LD
settings_word w p interval_D = interval

-- A text that is read as a setting is the word of that setting.
pub setting_spelled : (w : List ℕ) (p : Pair) → pair_of w ≡ Some p → SettingWord w p
setting_spelled w p e = settings_word w p (spelled.word_spelled w p e)

-- ---- lists

add_read : (s : Option Settings) (p : Option Pair) → is_some (add_pair s p) ≡ true → is_some s ≡ true
unfolding add_pair
add_read None p h = h
add_read (Some s) p h = refl

-- A list that can be read after a pair could be read before it.
pub pairs_read : (s : Option Settings) (ws : List (List ℕ)) → is_some (add_pairs s ws) ≡ true → is_some s ≡ true
unfolding add_pairs
pairs_read s [] h = h
pairs_read s (w ∷ ws) h = add_read s (pair_of w) (pairs_read (add_pair s (pair_of w)) ws h)

-- ---- pieces

-- A text has a first piece.
some_piece : (c : ℕ) (l : List ℕ) → (w : List ℕ) × (ws : List (List ℕ)) × (split_on c l ≡ w ∷ ws)
unfolding split_on
some_piece c [] = ([], [], refl)
some_piece c (x ∷ l) = go (eqb x c) (split_on c l) refl
  where
    go : (b : Bool) (ps : List (List ℕ)) → split_on c l ≡ ps → (w : List ℕ) × (ws : List (List ℕ)) × (cond b ([] ∷ ps) (with_first x ps) ≡ w ∷ ws)
    go true ps e = ([], ps, refl)
    go false [] e = (x ∷ [], [], refl)
    go false (w ∷ ws) e = (x ∷ w, ws, refl)

join_first : (c x : ℕ) (w : List ℕ) (ws : List (List ℕ)) → join_with c ((x ∷ w) ∷ ws) ≡ x ∷ join_with c (w ∷ ws)
unfolding join_with
join_first c x w [] = refl
join_first c x w (v ∷ ws) = refl

join_empty : (c : ℕ) (w : List ℕ) (ws : List (List ℕ)) → join_with c ([] ∷ w ∷ ws) ≡ c ∷ join_with c (w ∷ ws)
unfolding join_with
join_empty c w ws = refl

-- The pieces with the octet between them are the text.
pub join_split : (c : ℕ) (l : List ℕ) → join_with c (split_on c l) ≡ l
unfolding split_on join_with
join_split c [] = refl
join_split c (x ∷ l) = step (eqb x c) refl (some_piece c l) (join_split c l)
  where
    step : (b : Bool) → eqb x c ≡ b → (w : List ℕ) × (ws : List (List ℕ)) × (split_on c l ≡ w ∷ ws) → join_with c (split_on c l) ≡ l
        → join_with c (cond b ([] ∷ split_on c l) (with_first x (split_on c l))) ≡ x ∷ l
    step true e p i =
        let z : x ≡ c = eqb-true x c e in
        let j : join_with c (p.0 ∷ p.1) ≡ l = ap (join_with c) (sym p.2) ∙ i in
        rw p.2 (join_empty c p.0 p.1 ∙ rw (j, z))
    step false e p i =
        let j : join_with c (p.0 ∷ p.1) ≡ l = ap (join_with c) (sym p.2) ∙ i in
        rw p.2 (join_first c x p.0 p.1 ∙ rw j)

-- The pieces of each list.
abbrev pub pieces : List (List ℕ) → List (List (List ℕ))
pieces ls = map (split_on 32) ls

joined_pieces : (ls : List (List ℕ)) → map (join_with 32) (pieces ls) ≡ ls
joined_pieces [] = refl
joined_pieces (l ∷ ls) = rw (join_split 32 l, joined_pieces ls)

-- The text of a type, from the pieces of its lists.
pub type-text : (l : List ℕ) (ls : List (List ℕ)) → split_on 124 l ≡ ls → l ≡ type_text (pieces ls)
unfolding type_text
type-text l ls e = sym (rw (joined_pieces ls, ← e) (join_split 124 l))

-- What is read passed the test.
pub kept : (b : Bool) (x : TypeRead) (t : AnyType) → cond b x TypeRead.Unreadable ≡ TypeRead.«Type» t → b ≡ true
kept true x t h = refl
kept false x t h = absurd (let z : ◌≡◌ {A = ℕ} 0 1 = cc in omega arith)
