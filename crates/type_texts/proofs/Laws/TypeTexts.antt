-- The lists of a type's text, one at a time.
use mathlib.Core.Path.{◌≡◌, refl, ap, sym, ◌∙◌}
use mathlib.Core.Bool.{Bool, true, false, ◌&&◌, cond, and-false}
use mathlib.Core.List.{List, [], ◌∷◌, ◌++◌, map}
use Prim.Native.Nat.{ℕ, ◌+◌, ◌-◌, ◌<◌, ◌≤◌}
use native.Mathlib.Omega.{arith}
use lib.Dec.{eqb, leb, ltb}
use lib.ListN.{length, take, drop, length-append, length-drop, length-map}
use lib.Seq.{drop-drop, take_all}
use borrow.Author.Tests.{le-leb, leb-true, lt-leb, ltb-true, ltb-false}
use Rattle.std.specs.Prelude.{Option, Some, None}
use Rattle.std.specs.Option.{option_map, option_map_or}
use Rattle.octets.specs.Pieces.{split_on, span_to, with_first}
use Rattle.octets.proofs.Laws.Pieces.{span_le, split_one, split_more}
use Rattle.lists.specs.Lists.{list_of}
use Rattle.lists.specs.Lists.{most_lists}
use Rattle.lists.specs.declared.lists.Settings.{Settings}
use Rattle.lists.specs.Several.{all_read, few}
use Rattle.type_texts.specs.TypeTexts.{all_of, joined, lists_of, usable}
use Rattle.types.specs.AnyTypes.{duration_type, found_type, limited_to}
use Rattle.types.specs.Types.{placed}
use Rattle.types.specs.declared.types.AnyType.{AnyType}
use Rattle.answers.specs.declared.refusals.Refusal.{Refusal}
use Rattle.types.specs.declared.types.TypeFound.{TypeFound}
use Rattle.types.specs.declared.types.Limits.{Limits}
use Rattle.types.specs.declared.types.TypeRead.{TypeRead}

-- Lists that can be read are those that are read.
read-are : (l : List (Option Settings)) (k : List Settings) → all_read l ≡ Some k → map Some k ≡ l
unfolding all_read
read-are [] k e = let q : [] ≡ k = cc in rw (← q)
read-are (None ∷ l) k e = cc
read-are (Some s ∷ l) k e = go (all_read l) refl e (read-are l)
  where
    go : (o : Option (List Settings)) → all_read l ≡ o → option_map (λ r. s ∷ r) o ≡ Some k
        → ((r : List Settings) → all_read l ≡ Some r → map Some r ≡ l) → map Some k ≡ Some s ∷ l
    go None h e f = cc
    go (Some r) h e f = let q : s ∷ r ≡ k = cc in rw (← q) (ap (λ (m : List (Option Settings)). Some s ∷ m) (f r h))

-- Lists of which one cannot be read are refused.
unread : (limits : Limits) (l : List (Option Settings)) → all_read l ≡ None → all_of (usable limits) l ≡ false
unfolding all_read all_of usable
unread limits [] e = cc
unread limits (None ∷ l) e = refl
unread limits (Some s ∷ l) e = go (all_read l) refl e (unread limits l)
  where
    go : (o : Option (List Settings)) → all_read l ≡ o → option_map (λ r. s ∷ r) o ≡ None → (all_read l ≡ None → all_of (usable limits) l ≡ false)
        → (usable limits (Some s) && all_of (usable limits) l) ≡ false
    go None h e f = rw (f h, and-false)
    go (Some r) h e f = cc

-- Lists that are read are these.
read_all-are : (k : List Settings) → all_read (map Some k) ≡ Some k
unfolding all_read
read_all-are [] = refl
read_all-are (s ∷ k) = rw (read_all-are k)

-- Where one of the lists cannot be read, none are.
read-none : (k : List Settings) (r : List (Option Settings)) → all_read (map Some k ++ None ∷ r) ≡ None
unfolding all_read
read-none [] r = refl
read-none (s ∷ k) r = rw (read-none k r)

-- Lists that are kept are all of them, and not too many.
pub few-kept : (l : List (Option Settings)) (k : List Settings) → few l ≡ Some k → (map Some k ≡ l) × (length k ≤ most_lists)
unfolding few
few-kept l k e = go (leb (length l) most_lists) refl e
  where
    go : (b : Bool) → leb (length l) most_lists ≡ b → cond b (all_read l) None ≡ Some k → (map Some k ≡ l) × (length k ≤ most_lists)
    go true h e =
        let q : map Some k ≡ l = read-are l k e in
        let n : length (map Some k) ≡ length k = length-map k Some in
        (q, omega (arith, leb-true (length l) most_lists h, ap length q))
    go false h e = cc

-- Where none are kept they are refused: there are more than six, or one of them cannot be read.
pub few-refused : (limits : Limits) (l : List (Option Settings)) → few l ≡ None → joined limits l ≡ TypeRead.Unreadable
unfolding few joined
few-refused limits [] e = refl
few-refused limits (s ∷ r) e = go (leb (length (s ∷ r)) most_lists) refl e
  where
    go : (b : Bool) → leb (length (s ∷ r)) most_lists ≡ b → cond b (all_read (s ∷ r)) None ≡ None → joined limits (s ∷ r) ≡ TypeRead.Unreadable
    go true h e = simp (unread limits (s ∷ r) e, and-false)
    go false h e = rw h

-- What lists that are kept give is what all of them give: where none are kept they are refused.
pub few-joined : (limits : Limits) (l : List (Option Settings)) → option_map_or (λ k. joined limits (map Some k)) (few l) TypeRead.Unreadable ≡ joined limits l
few-joined limits l = go (few l) refl
  where
    go : (o : Option (List Settings)) → few l ≡ o → option_map_or (λ k. joined limits (map Some k)) o TypeRead.Unreadable ≡ joined limits l
    go None e = sym (few-refused limits l e)
    go (Some k) e = ap (joined limits) (few-kept l k e).0

-- A text has a piece.
some_piece : (c : ℕ) (l : List ℕ) → 0 < length (split_on c l)
unfolding split_on
some_piece c [] = omega arith
some_piece c (x ∷ l) = go (eqb x c) (split_on c l)
  where
    go : (b : Bool) (ps : List (List ℕ)) → 0 < length (cond b ([] ∷ ps) (with_first x ps))
    go true ps = omega arith
    go false [] = omega arith
    go false (q ∷ ps) = omega arith

-- One turn of the loop over the lists: from the place p to the place e of the next bar.
module _ (s : List ℕ) (p e : ℕ) (k : List (Option Settings)) (a : Option Settings) (he : e ≡ p + span_to 124 (drop p s))
    (ha : a ≡ list_of (take (e - p) (drop p s))) where
  -- A list with a bar behind it is one more.
  pub next_list : e < length s → k ++ lists_of (drop p s) ≡ k ++ a ∷ lists_of (drop (e + 1) s)
  unfolding lists_of
  next_list h =
      let i : span_to 124 (drop p s) < length (drop p s) = rw length-drop (omega arith) in
      let j : e - p ≡ span_to 124 (drop p s) = omega arith in
      let n : p + (span_to 124 (drop p s) + 1) ≡ e + 1 = omega arith in
      rw (split_more 124 (drop p s) i, drop-drop (span_to 124 (drop p s) + 1) p s, n, ha, j)

  -- The last list, which has none, is one more too.
  pub last_list : p ≤ length s → length s ≤ e → k ++ lists_of (drop p s) ≡ k ++ a ∷ []
  unfolding lists_of
  last_list hp h =
      let l : length (drop p s) ≡ length s - p = length-drop p s in
      let i : span_to 124 (drop p s) ≡ length (drop p s) = omega (arith, span_le 124 (drop p s)) in
      let t : take (e - p) (drop p s) ≡ drop p s = take_all (e - p) (drop p s) (omega arith) in
      rw (split_one 124 (drop p s) i, ha, t)

  -- A list stands there, with others or without.
  pub some_list : p ≤ length s → (r : List (Option Settings)) × (k ++ lists_of (drop p s) ≡ k ++ a ∷ r)
  some_list hp = go (ltb e (length s)) refl
    where
      go : (b : Bool) → ltb e (length s) ≡ b → (r : List (Option Settings)) × (k ++ lists_of (drop p s) ≡ k ++ a ∷ r)
      go true t = (lists_of (drop (e + 1) s), next_list (ltb-true _ _ t))
      go false t = ([], last_list hp (ltb-false _ _ t))

-- One list more that is read, with none behind it.
pub read_more : (k : List Settings) (a : Settings) → map Some k ++ Some a ∷ [] ≡ map Some (k ++ a ∷ [])
read_more [] a = refl
read_more (s ∷ k) a = ap (λ (m : List (Option Settings)). Some s ∷ m) (read_more k a)

-- One list more that is read, behind those before it.
pub one_more : (k : List Settings) (a : Settings) (r : List (Option Settings)) → map Some k ++ Some a ∷ r ≡ map Some (k ++ a ∷ []) ++ r
one_more [] a r = refl
one_more (s ∷ k) a r = ap (λ (m : List (Option Settings)). Some s ∷ m) (one_more k a r)

-- Six lists are kept, and one more is too many.
pub too_many : (k : List Settings) (l : List ℕ) (r : List (Option Settings)) → length k ≡ most_lists → r ≡ map Some k ++ lists_of l → few r ≡ None
unfolding few lists_of
too_many k l r c e =
    let m : length r ≡ length (map Some k) + length (map list_of (split_on 124 l)) = ap length e ∙ length-append (map Some k) (map list_of (split_on 124 l)) in
    let n : length (map Some k) ≡ length k = length-map k Some in
    let o : length (map list_of (split_on 124 l)) ≡ length (split_on 124 l) = length-map (split_on 124 l) list_of in
    let p = some_piece 124 l in
    rw (lt-leb (length r) most_lists (omega arith))

-- Where one cannot be read none are kept.
pub one_unread : (k : List Settings) (r t : List (Option Settings)) → r ≡ map Some k ++ None ∷ t → few r ≡ None
unfolding few
one_unread k r t e = rw (e, read-none k t) (go (leb (length (map Some k ++ None ∷ t)) most_lists))
  where
    go : (b : Bool) → ◌≡◌ {A = Option (List Settings)} (cond b None None) None
    go true = refl
    go false = refl

-- Up to six lists are kept.
pub all_kept : (k : List Settings) (r : List (Option Settings)) → length k ≤ most_lists → r ≡ map Some k → few r ≡ Some k
unfolding few
all_kept k r h e =
    let n : length (map Some k) ≡ length k = length-map k Some in
    rw (e, le-leb (length (map Some k)) most_lists (omega arith), read_all-are k)

-- A text without a bar is one list.
pub one_list : (l : List ℕ) (bar : ℕ) → bar ≡ 0 + span_to 124 l → length l ≤ bar → lists_of l ≡ list_of l ∷ []
unfolding lists_of
one_list l bar h k = rw (split_one 124 l (omega (arith, span_le 124 l)))

-- A single bar stands between two lists.
pub two-lists : (l : List ℕ) (bar next : ℕ) → bar ≡ 0 + span_to 124 l → bar < length l → next ≡ bar + 1 + span_to 124 (drop (bar + 1) l) → length l ≤ next
    → lists_of l ≡ list_of (take bar l) ∷ list_of (take (length l - (bar + 1)) (drop (bar + 1) l)) ∷ []
unfolding lists_of
two-lists l bar next h k g n =
    let d : length (drop (bar + 1) l) ≡ length l - (bar + 1) = length-drop (bar + 1) l in
    let e : span_to 124 l ≡ bar = omega arith in
    rw (
      take_all (length l - (bar + 1)) (drop (bar + 1) l) (omega arith),
      split_more 124 l (omega arith),
      e,
      split_one 124 (drop (bar + 1) l) (omega (arith, span_le 124 (drop (bar + 1) l))),
    )

-- The type of durations under limits, as it is handed on.
pub duration-found : (limits : Limits) (b : Bool)
    → cond (placed limits false false) (TypeFound.Duration b) (TypeFound.NoType Refusal.Settings) ≡ found_type (limited_to limits (duration_type b))
unfolding limited_to
duration-found limits true = go (placed limits false false)
  where
    go : (k : Bool) → cond k (TypeFound.Duration true) (TypeFound.NoType Refusal.Settings)
        ≡ found_type (cond k (TypeRead.«Type» AnyType.ListedDuration) TypeRead.Unreadable)
    go true = refl
    go false = refl
duration-found limits false = go (placed limits false false)
  where
    go : (k : Bool) → cond k (TypeFound.Duration false) (TypeFound.NoType Refusal.Settings) ≡ found_type (cond k (TypeRead.«Type» AnyType.Duration) TypeRead.Unreadable)
    go true = refl
    go false = refl
