-- The seven numbers, and what a number says of the result and of the room.
use mathlib.Core.Path.{◌≡◌, refl, sym, ap, ◌∙◌}
use mathlib.Core.Bool.{Bool, true, false, cond}
use mathlib.Core.List.{List, [], ◌∷◌, ◌++◌}
use Prim.Native.Nat.{ℕ, ◌≤◌, ◌<◌}
use native.Mathlib.Omega.{arith}
use lib.Dec.{leb}
use lib.ListN.{length, take, drop, length-append, length-drop}
use lib.Seq.{take-append_seam, drop-append_seam}
use borrow.Author.Tests.{le-leb, lt-leb, leb-true, leb-false}
use Rattle.answers.specs.declared.counts.Bits.{Bits}
use Rattle.answers.specs.declared.refusals.Refusal.{Refusal}
use Rattle.answers.specs.declared.outcomes.Outcome.{Outcome}
use Rattle.answers.specs.Refusals.{number_of}
use Rattle.answers.specs.Outcomes.{Answer, done, refused, refusal, success, fits, outcome_of, room_of}

-- Cases that numbers tell apart: two of one number are one.
pub by_number : {A : Type 0} (number : A → ℕ) (at : ℕ → A) → ((a : A) → at (number a) ≡ a) → (a b : A) → number a ≡ number b → a ≡ b
by_number number at back a b e = sym (back a) ∙ ap at e ∙ back b

-- the refusal of a number
abbrev refusal_at : ℕ → Refusal
refusal_at n =
    cond (leb n 1) Refusal.Settings
    (cond (leb n 2) Refusal.Rows
    (cond (leb n 3) Refusal.Form
    (cond (leb n 4) Refusal.Existence
    (cond (leb n 5) Refusal.Membership
    (cond (leb n 6) Refusal.Encoding Refusal.Room)))))

refusal_back : (why : Refusal) → refusal_at (number_of why) ≡ why
refusal_back Refusal.Settings = refl
refusal_back Refusal.Rows = refl
refusal_back Refusal.Form = refl
refusal_back Refusal.Existence = refl
refusal_back Refusal.Membership = refl
refusal_back Refusal.Encoding = refl
refusal_back Refusal.Room = refl

-- Two refusals of one number are one.
pub one_number : (a b : Refusal) → number_of a ≡ number_of b → a ≡ b
one_number = by_number number_of refusal_at refusal_back

-- The numbers of refusals are 1 to 7.
pub number_range : (why : Refusal) → (1 ≤ number_of why) × (number_of why ≤ 7)
number_range Refusal.Settings = omega arith
number_range Refusal.Rows = omega arith
number_range Refusal.Form = omega arith
number_range Refusal.Existence = omega arith
number_range Refusal.Membership = omega arith
number_range Refusal.Encoding = omega arith
number_range Refusal.Room = omega arith

-- In the order of the paper's table: "settings unreadable", "two lists that don't make one row", "not of the type's form", "no such date,
-- time or difference", "exists, but not in the type", "not what the encoder writes", "the lent room is shorter than the result".
pub numbers_in_order : ◌≡◌ {A = List ℕ}
    (number_of Refusal.Settings ∷ number_of Refusal.Rows ∷ number_of Refusal.Form ∷ number_of Refusal.Existence ∷ number_of Refusal.Membership
    ∷ number_of Refusal.Encoding ∷ number_of Refusal.Room ∷ [])
    (1 ∷ 2 ∷ 3 ∷ 4 ∷ 5 ∷ 6 ∷ 7 ∷ [])
numbers_in_order = refl

-- An answer meets a lent room in one of three ways: the result has its place, the room is shorter, or there is no result.
module _ (result room : List ℕ) (bits : Bits) where
  pub enough : length result ≤ length room
      → (outcome_of (done result bits) room ≡ success result bits) × (room_of (done result bits) room ≡ result ++ drop (length result) room)
  unfolding outcome_of room_of fits
  enough h = let t = le-leb (length result) (length room) h in (simp t, simp t)

  pub short : length room < length result
      → (outcome_of (done result bits) room ≡ refusal Refusal.Room) × (room_of (done result bits) room ≡ room)
  unfolding outcome_of room_of fits
  short h = let t = lt-leb (length result) (length room) h in (simp t, simp t)

-- What is to be shown of code that gives an answer in a room: what it returns, and what the room holds then.
abbrev pub Given : Answer → List ℕ → Outcome → List ℕ → Type 0
Given answer room r m = record { value : r ≡ outcome_of answer room; room_after : m ≡ room_of answer room }

module _ (result room : List ℕ) (bits : Bits) {r : Outcome} {m : List ℕ} where
  -- what is to be shown of code that refuses for the room and leaves it, and of code that puts the result into it
  pub left_out : length room < length result → r ≡ refusal Refusal.Room → m ≡ room
      → Given (done result bits) room r m
  left_out h e f = let k = short result room bits h in record { value = e ∙ sym k.0; room_after = f ∙ sym k.1 }

  pub put_in : length result ≤ length room → r ≡ success result bits → m ≡ result ++ drop (length result) room
      → Given (done result bits) room r m
  put_in h e f = let k = enough result room bits h in record { value = e ∙ sym k.0; room_after = f ∙ sym k.1 }

pub none : (why : Refusal) (room : List ℕ) → (outcome_of (refused why) room ≡ refusal why) × (room_of (refused why) room ≡ room)
unfolding outcome_of room_of
none why room = (refl, refl)

-- Success has its result in front, and the rest of the room unchanged.
module _ (result room : List ℕ) (bits : Bits) (h : length result ≤ length room) where
  pub in-front : take (length result) (room_of (done result bits) room) ≡ result
  in-front = ap (take (length result)) (enough result room bits h).1 ∙ take-append_seam result (drop (length result) room)

  pub rest_unchanged : drop (length result) (room_of (done result bits) room) ≡ drop (length result) room
  rest_unchanged = ap (drop (length result)) (enough result room bits h).1 ∙ drop-append_seam result (drop (length result) room)

-- An outcome is that of a success or that of a refusal, whatever the answer and the room.
pub data Told (answer : Answer) (room : List ℕ) : Type 0 where
  given : (result : List ℕ) (bits : Bits) → answer ≡ done result bits → length result ≤ length room
      → outcome_of answer room ≡ success result bits → Told answer room
  withheld : (why : Refusal) → outcome_of answer room ≡ refusal why → room_of answer room ≡ room → Told answer room

pub told : (answer : Answer) (room : List ℕ) → Told answer room
told (refused why) room = withheld why (none why room).0 (none why room).1
told (done result bits) room = go (leb (length result) (length room)) refl where
  go : (t : Bool) → leb (length result) (length room) ≡ t → Told (done result bits) room
  go true e = let h = leb-true (length result) (length room) e in given result bits refl h (enough result room bits h).0
  go false e = let k = short result room bits (leb-false (length result) (length room) e) in withheld Refusal.Room k.0 k.1

module _ (answer : Answer) (room : List ℕ) where
  -- A refusal has length 0, bit count 0 and the room as it was.
  pub refusal_told : ((outcome_of answer room).number ≡ 0 → ⊥)
      → ((outcome_of answer room).length.count ≡ 0) × ((outcome_of answer room).bits.count ≡ 0) × (room_of answer room ≡ room)
  refusal_told f = go (told answer room) where
    go : Told answer room → ((outcome_of answer room).length.count ≡ 0) × ((outcome_of answer room).bits.count ≡ 0) × (room_of answer room ≡ room)
    go (given result bits a h o) = absurd (f (rw o))
    go (withheld why o r) = (rw o, rw o, r)

  -- After 0 the answer is the result at the front of the room, at the length and the bit count that are told.
  pub result_told : (outcome_of answer room).number ≡ 0
      → answer ≡ done (take (outcome_of answer room).length.count (room_of answer room)) (outcome_of answer room).bits
  result_told e = go (told answer room) where
    go : Told answer room → answer ≡ done (take (outcome_of answer room).length.count (room_of answer room)) (outcome_of answer room).bits
    go (given result bits a h o) = rw (o, a) (ap (λ (l : List ℕ). done l bits) (sym (in-front result room bits h)))
    go (withheld why o r) = absurd (let n = number_range why in let z : number_of why ≡ 0 = rw o at e in omega arith)

  -- The room's length never changes.
  pub room-length : length (room_of answer room) ≡ length room
  room-length = go (told answer room) where
    go : Told answer room → length (room_of answer room) ≡ length room
    go (given result bits a h o) = rw a (rw (enough result room bits h).1 (simp (length-append, length-drop) (omega arith)))
    go (withheld why o r) = ap length r
