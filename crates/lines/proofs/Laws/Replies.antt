-- Replies, from the octets that are stored to the line.
use mathlib.Core.Path.{◌≡◌, refl, ap, ◌∙◌}
use mathlib.Core.Bool.{true, cond, and-false}
use mathlib.Core.List.{List, ◌∷◌, ◌++◌}
use Prim.Native.Nat.{ℕ, ◌+◌, ◌-◌, ◌<◌, ◌≤◌}
use native.Mathlib.Omega.{arith}
use lib.Dec.{eqb, ltb}
use lib.ListN.{length, take, drop, length-drop}
use lib.Seq.{take_all, take-append_seam}
use borrow.Author.Tests.{eq-eqb, ne_eqb, le-leb, lt-leb, lt-ltb, le-ltb}
use Rattle.octets.specs.Octets.{bytes}
use Rattle.octets.specs.Pieces.{span_to}
use Rattle.octets.specs.Stores.{StoredText}
use Rattle.octets.proofs.Laws.Stores.{sets-front}
use Rattle.answers.specs.declared.counts.Bits.{Bits}
use Rattle.answers.specs.declared.outcomes.Outcome.{Outcome}
use Rattle.answers.specs.Outcomes.{Answer, done, refused, outcome_of, room_of}
use Rattle.line_replies.specs.Lines.{longest_line, unasked, answer_shown, worked, cut_again, reply_of}
use Rattle.line_replies.specs.Rooms.{reply_capacity, reply_length, room_with}
use Rattle.answers.proofs.Laws.Outcomes.{Told, given, withheld, told, number_range, enough, none}

-- ---- the reply to an outcome

-- The reply to a number, and after 0 to so many octets at the front of a buffer.
unfoldable pub reply_to : (List ℕ → List ℕ) → ℕ → ℕ → List ℕ → List ℕ
reply_to show number count buffer =
    cond (eqb number 0) (bytes "0 " ++ show (take count buffer) ++ bytes "\n") ((48 + number) ∷ bytes "\n")

module _ (show : List ℕ → List ℕ) (number count : ℕ) (buffer : List ℕ) where
  pub reply_refused : (number ≡ 0 → ⊥) → reply_to show number count buffer ≡ (48 + number) ∷ bytes "\n"
  unfolding reply_to
  reply_refused h = rw (ne_eqb _ _ h)

  pub reply_done : number ≡ 0 → reply_to show number count buffer ≡ bytes "0 " ++ show (take count buffer) ++ bytes "\n"
  unfolding reply_to
  reply_done h = rw (eq-eqb _ _ h)

-- The number of an outcome is at most 7.
pub number_most : (answer : Answer) (room : List ℕ) {outcome : Outcome} → outcome ≡ outcome_of answer room → outcome.number ≤ 7
number_most answer room e = rw e (go (told answer room)) where
  go : Told answer room → (outcome_of answer room).number ≤ 7
  go (given result bits a h o) = rw o (omega arith)
  go (withheld why o r) = rw o (omega (arith, number_range why))

-- The length of an outcome is at most the room's.
pub length_most : (answer : Answer) (room : List ℕ) {outcome : Outcome} → outcome ≡ outcome_of answer room →
    outcome.length.count ≤ length room
length_most answer room e = rw e (go (told answer room)) where
  go : Told answer room → (outcome_of answer room).length.count ≤ length room
  go (given result bits a h o) = rw o h
  go (withheld why o r) = rw o (omega arith)

-- The reply to an outcome and what it leaves in a buffer.
abbrev reply_on : (List ℕ → List ℕ) → Outcome → List ℕ → List ℕ
reply_on show outcome left = reply_to show outcome.number outcome.length.count left

-- An answer whose result has its place in the buffer is shown.
reply_shown : (show : List ℕ → List ℕ) (answer : Answer) (buffer : List ℕ) →
    ((result : List ℕ) (bits : Bits) → answer ≡ done result bits → length result ≤ length buffer) →
    reply_on show (outcome_of answer buffer) (room_of answer buffer) ≡ answer_shown show answer
reply_shown show (refused why) buffer most =
    rw (none why buffer).0 (reply_refused show _ _ _ (λ z. omega (arith, number_range why)))
reply_shown show (done result bits) buffer most =
    let k = enough result buffer bits (most result bits refl) in
    rw (k.0, k.1)
    (reply_done show 0 (length result) _ refl
    ∙ ap (λ (l : List ℕ). bytes "0 " ++ show l ++ bytes "\n") (take-append_seam result (drop (length result) buffer)))

pub answer_put : (show : List ℕ → List ℕ) (answer : Answer) (buffer : List ℕ) {left room m : List ℕ} {outcome : Outcome} {r : ℕ} →
    ((result : List ℕ) (bits : Bits) → answer ≡ done result bits → length result ≤ length buffer) →
    outcome ≡ outcome_of answer buffer → left ≡ room_of answer buffer →
    StoredText room m 0 (reply_to show outcome.number outcome.length.count left) r → StoredText room m 0 (answer_shown show answer) r
answer_put show answer buffer most e f p = rw (← reply_shown show answer buffer most, ← e, ← f) p

-- ---- the semicolons

module _ (work rest : List ℕ) {second : ℕ} (found : second ≡ 0 + span_to 59 (drop 0 rest)) where
  pub uncut : length rest ≤ second → cut_again work rest ≡ unasked
  unfolding cut_again
  uncut h =
      let e : second ≡ 0 + span_to 59 rest = found in
      rw (le-ltb (span_to 59 rest) (length rest) (omega arith))

  pub cut : second < length rest →
      cut_again work rest ≡ worked work (take second rest) (take (length rest - (second + 1)) (drop (second + 1) rest))
  unfolding cut_again
  cut h =
      let e : second ≡ 0 + span_to 59 rest = found in
      let s : span_to 59 rest ≡ second = omega arith in
      let t : ltb second (length rest) ≡ true = lt-ltb _ _ h in
      let d : length (drop (second + 1) rest) ≡ length rest - (second + 1) = length-drop (second + 1) rest in
      rw (s, t, take_all (length rest - (second + 1)) (drop (second + 1) rest) (omega arith))

module _ (line : List ℕ) where
  pub long_line : longest_line < length line → reply_of line ≡ unasked
  unfolding reply_of
  long_line h = rw (lt-leb (length line) longest_line h)

  module _ {first : ℕ} (found : first ≡ 0 + span_to 59 (drop 0 line)) where
    pub uncut_line : length line ≤ first → reply_of line ≡ unasked
    unfolding reply_of
    uncut_line h =
        let e : first ≡ 0 + span_to 59 line = found in
        rw (le-ltb (span_to 59 line) (length line) (omega arith), and-false)

    pub cut_line : length line ≤ longest_line → first < length line →
        reply_of line ≡ cut_again (take first line) (take (length line - (first + 1)) (drop (first + 1) line))
    unfolding reply_of
    cut_line k h =
        let e : first ≡ 0 + span_to 59 line = found in
        let s : span_to 59 line ≡ first = omega arith in
        let t : ltb first (length line) ≡ true = lt-ltb _ _ h in
        let d : length (drop (first + 1) line) ≡ length line - (first + 1) = length-drop (first + 1) line in
        rw (le-leb (length line) longest_line k, s, t, take_all (length line - (first + 1)) (drop (first + 1) line) (omega arith))

-- ---- in a lent room

module _ (line room : List ℕ) where
  pub short-room : length room < reply_capacity → (0 ≡ reply_length line room) × ((room ≡ room_with line room) × (0 ≤ length room))
  unfolding reply_length room_with
  short-room h = let t = lt-leb reply_capacity (length room) h in (rw t, (rw t, omega arith))

  pub replied : {m text : List ℕ} {r : ℕ} → reply_capacity ≤ length room → reply_of line ≡ text → StoredText room m 0 text r → r ≤ reply_capacity →
      (r ≡ reply_length line room) × ((m ≡ room_with line room) × (r ≤ length room))
  unfolding reply_length room_with
  replied {text = text} h e p k =
      let t = le-leb reply_capacity (length room) h in
      let n : length text ≤ length room = omega (arith, p.end) in
      (rw (t, e) (p.end ∙ omega arith), (rw (t, e) (p.text ∙ sets-front room text n), omega arith))
