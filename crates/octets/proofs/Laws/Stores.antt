-- Octets stored one after another.
use mathlib.Core.Path.{◌≡◌, refl, ap, ◌∙◌}
use mathlib.Core.List.{List, [], ◌∷◌, ◌++◌, append_assoc}
use Prim.Native.Nat.{ℕ, suc, ◌+◌, ◌-◌, ◌<◌, ◌≤◌}
use native.Mathlib.Nat.{add-zero}
use native.Mathlib.Numerals.{add-one}
use native.Mathlib.Omega.{arith}
use lib.ListN.{length, length-append, drop, get_or, set}
use lib.Seq.{drop-cons, drop-drop, sets, sets-eq, set_comm}
use borrow.Rule.Slice.PartMut.{put_mid}
use borrow.Author.Tests.{le-leb, lt-leb}
use Rattle.octets.specs.Stores.{StoredText, place_after, room_after}

-- stores at places that differ may change places
pub sets-set : (l : List ℕ) (i j a : ℕ) (t : List ℕ) → i + length t ≤ j → sets (set l j a) i t ≡ set (sets l i t) j a
sets-set l i j a [] h = refl
sets-set l i j a (c ∷ t) h =
    let n : j ≡ i → ⊥ = λ e. omega arith in
    rw (set_comm l j i a c n) (sets-set (set l i c) (suc i) j a t (omega arith))

-- a run of stores, cut in two
pub sets-append : (l : List ℕ) (i : ℕ) (t u : List ℕ) → sets l i (t ++ u) ≡ sets (sets l i t) (i + length t) u
sets-append l i [] u = rw add-zero
sets-append l i (c ∷ t) u = rw (sets-append (set l i c) (suc i) t u) (ap (λ (k : ℕ). sets (sets (set l i c) (suc i) t) k u) (omega arith))

-- no text
pub put_none : (l : List ℕ) (at : ℕ) → StoredText l l at [] at
put_none l at = record { text = refl; end = omega arith }

-- an octet, and a text after it
pub put_octet : {l m : List ℕ} {at c r : ℕ} {t : List ℕ} → StoredText (set l at c) m (at + 1) t r → StoredText l m at (c ∷ t) r
put_octet h = record { text = rw add-one at h.text; end = h.end ∙ omega arith }

-- one text after another
pub put_then : {l m n : List ℕ} {at p r : ℕ} {t u : List ℕ} → StoredText l m at t p → StoredText m n p u r → StoredText l n at (t ++ u) r
put_then h k =
    record {
      text = rw sets-append (k.text ∙ rw (h.text, h.end));
      end = k.end ∙ rw (h.end, length-append) (omega arith);
    }

-- what is left of two texts when the first one is stored
pub put_rest : {l m n : List ℕ} {at p r : ℕ} {t u : List ℕ} → StoredText l m at t p → StoredText l n at (t ++ u) r → StoredText m n p u r
put_rest h k =
    record {
      text = k.text ∙ rw (sets-append, h.text, h.end);
      end = k.end ∙ rw (h.end, length-append) (omega arith);
    }

-- a text stored at the front
pub sets-front : (l t : List ℕ) → length t ≤ length l → sets l 0 t ≡ t ++ drop (length t) l
sets-front l t h = let z : 0 + length t ≡ length t = omega arith in rw (sets-eq t l 0 (omega arith), z)

module _ {room octets m : List ℕ} {at r : ℕ} where
  -- Octets that have their place in the room are stored there.
  pub put_there : (r ≡ place_after room at octets) × (m ≡ room_after room at octets) → at + length octets ≤ length room → StoredText room m at octets r
  unfolding place_after room_after
  put_there e h = let t = le-leb (at + length octets) (length room) h in record { text = rw t at e.1; end = rw t at e.0 }

  -- What is to be shown of code that stores octets which have their place in the room.
  pub put_all : at + length octets ≤ length room → StoredText room m at octets r
      → record { value : r ≡ place_after room at octets; room_after : m ≡ room_after room at octets }
  unfolding place_after room_after
  put_all h s = let t = le-leb (at + length octets) (length room) h in record { value = rw t s.end; room_after = rw t s.text }

-- What is to be shown of code that leaves a room as it was because it ends before the octets.
pub put_nothing : (room octets : List ℕ) (at : ℕ) → length room < at + length octets
    → record { value : at ≡ place_after room at octets; room_after : room ≡ room_after room at octets }
unfolding place_after room_after
put_nothing room octets at h = let t = lt-leb (at + length octets) (length room) h in record { value = rw t; room_after = rw t }

-- Octets that are copied over a part of a room are stored there.
pub copied : (room octets : List ℕ) (at : ℕ) → at + length octets ≤ length room
    → StoredText room (put_mid at (at + length octets - at) room octets) at octets (at + length octets)
copied room octets at h =
    let e : at + length octets - at ≡ length octets = omega arith in
    record { text = rw (sets-eq octets room at h, e, drop-drop (length octets) at room) (simp append_assoc); end = refl }

-- octets that were stored at the front of a room that has place for them
pub put_front : (room octets : List ℕ) {m : List ℕ} → length octets ≤ length room → m ≡ room_after room 0 octets → m ≡ octets ++ drop (length octets) room
unfolding room_after
put_front room octets h e =
    let z : 0 + length octets ≡ length octets = omega arith in
    (rw (z, le-leb (length octets) (length room) h) at e) ∙ sets-front room octets h
