-- What the code's answers say of a duration's components.
use Rattle.std.specs.Prelude.{ℕ, suc, ◌+◌, ◌-◌, ◌<◌, ◌≡◌, true, false, ◌&&◌, ◌||◌, not, cond, List, [], ◌∷◌, eqb, ltb, get_or, set, take, drop}
use Rattle.std.specs.Prelude.{Option, Some, None}
use Rattle.octets.specs.Found.{Found, found, nothing, onward}
use Rattle.texts.specs.Octets.{letter_w}
use Rattle.durations.specs.declared.Duration.{Duration}
use Rattle.durations.specs.Parts.{Part, absent, present}
use Rattle.durations.specs.Texts.{get_present, get_parts}
use Rattle.reading.specs.declared.steps.Component.{Component}
use Rattle.reading.specs.declared.steps.Tally.{Tally}
use Rattle.reading.specs.declared.steps.Progress.{Progress}

-- ---- one component

abbrev pub part_of : Component → Part
part_of g = present g.number g.digits g.fraction

-- What a designator finds: the component where it is the octet behind it.
abbrev pub seen_part : Option Component → ℕ → Found ℕ Part
seen_part (Some g) c = cond (eqb g.designator c) (found (part_of g) g.rest.now) nothing
seen_part None c = nothing

-- That a component, or none, is what a text begins with, for every designator.
unfoldable pub IsComponent : List ℕ → Option Component → Type 0
IsComponent l o = (c : ℕ) → 0 < c → seen_part o c ≡ get_present c l

-- ---- several

-- The designators of all seven.
abbrev pub designators : List ℕ
designators = 89 ∷ 77 ∷ letter_w ∷ 68 ∷ 72 ∷ 77 ∷ 83 ∷ []

-- Those from a place on, up to another.
abbrev pub designators_in : ℕ → ℕ → List ℕ
designators_in first end = take (end - first) (drop first designators)

abbrev pub none_read : Tally
none_read = record { numbers = 0 ∷ 0 ∷ 0 ∷ 0 ∷ 0 ∷ 0 ∷ 0 ∷ []; count = 0; weeks = false; last = 0; digits = 0; fraction = 0 }

-- One component more, at a place; weeks have the place 2.
abbrev pub with_part : ℕ → Part → Tally → Tally
with_part k absent t = t
with_part k (present n d f) t = record {
  numbers = set t.numbers k n;
  count = t.count + 1;
  weeks = cond (eqb k 2) true t.weeks;
  last = k;
  digits = d;
  fraction = f.number;
}

-- Several, from a place on.
unfoldable pub with_parts : Tally → ℕ → List Part → Tally
with_parts t k [] = t
with_parts t k (p ∷ ps) = with_parts (with_part k p t) (suc k) ps

-- What these designators add to what was read.
unfoldable pub added_by : List ℕ → List ℕ → Tally → ℕ → Found ℕ Tally
added_by cs l t k = onward (get_parts cs l) λ ps r. found (with_parts t k ps) r

-- The same, of what was read so far, from the component that stands next.
abbrev pub added_from : List ℕ → Progress → ℕ → Found ℕ Tally
added_from cs g k = added_by cs g.rest.now g.tally k

-- That what was read before a place and what was read after it give the same with the designators behind the place.
abbrev pub Advanced : ℕ → Progress → Progress → Type 0
Advanced k g h = (cs : List ℕ) → added_from (get_or designators k 0 ∷ cs) g k ≡ added_from cs h (k + 1)

-- ---- the duration

abbrev pub tallied : Tally → Duration
tallied t = record {
  last = t.last;
  years = get_or t.numbers 0 0;
  months = get_or t.numbers 1 0;
  weeks = get_or t.numbers 2 0;
  days = get_or t.numbers 3 0;
  hours = get_or t.numbers 4 0;
  minutes = get_or t.numbers 5 0;
  seconds = get_or t.numbers 6 0;
  digits = t.digits;
  fraction = t.fraction;
}

-- Some component, weeks alone, and nothing left of the text.
abbrev pub whole_tally : Tally → List ℕ → Option Duration
whole_tally t [] = cond (ltb 0 t.count && (eqb t.count 1 || not t.weeks)) (Some (tallied t)) None
whole_tally t (x ∷ r) = None

-- "[T] followed by one or more": some component more than before `T`.
abbrev pub timed_tally : Tally → Found ℕ Tally → Option Duration
timed_tally t (found u r) = cond (eqb u.count t.count) None (whole_tally u r)
timed_tally t nothing = None
