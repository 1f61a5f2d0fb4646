use mathlib.Core.Path.{◌∙◌, ◌≡◌, ap, refl, sym}
use Rattle.answers.specs.Outcomes.{Answer, outcome_of, refused, room_of}
use Rattle.answers.specs.declared.refusals.Refusal.{Refusal}
use Rattle.types.proofs.Laws.Durations.{found_back, type_read}
use Rattle.types.specs.AnyTypes.{found_type}
use Rattle.types.specs.declared.types.AnyType.{AnyType}
use Rattle.types.specs.declared.types.TypeFound.{TypeFound}
use Rattle.types.specs.declared.types.TypeRead.{TypeRead}
use Rattle.type_texts.specs.TypeTexts.{type_of}
use Rattle.exchanges.specs.Coding.{answer_of, under_type}
use Rattle.codec.proofs.coding.answer.Goals as goal

-- Where there is no type, what is answered is its refusal.
refused-under : (r : TypeRead) (k : AnyType → Answer) (why : Refusal) → found_type r ≡ TypeFound.NoType why → under_type r k ≡ refused why
refused-under (TypeRead.«Type» (AnyType.Point t)) k why e = cc
refused-under (TypeRead.«Type» AnyType.Duration) k why e = cc
refused-under (TypeRead.«Type» AnyType.ListedDuration) k why e = cc
refused-under TypeRead.Unreadable k why e = cc
refused-under TypeRead.NoRow k why e = cc

pub returns-in-Point : goal.returns-in-Point
unfolding answer_of
returns-in-Point c = let a = c.args in rw (found_back (type_of a.limits a.settings.now) c.read_type-read.ensures ∙ ap type_read c.in-Point.is) (c.answer_point.ensures)

pub returns-in-Duration : goal.returns-in-Duration
unfolding answer_of
returns-in-Duration c = let a = c.args in rw (found_back (type_of a.limits a.settings.now) c.read_type-read.ensures ∙ ap type_read c.in-Duration.is) (c.answer_duration.ensures)

pub returns-in-NoType : goal.returns-in-NoType
unfolding answer_of outcome_of room_of
returns-in-NoType c =
    let a = c.args in
    rw (refused-under (type_of a.limits a.settings.now) _ _ (sym c.read_type-read.ensures ∙ c.in-NoType.is)) (record {
      value = c.refused.ensures;
      room_after = refl;
    })
