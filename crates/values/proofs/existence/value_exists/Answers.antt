use mathlib.Core.Path.{◌≡◌, refl}
use mathlib.Core.Bool.{Bool, true, false, ◌&&◌}
use Rattle.calendar.specs.Dates.{exists_of}
use Rattle.texts.specs.declared.values.Value.{Value}
use Rattle.held_values.specs.Existence.{exists_value}
use Rattle.values.specs.Parts.{exists_date_of, exists_time_of}
use Rattle.values.proofs.existence.value_exists.Goals as goal

-- a value exists where its parts do
parts : (v : Value) → exists_value v ≡ (exists_date_of v && exists_time_of v)
parts (Value.Date date) = go (exists_of date)
  where
    go : (b : Bool) → b ≡ (b && true)
    go true = refl
    go false = refl
parts (Value.Time time) = refl
parts (Value.DateTime date time) = refl

pub returns-then-dated : goal.returns-then-dated
returns-then-dated c =
    rw (parts c.args.value, ← c.date_of_value_exists-dated.ensures, c.if-dated.true) c.time_of_value_exists-timed.ensures

pub returns-else-dated : goal.returns-else-dated
returns-else-dated c = simp (parts c.args.value, ← c.date_of_value_exists-dated.ensures, c.if-dated.false)
