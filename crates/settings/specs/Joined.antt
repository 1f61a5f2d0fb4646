-- What joined lists make.
use Rattle.std.specs.Prelude.{Option, Some, Result, Ok, Err}
use Rattle.answers.specs.declared.refusals.Refusal.{Refusal}
use Rattle.types.specs.AnyTypes.{found_type, limited_to}
use Rattle.types.specs.declared.types.Limits.{Limits}
use Rattle.types.specs.declared.types.TypeFound.{TypeFound}
use Rattle.types.specs.declared.years.Years.{Years}
use Rattle.lists.specs.declared.lists.Settings.{Settings}
use Rattle.type_texts.specs.TypeTexts.{list_type}

-- The type, under limits, of the first of lists that share a row, with the Years of all; or why there is none.
abbrev pub type_joined : Limits → Result (Settings × Years) Refusal → TypeFound
type_joined limits (Ok (list, years)) = found_type (limited_to limits (list_type (Some list) years))
type_joined limits (Err why) = TypeFound.NoType why
