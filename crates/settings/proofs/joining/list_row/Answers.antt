use mathlib.Core.Path.{ap, ◌∙◌}
use Rattle.types.specs.Years.{row_of_year}
use Rattle.settings.proofs.joining.list_row.Goals as goal

pub returns : goal.returns
returns c = c.row.ensures ∙ ap row_of_year c.year_setting_at.ensures
