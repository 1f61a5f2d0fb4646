-- Several lists of one type.
use Rattle.std.specs.Prelude.{cond, List, [], ◌∷◌, leb, length, Option, Some, None}
use Rattle.std.specs.Option.{option_map}
use Rattle.lists.specs.Lists.{most_lists}
use Rattle.lists.specs.declared.lists.Settings.{Settings}

-- The settings of lists, where each can be read.
unfoldable pub all_read : List (Option Settings) → Option (List Settings)
all_read [] = Some []
all_read (None ∷ l) = None
all_read (Some s ∷ l) = option_map (λ r. s ∷ r) (all_read l)

-- Those of a text that are kept: all of up to as many as there may be, where each can be read, and otherwise none.
unfoldable pub few : List (Option Settings) → Option (List Settings)
few l = cond (leb (length l) most_lists) (all_read l) None
