-- Changes as the registry has them.
use Rattle.std.specs.Prelude.{Bool, true, false, Option, Some, None}
use Rattle.registry_model.specs.Process.{Text}
use Rattle.registry_model.specs.Table.{Pair, Change as TableChange}
use Rattle.term.specs.Rules.{rule_of}
use Rattle.name_table.specs.declared.change.Registration.{Registration}
use Rattle.name_table.specs.declared.change.Change.{Change}
use Rattle.name_table.specs.declared.change.Change.TheVariants.{Put, Remove, StrikeOwner}

-- what a change is to the registry
abbrev pub change_of : Change → TableChange
change_of (Put pair) = TableChange.Put pair
change_of (Remove x) = TableChange.Remove x
change_of (StrikeOwner p) = TableChange.StrikeOwner p

-- the pair of a name and what stands under it, if anything does
abbrev pub pair_under : Text → Option Registration → Option Pair
pair_under x None = None
pair_under x (Some e) = Some (record { name = x; owner = e.owner; rule = rule_of e.rule })

-- the change is a put: only these take memory
abbrev pub is_put : TableChange → Bool
is_put (TableChange.Put pair) = true
is_put _ = false
