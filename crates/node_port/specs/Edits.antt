-- How what changed at a node is shown.
use Rattle.std.specs.Prelude.{ℕ, Bool, map, flat_map, List, [], ◌∷◌}
use Rattle.registry_model.specs.Table.{Pair}
use Rattle.name_table.specs.declared.change.Change.{Change}
use Rattle.name_table.specs.declared.change.Change.TheVariants as change
use Rattle.node_loop.specs.declared.edit.Edit.{Edit}
use Rattle.node_loop.specs.declared.edit.Edit.TheVariants.{Write, Departure, Whole, Leave}
use Rattle.node_loop.specs.declared.edit.Update.{Update}
use Rattle.node_port.specs.Shown.{Shown, Puts, Removes, Strikes, Drops, Clears, Stands}

abbrev pub put_of : Pair → Shown
put_of e = Puts e.name e.owner

abbrev pub change_line : Change → Shown
change_line (change.Put e) = put_of e
change_line (change.Remove x) = Removes x
change_line (change.StrikeOwner p) = Strikes p

-- the lines of what a step does to the table; that the node left is answered, and shows in no line of the table
abbrev pub edit_lines : Edit → List Shown
edit_lines (Write c) = change_line c ∷ []
edit_lines (Departure n) = Drops n ∷ []
edit_lines (Whole pairs left) = Clears ∷ map put_of pairs.items
edit_lines Leave = []

-- what changed that is printed: the table, or whether the node is joined, and with whom
pub data Changed : Type 0 where
  Edited : (update : Update) → Changed
  Stood : (joined : Bool) (members : List ℕ) → Changed

abbrev pub changed_line : Changed → List Shown
changed_line (Edited update) = edit_lines update.edit
changed_line (Stood joined members) = Stands joined members ∷ []

abbrev pub changed_lines : List Changed → List Shown
changed_lines changes = flat_map changed_line changes

-- the updates of the table among changes
abbrev pub update_of : Changed → List Update
update_of (Edited update) = update ∷ []
update_of (Stood joined members) = []

abbrev pub updates_of : List Changed → List Update
updates_of changes = flat_map update_of changes
