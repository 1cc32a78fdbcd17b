use Rattle.std.proofs.Common.{◌≡◌, None, length, nat_cmp}
use Rattle.std.specs.Prelude.{if◌then◌else◌}
use Rattle.std.specs.BTreeSet.{contains}
use Rattle.registry_model.specs.Process.{Text}
use Rattle.name_table.specs.Index.{standing}
use Rattle.name_table.proofs.index_table.forget.Given as goal

abbrev pub invariant-loop-name : goal.invariant-loop-name
invariant-loop-name g l = (y : Text) → (if contains nat_cmp l.names y then None else standing y l.owners.entries)
    ≡ (if contains nat_cmp l.initial.names y then None else standing y l.initial.owners.entries)

abbrev pub decreases-loop-name : goal.decreases-loop-name
decreases-loop-name g l = length l.names.keys
