use Rattle.std.proofs.Common.{◌≡◌, [], take}
use Rattle.registry_model.specs.Table.{put_all}
use Rattle.shared_table.proofs.shown.table_of.Given as goal

abbrev pub invariant-loop-pair : goal.invariant-loop-pair
invariant-loop-pair l = l.table ≡ put_all (take l.pair-index l.pairs) []
