use Rattle.std.proofs.Common.{◌≡◌, drop}
use Rattle.name_table.specs.Owners.{name_of}
use Rattle.name_table.proofs.list_table.name_in.Given as goal

abbrev pub invariant-loop-pair : goal.invariant-loop-pair
invariant-loop-pair l = name_of l.owner (drop l.pair-index l.pairs) ≡ name_of l.owner l.pairs
