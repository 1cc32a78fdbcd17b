use Rattle.std.proofs.Common.{◌≡◌, take}
use Rattle.name_table.proofs.list_table.copied.Given as goal

abbrev pub invariant-loop-pair : goal.invariant-loop-pair
invariant-loop-pair g l = l.copy.items ≡ take l.pair-index l.pairs
