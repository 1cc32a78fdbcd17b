use Rattle.std.proofs.Common.{◌≡◌, take}
use Rattle.registry_model.specs.Settlement.{settle}
use Rattle.exchange.proofs.settled.settle.Given as goal

abbrev pub invariant-loop-pair : goal.invariant-loop-pair
invariant-loop-pair g l = l.settled ≡ settle (g.N.Names.contents l.table) (take l.pair-index l.pairs)
