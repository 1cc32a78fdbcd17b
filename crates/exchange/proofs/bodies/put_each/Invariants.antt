use Rattle.std.proofs.Common.{◌≡◌, take}
use Rattle.registry_model.specs.Table.{put_all}
use Rattle.exchange.proofs.bodies.put_each.Given as goal

abbrev pub invariant-loop-pair : goal.invariant-loop-pair
invariant-loop-pair g l =
    g.N.Names.contents l.table ≡ put_all (take l.pair-index l.pairs) (g.N.Names.contents l.initial.table)
