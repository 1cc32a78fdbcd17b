use Rattle.std.proofs.Common.{◌≡◌, take}
use Rattle.registry_model.specs.Table.{remove_all}
use Rattle.exchange.proofs.bodies.remove_each.Given as goal

abbrev pub invariant-loop-name : goal.invariant-loop-name
invariant-loop-name g l =
    g.N.Names.contents l.table ≡ remove_all (take l.name-index l.names) (g.N.Names.contents l.initial.table)
