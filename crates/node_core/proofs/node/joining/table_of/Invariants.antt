use Rattle.term.specs.NodeSets.{with_older}
use Rattle.node_core.proofs.Tables.{HasFirst}
use Rattle.node_core.proofs.node.joining.table_of.Given as goal

abbrev pub invariant-loop-pair : goal.invariant-loop-pair
invariant-loop-pair g l =
    HasFirst l.fn.watch l.watch l.pairs (with_older l.gone) l.pair-index (g.N.Names.contents l.table)
