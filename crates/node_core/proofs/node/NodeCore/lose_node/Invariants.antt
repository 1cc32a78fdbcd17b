use Rattle.std.proofs.Common.{◌≡◌, ◌*◌, take}
use Rattle.term.specs.declared.limits.TheConstants.{MOST_NODES}
use Rattle.node_events.specs.Made.{Spends}
use Rattle.node_core.specs.Steps.{Makes}
use Rattle.node_core.proofs.Each.{each_of, loss}
use Rattle.node_core.proofs.node.NodeCore.lose_node.Given as goal

abbrev pub invariant-loop-holder : goal.invariant-loop-holder
invariant-loop-holder g l = record {
  queue : l.self.registrar.queue ≡ l.fn.self.registrar.queue;
  spends : Spends (MOST_NODES * l.holder-index) 0 l.holder-index l.fn.turn l.turn;
  makes : Makes (each_of (loss l.gone) (take l.holder-index l.holders)) l.fn.self l.fn.turn l.self l.turn;
}
