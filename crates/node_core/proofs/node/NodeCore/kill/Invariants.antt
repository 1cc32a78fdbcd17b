use Rattle.std.proofs.Common.{◌≡◌, take}
use Rattle.protocol_model.specs.Calling.{kill}
use Rattle.node_core.specs.Rare.{Adds}
use Rattle.node_core.specs.Steps.{Makes}
use Rattle.node_core.proofs.node.NodeCore.kill.Given as goal

abbrev pub invariant-loop-process : goal.invariant-loop-process
invariant-loop-process g l = record {
  queue : l.self.registrar.queue ≡ l.fn.self.registrar.queue;
  adds : Adds 0 0 l.fn.turn l.turn;
  makes : Makes (λ n a. kill n a (take l.process-index l.processes)) l.fn.self l.fn.turn l.self l.turn;
}
