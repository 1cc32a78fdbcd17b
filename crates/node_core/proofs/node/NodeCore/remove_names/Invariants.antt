use Rattle.std.proofs.Common.{◌≡◌, take}
use Rattle.protocol_model.specs.Turn.{with_replica}
use Rattle.node_events.specs.Made.{Made}
use Rattle.node_core.specs.Joining.{remove_names}
use Rattle.node_core.specs.Steps.{Makes}
use Rattle.node_core.proofs.node.NodeCore.remove_names.Given as goal

abbrev pub invariant-loop-name : goal.invariant-loop-name
invariant-loop-name g l = record {
  queue : l.self.registrar.queue ≡ l.fn.self.registrar.queue;
  makes : (made : Made)
      → Makes (λ n a. with_replica (remove_names (take l.name-index l.names))) l.fn.self made l.self made;
}
