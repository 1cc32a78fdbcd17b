use Rattle.std.proofs.Common.{◌≡◌, take}
use Rattle.protocol_model.specs.Turn.{with_replica}
use Rattle.node_events.specs.Made.{Made}
use Rattle.node_core.specs.Joining.{put_names}
use Rattle.node_core.specs.Steps.{Makes}
use Rattle.node_core.proofs.node.NodeCore.put_names.Given as goal

abbrev pub invariant-loop-pair : goal.invariant-loop-pair
invariant-loop-pair g l = record {
  queue : l.self.registrar.queue ≡ l.fn.self.registrar.queue;
  makes : (made : Made)
      → Makes (λ n a. with_replica (put_names (take l.pair-index l.pairs))) l.fn.self made l.self made;
}
