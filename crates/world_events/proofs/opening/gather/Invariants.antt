use Rattle.std.proofs.Common.{ℕ, ◌≡◌, ◌+◌, ◌≤◌, length, take}
use Rattle.std.specs.Prelude.{◌||◌}
use Rattle.std.specs.List.{All}
use Rattle.term.specs.Nodes.{IsFirst}
use Rattle.term.specs.NodeSets.{set_of}
use Rattle.world_events.proofs.opening.gather.Given as goal

abbrev pub invariant-loop-node : goal.invariant-loop-node
invariant-loop-node l = record {
  holds : (c : ℕ) → set_of l.set c ≡ (set_of l.initial.set c || set_of (take l.node-index l.nodes) c);
  first : All IsFirst l.initial.set → All IsFirst l.set;
  room : length l.set ≤ length l.initial.set + l.node-index;
}
