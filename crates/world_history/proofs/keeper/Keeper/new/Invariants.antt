use Rattle.std.proofs.Common.{◌≡◌, map, take}
use Rattle.world_history.proofs.keeper.Keeper.new.Given as goal

abbrev pub invariant-loop-node : goal.invariant-loop-node
invariant-loop-node l = map (λ n. n.value) l.shared.items ≡ take l.node-index l.nodes
