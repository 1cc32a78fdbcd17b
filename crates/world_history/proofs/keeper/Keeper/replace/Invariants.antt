use Rattle.std.proofs.Common.{◌≡◌, ℕ, ◌<◌, map, get_or}
use Rattle.world_history.proofs.keeper.Keeper.replace.Given as goal

abbrev pub invariant-loop-place : goal.invariant-loop-place
invariant-loop-place l = record {
  same : l.self.nodes.items ≡ l.initial.self.nodes.items;
  before : (k : ℕ) → k < l.place → get_or (map (λ n. n.value) l.self.nodes.items) k 0 ≡ l.older → ⊥;
}
