-- Nodes that have left, as their loops say.
use Rattle.std.specs.Prelude.{ℕ, true, ◌≡◌}
use Rattle.shared_table.specs.Held.{Looping}
use Rattle.shared_table.specs.Coming.{IsLoopOf}

-- a loop of this node came to where it has left
pub record LoopLeft (name : ℕ) : Type 0 where
  pub node : Looping
  pub came : IsLoopOf name node
  pub left : node.left ≡ true

-- a loop of this node has left
abbrev pub IsGone : ℕ → Type 0
IsGone name = ∥ LoopLeft name ∥₁
