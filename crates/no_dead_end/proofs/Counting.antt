-- What the work of one node's turns is counted by.
use Rattle.std.specs.Prelude.{ℕ, Bool, ◌≤◌, length}
use Rattle.registry_model.specs.Process.{Process, Nodes, nodes_of}
use Rattle.protocol_model.specs.Round.{Round}
use Rattle.protocol_model.specs.Node.{Current}
use Rattle.protocol_model.specs.World.{Opening}
use Rattle.no_dead_end.specs.Weights.{Weights, of_round, of_current}
use Rattle.no_dead_end.specs.Work.{work_weights}

-- up: the nodes that count, which are so many at most; alive: who may still be killed; node: whose turns they are
pub record Counting : Type 0 where
  pub opening : Opening
  pub size : ℕ
  pub alive : Process → Bool
  pub up : Nodes
  pub few : length (nodes_of opening.bound up) ≤ size
  pub node : ℕ

module _ (C : Counting) where
  abbrev pub weights : Weights
  weights = work_weights C.size C.alive

  -- a round, and what the registrar is at
  abbrev pub marks : Round → ℕ
  marks = of_round C.opening.bound weights C.up

  abbrev pub at_current : Current → ℕ
  at_current = of_current C.opening.bound weights C.up
