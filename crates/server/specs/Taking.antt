-- Consoles as they are taken, one after another.
use Rattle.std.specs.Prelude.{ℕ, true, ◌≡◌, ◌≤◌, is_some, List, ◌++◌, map, length}
use Rattle.std.specs.declared.thread.PromisedHandle.{PromisedHandle}
use Rattle.term.specs.NodeSets.{set_of}
use Rattle.node_threads.specs.Clusters.{Crewed}
use Rattle.node_threads.specs.Wires.{inbox_to}
use Rattle.server.specs.declared.served.Start.{Start}
use Rattle.server.specs.declared.served.Left.{Left}
use Rattle.server.specs.declared.served.LeftBehind.{LeftBehind}
use Rattle.server.specs.Served.{SeatsAll}

-- with what the consoles of these threads began
abbrev pub starts_of : List (PromisedHandle Left LeftBehind) → List Start
starts_of threads = map (λ t. t.promise.0.value) threads

-- the cluster has each of these nodes
abbrev pub ReachesAll : List ℕ → Crewed → Type 0
ReachesAll nodes c = (n : ℕ) → set_of nodes n ≡ true → is_some (inbox_to n c.crew) ≡ true

-- so many consoles at most were taken behind these, each with a seat of the cluster
pub record Takes (nodes : List ℕ) (many : ℕ) (c : Crewed) (before : List Start) (d : Crewed) (after : List Start) : Type 0 where
  pub taken : List Start
  pub behind : after ≡ before ++ taken
  pub few : length taken ≤ many
  pub seated : SeatsAll nodes c taken d
