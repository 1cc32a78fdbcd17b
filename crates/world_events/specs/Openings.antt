-- Which worlds are started, and how they open.
use Rattle.std.specs.Prelude.{ℕ, Bool, true, false, ◌||◌, ◌+◌, ◌^◌, ◌≡◌, max, nat_lt, Option, Some, None, List, [], ◌∷◌, ◌++◌, length, if◌then◌else◌}
use Rattle.protocol_model.specs.World.{Opening as AnyOpening}
use Rattle.term.specs.NodeSets.{set_of}
use Rattle.term.specs.declared.limits.TheConstants.{MOST_NODES}
use Rattle.std.specs.List.{All}
use Rattle.term.specs.Nodes.{IsFirst, name_of}
use Rattle.world_events.specs.declared.opening.StartFault.{StartFault}
use Rattle.world_events.specs.declared.opening.StartFault.TheVariants.{NoNode, SameNode, TooManyNodes, Memory}

-- above all nodes that have one of these nodes' names
abbrev pub bound_of : List ℕ → ℕ
bound_of [] = 0
bound_of (c ∷ cs) = max (name_of c + 2 ^ 32) (bound_of cs)

-- these nodes are of the world
abbrev pub AreOf : List ℕ → List ℕ → Type 0
AreOf world cs = (c : ℕ) → set_of cs c ≡ true → set_of world c ≡ true

-- the nodes of a world, and of them those that are joined at first; both are rising
pub record Opened : Type 0 where
  pub nodes : List ℕ
  pub cluster : List ℕ

-- all are the first nodes of their names, and those that are joined are of the world
pub record IsOpened (o : Opened) : Type 0 where
  pub first : All IsFirst o.nodes
  pub within : AreOf o.nodes o.cluster

-- a world of these nodes, of which those of the cluster are joined
abbrev pub opening_with : List ℕ → List ℕ → AnyOpening
opening_with nodes cluster = record { bound = bound_of nodes; nodes = set_of nodes; cluster = set_of cluster }

-- some node stands twice in the list
abbrev pub repeats : List ℕ → Bool
repeats [] = false
repeats (c ∷ cs) = set_of cs c || repeats cs

-- why a world of these nodes isn't started, if it isn't; the lone ones are not joined
abbrev pub start_refused : List ℕ → List ℕ → Option StartFault
start_refused [] lone = Some NoNode
start_refused (c ∷ cs) lone =
    if repeats ((c ∷ cs) ++ lone)
    then Some SameNode
    else (if nat_lt MOST_NODES (length ((c ∷ cs) ++ lone)) then Some TooManyNodes else None)

-- want of memory is no cause that lies in the nodes
abbrev pub start_fault_of : StartFault → Option StartFault
start_fault_of Memory = None
start_fault_of f = Some f

-- a world opens with these nodes, of which those of the cluster are joined
pub record IsOpening (cluster lone : List ℕ) (o : Opened) : Type 0 where
  pub nodes : (c : ℕ) → set_of o.nodes c ≡ set_of (cluster ++ lone) c
  pub joined : (c : ℕ) → set_of o.cluster c ≡ set_of cluster c
