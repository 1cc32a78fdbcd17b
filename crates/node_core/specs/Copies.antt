-- A copy of a node, in memory of its own.
use Rattle.std.specs.Prelude.{◌≡◌, ℕ, List, length}
use Rattle.transaction.specs.declared.op.Op.{Op}
use Rattle.node_core.specs.declared.node.Phase.{Phase}
use Rattle.node_core.specs.CoreState.{CoreState, IsPhaseWithin}
use Rattle.node_core.specs.Seen.{phase_of}
use Rattle.node_core.specs.Rare.{joins_in}

-- q is p, as the protocol sees it
pub record IsSamePhase (p q : Phase) : Type 0 where
  pub stands : (op : Op) (awaited : List ℕ) → phase_of op awaited q ≡ phase_of op awaited p
  pub within : (world : List ℕ) → IsPhaseWithin world p → IsPhaseWithin world q

-- a step of k makes no more than one of h
pub record IsAsBounded (h k : CoreState) : Type 0 where
  pub joins : joins_in k.registrar.queue ≡ joins_in h.registrar.queue
  pub calls : length k.calls.calls ≡ length h.calls.calls
