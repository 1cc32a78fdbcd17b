-- What is refused since nothing waits: a delivery where no letter does, and a retry where no round does.
use Rattle.std.specs.Prelude.{ℕ, true, ◌≡◌, ◌↔◌, Contains, Some, []}
use Rattle.protocol_model.specs.Node.{Node, Op, Current, LockPhase, LockCall}
use Rattle.protocol_model.specs.Event.{Event, EmptyLink, NothingToRetry}
use Rattle.protocol_model.specs.World.{Opening, in_world, World, At, Deliver, refusal}
use Rattle.protocol_model.specs.Quiet.{Runs}

-- neither an operation of the node's registrar waits for a retry nor a lock call
pub record NothingWaits (v : Node) : Type 0 where
  pub operation : (op : Op) → v.current ≡ Current.Waiting op → ⊥
  pub calls : (c : LockCall) → Contains v.calls c → c.phase ≡ LockPhase.Waiting → ⊥

-- Between a node of the world and a running node a delivery is refused where no letter waits on the link, and at a running node
-- a retry where nothing waits for one
pub record RefusesTheIdle (o : Opening) (w : World) : Type 0 where
  pub deliveries : (f t : ℕ) → (refusal o w (Deliver f t) ≡ Some EmptyLink)
      ↔ ((in_world o f ≡ true) × Runs o w t × (w.links.queue f t ≡ []))
  pub retries : (a : ℕ) → (refusal o w (At a Event.Retry) ≡ Some NothingToRetry) ↔ (Runs o w a × NothingWaits (w.node a))
