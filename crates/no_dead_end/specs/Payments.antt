-- What events other than deliveries may raise the work of a world by. So all deliveries of a run are at most what its other events pay.
-- n: as many nodes as count, or more; v: the node of an event, before it. es: the events so far; w: the world that they made.
use Rattle.std.specs.Prelude.{ℕ, ◌&&◌, ◌+◌, ◌-◌, ◌*◌, ◌≤◌, is_none, filter, length, List, [], ◌∷◌}
use Rattle.protocol_model.specs.Node.{Node, Op}
use Rattle.protocol_model.specs.Event.{Call, Event, is_waiting, is_waiting_call}
use Rattle.protocol_model.specs.World.{Opening, World, WorldEvent, At, Deliver, opening_world, refusal, happens, run}
use Rattle.protocol_model.specs.Fit.{is_delivery}
use Rattle.no_dead_end.specs.Weights.{when}
use Rattle.no_dead_end.specs.Work.{round_work, queued_work, size, work}

-- how many refused rounds of a node wait for its retry
abbrev pub refused_rounds : Node → ℕ
refused_rounds v = when (is_waiting v.current) 1 + length (filter (λ c. is_waiting_call c.phase) v.calls)

module _ (n : ℕ) (v : Node) where
  abbrev pub call_pays : Call → ℕ
  call_pays (Call.OnName call) = queued_work n v.replica.table (Op.Name (v.last_call + 1) call)
  call_pays (Call.JoinBy m) = queued_work n v.replica.table (Op.Join (v.last_call + 1) m)
  call_pays (Call.SetLock p r q target retries) = round_work n
  call_pays (Call.DelLock p r q target) = 2 * n
  call_pays _ = 0

  -- a retry begins each refused round anew; an exit is told to all, and a leave to all others
  abbrev pub event_pays : Event → ℕ
  event_pays (Event.Calling c) = call_pays c
  event_pays Event.Retry = refused_rounds v * round_work n
  event_pays (Event.Exiting p) = n
  event_pays Event.Leave = n - 1

module _ (o : Opening) where
  abbrev pub pays : World → WorldEvent → ℕ
  pays w (At a e) = event_pays (size o) (w.node a) e
  pays w (Deliver f t) = 0

  -- what the accepted ones of these events pay
  abbrev pub paid : World → List WorldEvent → ℕ
  paid w [] = 0
  paid w (e ∷ es) = when (is_none (refusal o w e)) (pays w e) + paid (happens o w e) es

  -- how many deliveries of them are accepted
  abbrev pub delivered : World → List WorldEvent → ℕ
  delivered w [] = 0
  delivered w (e ∷ es) = when (is_none (refusal o w e) && is_delivery e) 1 + delivered (happens o w e) es

module _ (o : Opening) (es : List WorldEvent) (w : World) where
  pub record EventsPay : Type 0 where
    -- An event raises the work by no more than it pays
    pub raises : (e : WorldEvent) → work o (happens o w e) ≤ work o w + pays o w e
    -- so the deliveries of more events are at most the work that there is and what the others of them pay; as much less as is left
    pub runs : (fs : List WorldEvent) → delivered o w fs + work o (run o w fs) ≤ work o w + paid o w fs
    -- and all of them what the others have paid
    pub all : delivered o (opening_world o) es + work o w ≤ paid o (opening_world o) es
