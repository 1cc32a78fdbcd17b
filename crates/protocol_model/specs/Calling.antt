-- A step of a node that a call, an exit, a retry or a leave makes.
-- n: above all nodes of the world. world: its nodes. a: this node.
use Rattle.std.specs.Prelude.{ℕ, not, ◌&&◌, ◌==◌, ◌+◌, fold, List, [], ◌∷◌, ◌++◌, if◌then◌else◌}
use Rattle.registry_model.specs.Process.{Process, Nodes}
use Rattle.registry_model.specs.Call.{Look, Reply, Pid, seen_in}
use Rattle.registry_model.specs.History.{Entry}
use Rattle.protocol_model.specs.Letter.{Letter}
use Rattle.protocol_model.specs.Watch.{is_live, next_serial, with_spawned, with_dead}
use Rattle.protocol_model.specs.Node.{Op, Times, drop_call}
use Rattle.protocol_model.specs.Event.{Call, Event}
use Rattle.protocol_model.specs.Turn.{Turn, with_watch, with_calls, with_queue, count_call, send_all, enter, reply_with}
use Rattle.protocol_model.specs.Registrar.{start, retry_global}
use Rattle.protocol_model.specs.Client.{new_call, try_lock, delete_lock, retry_locks}

module _ (n a : ℕ) where
  -- the rule of an exit and of a kill: p is dead, its lock call is dropped, and every member drops its grants
  abbrev pub die : Process → Turn → Turn
  die p u =
      send_all n u.node.replica.members (Letter.ReleaseOf p) (with_calls (drop_call p) (with_watch (with_dead p.serial) u))

  -- those of the killed that live here, in order
  abbrev pub kill : List Process → Turn → Turn
  kill ps u = fold (λ turn p. if is_live a turn.node.watch p then die p turn else turn) u ps

  -- the operation goes to the back of the queue
  abbrev pub queued : Op → Turn → Turn
  queued op u = with_queue (u.node.queue ++ op ∷ []) u

  -- the serial s is given
  abbrev pub spawned : ℕ → Turn → Turn
  spawned s u = reply_with a 0 (Pid (record { node = a; serial = s })) (with_watch (with_spawned s) u)

  -- a look-up is answered, and entered
  abbrev pub looked : Look → Reply → Turn → Turn
  looked look reply u = reply_with a 0 reply (enter (Entry.Read a look reply) u)

  -- what a call does; k: its number, where it has one
  abbrev pub call : ℕ → Call → Turn → Turn
  call k Call.Spawn u = spawned (next_serial u.node.watch) u
  call k (Call.LookUp look) u = looked look (seen_in u.node.replica look) u
  call k (Call.OnName c) u = queued (Op.Name k c) (count_call u)
  call k (Call.SetLock p r q target retries) u = try_lock n a (new_call n a k p r q target retries) (count_call u)
  call k (Call.DelLock p r q target) u = delete_lock n a (new_call n a k p r q target (Times 0)) (count_call u)
  call k (Call.JoinBy m) u = queued (Op.Join k m) (count_call u)

  module _ (world : Nodes) where
    -- what an accepted event does; a leave says `Down` to every other node, and is the last step of its node
    abbrev pub event : Event → Turn → Turn
    event (Event.Calling c) u = start n a (call (u.node.last_call + 1) c u)
    event Event.Retry u = start n a (retry_locks n a (retry_global n a u.node.current u))
    event (Event.Exiting p) u = start n a (die p (enter (Entry.Exit p) u))
    event Event.Leave u = send_all n (λ c. world c && not (c == a)) Letter.Down (enter (Entry.Left a) u)
