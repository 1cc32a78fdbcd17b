-- What each rule makes of the parts of its node: the replica, the lock table and the watch.
use Rattle.std.proofs.Common.{ℕ, Bool, true, false, ◌≡◌, Some, refl}
use Rattle.std.specs.Prelude.{◌&&◌, not, if◌then◌else◌}
use Rattle.registry_model.specs.Registry.{Replica}
use Rattle.protocol_model.specs.Round.{answer, opens, rest}
use Rattle.protocol_model.specs.Letter.{Letter, Global}
use Rattle.protocol_model.specs.LockTable.{Locks, is_free_for, grant, give_back, drop_holder, drop_node}
use Rattle.protocol_model.specs.Watch.{Watch, next_serial, with_spawned, with_dead}
use Rattle.protocol_model.specs.Node.{Node, Op, Current, LockPhase, wrote}
use Rattle.protocol_model.specs.Turn.{begun, at_work, with_locks, keep_call, send_all, send}
use Rattle.protocol_model.specs.Registrar.{registrar}
use Rattle.protocol_model.specs.Client.{in_phase, close_call, give_lock, is_spent}
use Rattle.protocol_model.specs.Reading.{admitted, welcomed, bereft}
use Rattle.protocol_model.specs.World.{Opening, World}
use Rattle.headline.proofs.Rules
use Rattle.headline.proofs.Rules.{Rule}

abbrev pub replica_by : ℕ → Rule → Replica → Replica
replica_by a (Rules.Writes f change) v = wrote change v
replica_by a (Rules.IsAdmitted f j settled) v = admitted a j settled v
replica_by a (Rules.IsWelcomed f k members pairs told fate) v = welcomed a members pairs told fate v
replica_by a (Rules.IsTold f) v = bereft f v
replica_by a _ v = v

abbrev pub locks_by : Rule → Locks → Locks
locks_by (Rules.Judges f id p) t = if is_free_for id p t then grant id p t else t
locks_by (Rules.TakesBack f id p ack) t = give_back id p t
locks_by (Rules.Releases f p) t = drop_holder p t
locks_by (Rules.IsTold f) t = drop_node f t
locks_by _ t = t

abbrev pub watch_by : Rule → Watch → Watch
watch_by Rules.Spawns v = with_spawned (next_serial v) v
watch_by (Rules.Exits p) v = with_dead p.serial v
watch_by (Rules.Kills f l p receivers) v = with_dead p.serial v
watch_by _ v = v

-- the parts of node a
pub record Parts (a : ℕ) (r : Rule) (v u : Node) : Type 0 where
  pub replica : u.replica ≡ replica_by a r v.replica
  pub locks : u.locks ≡ locks_by r v.locks
  pub watch : u.watch ≡ watch_by r v.watch

module _ (o : Opening) (a : ℕ) (w : World) where
  abbrev v : Node
  v = w.node a

  pub parts : (r : Rule) → Parts a r v (Rules.turn_by o a w r).node
  parts (Rules.HearsAnswer f id granted op r) = go (opens f granted r)
    where
      go : (t : Bool) → Parts a (Rules.HearsAnswer f id granted op r) v (at_work (Current.Asking op (answer f granted r))
          (if t then send_all o.bound (λ y. rest r y && not (v.replica.told y)) (Letter.SetLock (Global a) (registrar a))
          (begun v) else begun v)).node
      go true = record { replica = refl; locks = refl; watch = refl }
      go false = record { replica = refl; locks = refl; watch = refl }
  parts (Rules.HearsLock f id granted c r) = go (opens f granted r)
    where
      go : (t : Bool) → Parts a (Rules.HearsLock f id granted c r) v
          (keep_call (in_phase (LockPhase.Asking (answer f granted r)) c)
          (if t then send_all o.bound (λ y. rest r y && not (v.replica.told y)) (Letter.SetLock c.id c.holder)
          (begun v) else begun v)).node
      go true = record { replica = refl; locks = refl; watch = refl }
      go false = record { replica = refl; locks = refl; watch = refl }
  parts (Rules.GivesUpLock c r granted) = go (is_spent c.retries)
    where
      go : (t : Bool) → Parts a (Rules.GivesUpLock c r granted) v
          (if t then close_call o.bound a c false (give_lock o.bound a c granted (begun v))
          else keep_call (in_phase LockPhase.Waiting c) (give_lock o.bound a c granted (begun v))).node
      go true = record { replica = refl; locks = refl; watch = refl }
      go false = record { replica = refl; locks = refl; watch = refl }
  parts (Rules.Judges f id p) = go (is_free_for id p v.locks) refl
    where
      go : (t : Bool) → is_free_for id p v.locks ≡ t → Parts a (Rules.Judges f id p) v
          (send f (Letter.LockAnswer id p t) (if t then with_locks (grant id p) (begun v) else begun v)).node
      go true e = record { replica = refl; locks = rw e refl; watch = refl }
      go false e = record { replica = refl; locks = rw e refl; watch = refl }
  parts (Rules.TakesBack f id p true) = record { replica = refl; locks = refl; watch = refl }
  parts (Rules.TakesBack f id p false) = record { replica = refl; locks = refl; watch = refl }
  parts (Rules.Finishes (Op.Name k call) asked awaited (Some reply)) = record
      { replica = refl; locks = refl; watch = refl }
  parts _ = record { replica = refl; locks = refl; watch = refl }
