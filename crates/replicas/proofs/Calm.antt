-- The rules that the scene doesn't show: calls, rounds, locks, and all that is refused.
use Rattle.std.proofs.Common.{ℕ, Bool, true, false, ◌≡◌, List, [], ◌∷◌, ◌++◌, refl, sym, ap, ◌∙◌}
use Rattle.std.specs.Prelude.{if◌then◌else◌, not, ◌&&◌, fold}
use Rattle.std.proofs.Math.Path.{ap₂}
use Rattle.registry_model.specs.Process.{Process, nodes_of}
use Rattle.registry_model.specs.History.{after}
use Rattle.registry_model.specs.Legal.{all_legal}
use Rattle.protocol_model.specs.Round.{asked, rest, opens, answer}
use Rattle.protocol_model.specs.Letter.{Global, Letter}
use Rattle.protocol_model.specs.LockTable.{grant, give_back, is_free_for}
use Rattle.protocol_model.specs.Node.{Node, Op, Current, LockPhase}
use Rattle.protocol_model.specs.Turn.{Turn, begun, at_work, with_locks, send, send_all, keep_call}
use Rattle.protocol_model.specs.Registrar.{registrar}
use Rattle.protocol_model.specs.Client.{in_phase, is_spent, close_call, give_lock}
use Rattle.protocol_model.specs.World.{Opening, World}
use Rattle.moves.proofs.Rules.{Rule, CallsName, CallsJoin, CallsLock, Spawns, Begins, Retries, AsksJoin, HearsAnswer, MarksDown, GivesUp, Passes, Judges, TakesBack, Releases, QueuesJoin, EndsJoin, AsksLock, FailsLock, HearsLock, MarksLockDown, WinsLock, GivesUpLock, DeletesLock, DeletesNothing, CountsGivenBack, EndsDeletion, CountsLockDown, EndsDeletionDown, Writes, CountsApplied, IsAdmitted, IsWelcomed, Ignores, Drops, Leaves, takes, turn_by, May}
use Rattle.replicas.proofs.Scenes.{doing_of, struck_in, struck_by, struck_of}
use Rattle.replicas.proofs.BaseLetters.{is_silent, silent-each}
use Rattle.replicas.proofs.Steps.{past_now, is_leaving, is_foreign, QuietTurn}

-- rules that the scene doesn't show
abbrev pub is_calm : Rule → Bool
is_calm (CallsName c) = true
is_calm (CallsJoin m) = true
is_calm CallsLock = true
is_calm Spawns = true
is_calm (Begins op ops) = true
is_calm (Retries op) = true
is_calm (AsksJoin k m ops) = true
is_calm (HearsAnswer f id granted op r) = true
is_calm (MarksDown d op r) = true
is_calm (GivesUp op r granted) = true
is_calm (Passes j pairs r) = true
is_calm (Judges f id p) = true
is_calm (TakesBack f id p ack) = true
is_calm (Releases f p) = true
is_calm (QueuesJoin f pairs) = true
is_calm (EndsJoin f k) = true
is_calm (AsksLock c) = true
is_calm (FailsLock c) = true
is_calm (HearsLock f id granted c r) = true
is_calm (MarksLockDown d c r) = true
is_calm (WinsLock c r) = true
is_calm (GivesUpLock c r granted) = true
is_calm (DeletesLock c) = true
is_calm (DeletesNothing c) = true
is_calm (CountsGivenBack f c owing) = true
is_calm (EndsDeletion f c owing) = true
is_calm (CountsLockDown d c owing) = true
is_calm (EndsDeletionDown d c owing) = true
is_calm _ = false

-- an operation behind the queue that strikes nobody
struck_of-more : (ops : List Op) (op : Op) → struck_in op ≡ [] → struck_of (ops ++ op ∷ []) ≡ struck_of ops
struck_of-more [] op e = ap (λ (ps : List Process). ps ++ []) e
struck_of-more (x ∷ ops) op e = ap (λ (ps : List Process). struck_in x ++ ps) (struck_of-more ops op e)

module _ (o : Opening) (a : ℕ) (w : World) where
  -- whom node a is to strike, by what it is at and its queue
  abbrev struck_at : Current → List Op → List Process
  struck_at c ops = struck_by c ++ struck_of ops

  abbrev v : Node
  v = w.node a

  -- a turn that enters nothing, and leaves the replica and the watch
  abbrev IsPlain : Turn → Type 0
  IsPlain u = (u.entries ≡ []) × (u.node.replica ≡ v.replica) × (u.node.watch.dead ≡ v.watch.dead)

  -- such a turn that sends other letters alone, where the work and the queue show as before
  quiet : (u : Turn) → IsPlain u → is_silent u.sends ≡ true → doing_of u.node.current ≡ doing_of v.current
      → struck_at u.node.current u.node.queue ≡ struck_at v.current v.queue → QuietTurn o a w u
  quiet u plain silent doing struck = record {
    legal = ap (all_legal (past_now o a w)) plain.0;
    standing = ap (fold after (past_now o a w)) plain.0;
    silent = silent;
    replica = plain.1;
    doing = doing;
    struck = struck;
    dead = plain.2;
  }

  -- one that leaves both
  still : (u : Turn) → IsPlain u → is_silent u.sends ≡ true → u.node.current ≡ v.current → u.node.queue ≡ v.queue
      → QuietTurn o a w u
  still u plain silent now next = quiet u plain silent (ap doing_of now) (ap₂ struck_at now next)

  -- one that puts an operation behind the queue that strikes nobody
  queues : (u : Turn) (op : Op) → IsPlain u → is_silent u.sends ≡ true → u.node.current ≡ v.current
      → u.node.queue ≡ v.queue ++ op ∷ [] → struck_in op ≡ [] → QuietTurn o a w u
  queues u op plain silent now next nobody = quiet u plain silent (ap doing_of now) (ap₂ struck_at now next
      ∙ ap (λ (ps : List Process). struck_by v.current ++ ps) (struck_of-more v.queue op nobody))

  -- one that goes from c and these operations to what shows the same
  moves : (u : Turn) (c : Current) (ops : List Op) → IsPlain u → is_silent u.sends ≡ true → v.current ≡ c → v.queue ≡ ops
      → doing_of u.node.current ≡ doing_of c → struck_at u.node.current u.node.queue ≡ struck_at c ops
      → QuietTurn o a w u
  moves u c ops plain silent now next doing struck =
      quiet u plain silent (doing ∙ sym (ap doing_of now)) (struck ∙ sym (ap₂ struck_at now next))

  -- a turn that begins from the node, and changes what the registrar is at, its queue, locks and calls
  pub calm_turn : (r : Rule) → is_calm r ≡ true → May o a w r → QuietTurn o a w (turn_by o a w r)
  calm_turn (CallsName c) e m = queues _ _ (refl, refl, refl) refl refl refl refl
  calm_turn (CallsJoin c) e m = queues _ _ (refl, refl, refl) refl refl refl refl
  calm_turn (QueuesJoin f pairs) e m = queues _ _ (refl, refl, refl) refl refl refl refl
  calm_turn (Begins op ops) e m = moves _ _ _ (refl, refl, refl) refl m.tested.0 m.tested.1 refl refl
  calm_turn (Retries op) e m = moves _ _ _ (refl, refl, refl) refl m.tested refl refl refl
  calm_turn (AsksJoin k c ops) e m = moves _ _ _ (refl, refl, refl) refl m.tested.0 m.tested.1 refl refl
  calm_turn (HearsAnswer f id granted op r) e m = go (opens f granted r)
    where
      go : (b : Bool) → QuietTurn o a w (at_work (Current.Asking op (answer f granted r))
          (if b then send_all o.bound (λ x. rest r x && not (v.replica.told x))
          (Letter.SetLock (Global a) (registrar a)) (begun v) else begun v))
      go true = moves _ _ _ (refl, refl, refl)
          (silent-each (nodes_of o.bound (λ x. rest r x && not (v.replica.told x))) _ refl)
          m.tested.1 refl refl refl
      go false = moves _ _ _ (refl, refl, refl) refl m.tested.1 refl refl refl
  calm_turn (MarksDown d op r) e m = moves _ _ _ (refl, refl, refl) refl m.tested.1 refl refl refl
  calm_turn (GivesUp op r granted) e m = moves _ _ _ (refl, refl, refl)
      (silent-each (nodes_of o.bound granted) _ refl) m.tested.0 refl refl refl
  calm_turn (Passes j pairs r) e m = moves _ _ _ (refl, refl, refl)
      (silent-each (nodes_of o.bound _) _ refl) m.tested.0.current refl refl refl
  calm_turn (EndsJoin f k) e m = moves _ _ _ (refl, refl, refl) refl m.tested.1 refl refl refl
  calm_turn (Judges f id p) e m = go (is_free_for id p v.locks)
    where
      go : (b : Bool) → QuietTurn o a w (send f (Letter.LockAnswer id p b)
          (if b then with_locks (grant id p) (begun v) else begun v))
      go true = still _ (refl, refl, refl) refl refl refl
      go false = still _ (refl, refl, refl) refl refl refl
  calm_turn (TakesBack f id p ack) e m = go ack
    where
      go : (b : Bool) → QuietTurn o a w (if b then send f (Letter.GivenBack p)
          (with_locks (give_back id p) (begun v)) else with_locks (give_back id p) (begun v))
      go true = still _ (refl, refl, refl) refl refl refl
      go false = still _ (refl, refl, refl) refl refl refl
  calm_turn (HearsLock f id granted c r) e m = go (opens f granted r)
    where
      go : (b : Bool) → QuietTurn o a w (keep_call (in_phase (LockPhase.Asking (answer f granted r)) c)
          (if b then send_all o.bound (λ x. rest r x && not (v.replica.told x)) (Letter.SetLock c.id c.holder)
          (begun v) else begun v))
      go true = still _ (refl, refl, refl)
          (silent-each (nodes_of o.bound (λ x. rest r x && not (v.replica.told x))) _ refl) refl refl
      go false = still _ (refl, refl, refl) refl refl refl
  calm_turn (GivesUpLock c r granted) e m = go (is_spent c.retries)
    where
      go : (b : Bool) → QuietTurn o a w (if b then close_call o.bound a c false
          (give_lock o.bound a c granted (begun v)) else keep_call (in_phase LockPhase.Waiting c)
          (give_lock o.bound a c granted (begun v)))
      go true = still _ (refl, refl, refl) (silent-each (nodes_of o.bound granted) _ refl) refl refl
      go false = still _ (refl, refl, refl) (silent-each (nodes_of o.bound granted) _ refl) refl refl
  calm_turn (DeletesLock c) e m = still _ (refl, refl, refl) (silent-each (nodes_of o.bound _) _ refl) refl refl
  calm_turn CallsLock e m = still _ (refl, refl, refl) refl refl refl
  calm_turn Spawns e m = still _ (refl, refl, refl) refl refl refl
  calm_turn (Releases f p) e m = still _ (refl, refl, refl) refl refl refl
  calm_turn (AsksLock c) e m = still _ (refl, refl, refl) refl refl refl
  calm_turn (FailsLock c) e m = still _ (refl, refl, refl) refl refl refl
  calm_turn (MarksLockDown d c r) e m = still _ (refl, refl, refl) refl refl refl
  calm_turn (WinsLock c r) e m = still _ (refl, refl, refl) refl refl refl
  calm_turn (DeletesNothing c) e m = still _ (refl, refl, refl) refl refl refl
  calm_turn (CountsGivenBack f c owing) e m = still _ (refl, refl, refl) refl refl refl
  calm_turn (EndsDeletion f c owing) e m = still _ (refl, refl, refl) refl refl refl
  calm_turn (CountsLockDown d c owing) e m = still _ (refl, refl, refl) refl refl refl
  calm_turn (EndsDeletionDown d c owing) e m = still _ (refl, refl, refl) refl refl refl
  calm_turn _ e m = cc

  -- none of them is the last step of its node
  pub calm_stays : (r : Rule) → is_calm r ≡ true → is_leaving o a w r ≡ false
  calm_stays Leaves e = cc
  calm_stays _ e = refl

  -- none of them takes a letter of a scene's kinds
  pub calm_foreign : (r : Rule) → is_calm r ≡ true → is_foreign o a w (takes o a r) ≡ true
  calm_foreign (Writes f change) e = cc
  calm_foreign (CountsApplied f op asked awaited reply) e = cc
  calm_foreign (IsAdmitted f j settled) e = cc
  calm_foreign (IsWelcomed f k members pairs told fate) e = cc
  calm_foreign (Ignores f l) e = cc
  calm_foreign (Drops f l) e = cc
  calm_foreign _ e = refl
