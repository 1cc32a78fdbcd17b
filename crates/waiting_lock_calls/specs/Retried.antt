-- What becomes of the lock calls of a node that is retried in a quiet world, one in which no letter waits, once letters were delivered
-- until none waits again. es: the events so far; w: the world that they made; a: the node; c and d: calls that wait there; ds: the
-- deliveries behind its retry; ps: the steps of the retry and of these, behind which the world is v.
use mathlib.Core.Logic.{◌⊎◌}
use Rattle.std.specs.Prelude.{ℕ, true, false, ◌≡◌, Contains, List, ◌∷◌}
use Rattle.registry_model.specs.Process.{Text, Nodes}
use Rattle.registry_model.specs.Call.{True, False}
use Rattle.protocol_model.specs.Letter.{Client, is_id, is_resource}
use Rattle.protocol_model.specs.Watch.{is_dead}
use Rattle.protocol_model.specs.Node.{LockCall, targets}
use Rattle.protocol_model.specs.Client.{is_spent, one_less}
use Rattle.protocol_model.specs.Event.{Event}
use Rattle.protocol_model.specs.World.{World}
use Rattle.protocol_model.specs.Course.{Played, answers_of, course}
use Rattle.protocol_model.specs.Answers.{answer_to}
use Rattle.getting_through.specs.Worlds.{Worlds, events_of}
use Rattle.getting_through.specs.QuietCalls.{IsFree}
use Rattle.getting_through.specs.GettingThrough.{IsAlone}

-- the nodes that a lock call of a asks, as a's members are now
abbrev pub asks : World → ℕ → LockCall → Nodes
asks w a c = targets (w.node a).replica.members c.target

-- d is a rival of c: it waits beside it for the same resource under another requester, and there is a node that both ask
pub record IsRival (w : World) (a : ℕ) (c d : LockCall) : Type 0 where
  pub listed : Contains (w.node a).calls d
  pub resource : is_resource d.id c.id ≡ true
  pub requester : is_id d.id c.id ≡ false
  pub node : ℕ
  pub asked : asks w a c node ≡ true
  pub asked_too : asks w a d node ≡ true

-- a retry of c is its last: it has nobody to ask, or no retry is left behind it
pub data IsItsLast (w : World) (a : ℕ) (c : LockCall) : Type 0 where
  AsksNobody : ((x : ℕ) → asks w a c x ≡ false) → IsItsLast w a c
  HasNoneLeft : is_spent (one_less c.retries) ≡ true → IsItsLast w a c

-- What c has become: it won; its process has died; it failed, by its last retry; or it waits on, with one retry less
pub data HasBecome (w v : World) (a : ℕ) (c : LockCall) (ps : List Played) : Type 0 where
  Won : Contains (answers_of ps) (answer_to a c.number True) → HasBecome w v a c ps
  Dropped : is_dead (v.node a).watch c.holder.serial ≡ true → HasBecome w v a c ps
  Failed : Contains (answers_of ps) (answer_to a c.number False) → IsItsLast w a c → HasBecome w v a c ps
  WaitsOn : Contains (v.node a).calls (record c { retries = one_less c.retries }) → HasBecome w v a c ps

module _ (W : Worlds) (es : List W.Event) (w : W.World) where
  -- the steps of a's retry and of these deliveries
  abbrev pub retried_steps : ℕ → List W.Event → List Played
  retried_steps a ds = course W.opening (W.nodes w) (W.played w (W.at a Event.Retry ∷ ds))

  -- and the world behind them
  abbrev pub retried_world : ℕ → List W.Event → World
  retried_world a ds = W.nodes (W.run w (W.at a Event.Retry ∷ ds))

  -- Each call that waits at a node which is retried has become one of these
  abbrev pub RetriesAreTold : Type 0
  RetriesAreTold = (a : ℕ) (c : LockCall) (ds : List W.Event) → Contains ((W.nodes w).node a).calls c →
      IsAlone W w (W.at a Event.Retry) ds →
      HasBecome (W.nodes w) (retried_world a ds) a c (retried_steps a ds)

  -- And where its lock is free at the nodes that it asks, and it has no rival, it won, unless its process has died
  abbrev pub FreeCallsWin : Type 0
  FreeCallsWin = (a : ℕ) (c : LockCall) (r z : Text) (ds : List W.Event) → Contains ((W.nodes w).node a).calls c →
      c.id ≡ Client r z → IsFree W.opening (events_of W es) c.holder r z (asks (W.nodes w) a c) →
      ((d : LockCall) → IsRival (W.nodes w) a c d → ⊥) → IsAlone W w (W.at a Event.Retry) ds →
      Contains (answers_of (retried_steps a ds)) (answer_to a c.number True)
      ⊎ (is_dead ((retried_world a ds).node a).watch c.holder.serial ≡ true)
