-- Whoever retries, someone gets through; and who asks for the global lock alone does. A quiet world is one in which no letter
-- waits; behind it registrars are retried, or a name is called for, and letters are delivered, until none waits again.
-- es: the events so far; w: the world that they made; a and c: nodes; e: the event by which one begins alone; ds: the
-- deliveries behind it.
use mathlib.Core.Logic.{◌⊎◌}
use Rattle.std.specs.Prelude.{ℕ, true, ◌+◌, ◌≡◌, ◌<◌, Contains, List, ◌∷◌, ◌++◌}
use Rattle.std.specs.List.{list_all}
use Rattle.registry_model.specs.Call.{NameCall, Reply, Joined, reply_to}
use Rattle.registry_model.specs.History.{Entry}
use Rattle.protocol_model.specs.Node.{Node, Op, Current}
use Rattle.protocol_model.specs.Event.{Call, Event}
use Rattle.protocol_model.specs.World.{World, left}
use Rattle.protocol_model.specs.Course.{entries_of, answers_of, course}
use Rattle.protocol_model.specs.Answers.{answer_to}
use Rattle.no_dead_end.specs.Worlds.{Worlds, steps_of, IsQuiet, IsSettled}
use Rattle.getting_through.specs.Pending.{pending}

-- the event is accepted in a quiet world, and then letters are delivered until none waits
pub record IsAlone (W : Worlds) (w : W.World) (e : W.Event) (ds : List W.Event) : Type 0 where
  pub before : IsQuiet W w
  pub accepted : W.Accepts w e
  pub delivered : list_all W.is_delivery ds ≡ true
  pub behind : IsQuiet W (W.run w (e ∷ ds))

-- from a quiet world letters are delivered and nodes retried, a among them, until no letter waits; xs and ys: before
-- and behind a's retry
pub record IsStorm (W : Worlds) (w : W.World) (a : ℕ) (xs ys : List W.Event) : Type 0 where
  pub before : IsQuiet W w
  pub first : list_all W.is_delivery_or_retry xs ≡ true
  pub accepted : W.Accepts (W.run w xs) (W.at a Event.Retry)
  pub later : list_all W.is_delivery_or_retry ys ≡ true
  pub behind : IsQuiet W (W.run w (xs ++ W.at a Event.Retry ∷ ys))

-- what a name call is replied by a's table and members
abbrev pub reply_now : World → ℕ → NameCall → Reply
reply_now w a call = reply_to (w.node a).replica.members (w.node a).replica.table call

module _ (W : Worlds) (es : List W.Event) (w : W.World) where
  abbrev node : ℕ → Node
  node a = (W.nodes w).node a

  -- the events fs answer name call k of a, by what its table and members were
  abbrev pub Answers : ℕ → ℕ → NameCall → List W.Event → Type 0
  Answers a k call fs = Contains (answers_of (steps_of W (es ++ fs))) (answer_to a k (reply_now (W.nodes w) a call))

  -- they enter this in the history
  abbrev pub Enters : Entry → List W.Event → Type 0
  Enters entry fs = Contains (entries_of (course W.opening (W.nodes w) (W.played w fs))) entry

  -- they end this operation of a: a name call is answered, a process is struck, a joiner is let in or has left
  abbrev pub End : ℕ → Op → List W.Event → Type 0
  End a (Op.Name k call) fs = Answers a k call fs
  End a (Op.Strike p) fs = Enters (Entry.Strike p) fs
  End a (Op.Admission j pairs) fs = (left (W.nodes w) j ≡ true) ⊎ ((k : ℕ) × Enters (Entry.Join j k a Joined) fs)
  End a (Op.Join k m) fs = ⊥

  -- Whoever retries, someone gets through: where one refused registrar is retried, and no letter waits behind that and any
  -- deliveries and other retries, in any order, some registrar that was refused has ended its operation, and less has still to be
  -- retried
  abbrev pub SomeoneGetsThrough : Type 0
  SomeoneGetsThrough = (a : ℕ) (op : Op) (xs ys : List W.Event) → W.Runs w a → (node a).current ≡ Current.Waiting op →
      IsStorm W w a xs ys → (c : ℕ) × (x : Op) × W.Runs w c × ((node c).current ≡ Current.Waiting x)
      × End c x (xs ++ W.at a Event.Retry ∷ ys) × (pending W (W.run w (xs ++ W.at a Event.Retry ∷ ys)) < pending W w)

  -- A registrar that was refused ends its operation where it alone is retried
  abbrev pub RetriesAloneEnd : Type 0
  RetriesAloneEnd = (a : ℕ) (op : Op) (ds : List W.Event) → W.Runs w a → (node a).current ≡ Current.Waiting op →
      IsAlone W w (W.at a Event.Retry) ds → End a op (W.at a Event.Retry ∷ ds)

  -- A name call in a settled world is answered
  abbrev pub NameCallsAloneAnswered : Type 0
  NameCallsAloneAnswered = (a : ℕ) (call : NameCall) (ds : List W.Event) → IsSettled W w →
      IsAlone W w (W.at a (Event.Calling (Call.OnName call))) ds →
      Answers a ((node a).last_call + 1) call (W.at a (Event.Calling (Call.OnName call)) ∷ ds)
