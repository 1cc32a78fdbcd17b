-- A quiet world waits for nothing that doesn't come. Up: which nodes run; c, j and m: nodes.
use Rattle.std.specs.Prelude.{ℕ, Bool, true, false, ◌==◌, ◌+◌, ◌≡◌, Contains, None, filter, length, List, [], if◌then◌else◌}
use Rattle.protocol_model.specs.Watch.{owed}
use Rattle.protocol_model.specs.Node.{Node, Op, Current, LockPhase, LockCall}
use Rattle.protocol_model.specs.Event.{Event, is_waiting}
use Rattle.protocol_model.specs.World.{Opening, World, At, refusal}
use Rattle.named_events.specs.Worlds.{Worlds, IsQuiet}

-- the operation is the admission of j
abbrev pub admits : ℕ → Op → Bool
admits j (Op.Admission i pairs) = i == j
admits j _ = false

-- how many admissions of j wait at a node, in its queue or refused
abbrev pub admissions : ℕ → Node → ℕ
admissions j v = length (filter (admits j) v.queue)
    + (elim v.current [ Current.Waiting op ↦ (if admits j op then 1 else 0) | _ ↦ 0 ])

-- What c's registrar may be at: nothing, with nothing to do; a refused operation; or a join by a running joined contact, which is
-- itself at a refused operation, and where this admission waits once
pub data AtRest (Up : ℕ → Type 0) (w : World) (c : ℕ) : Current → Type 0 where
  Idle : (w.node c).queue ≡ [] → owed c (w.node c).replica.table (w.node c).watch ≡ None → AtRest Up w c Current.Free
  Refused : (op : Op) → AtRest Up w c (Current.Waiting op)
  Knocks : (k m : ℕ) → Up m → (w.node m).replica.joined ≡ true → is_waiting (w.node m).current ≡ true →
      admissions c (w.node m) ≡ 1 → AtRest Up w c (Current.Joining k m)

-- The world rests at its running nodes
pub record IsAtRest (Up : ℕ → Type 0) (o : Opening) (w : World) : Type 0 where
  pub registrars : (c : ℕ) → Up c → AtRest Up w c (w.node c).current
  -- each lock call waits for a retry
  pub calls : (c : ℕ) (call : LockCall) → Up c → Contains (w.node c).calls call → call.phase ≡ LockPhase.Waiting
  -- no leave is refused
  pub leaves : (c : ℕ) → Up c → refusal o w (At c Event.Leave) ≡ None

module _ (W : Worlds) (es : List W.Event) (w : W.World) where
  -- A quiet world rests
  abbrev pub QuietWorldsRest : Type 0
  QuietWorldsRest = IsQuiet W w → IsAtRest (W.Runs w) W.opening (W.nodes w)
