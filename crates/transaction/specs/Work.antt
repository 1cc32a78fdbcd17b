-- The work of a registrar.
use Rattle.std.specs.Prelude.{ℕ, Bool, true, false, ◌≡◌, Option, Some, None, is_some, List, [], ◌∷◌, ◌++◌, map}
use Rattle.std.specs.Option.{option_map}
use Rattle.registry_model.specs.Process.{Process}
use Rattle.protocol_model.specs.Event.{is_join}
use Rattle.transaction.specs.Ops.{op_of}
use Rattle.transaction.specs.declared.op.Op.{Op}
use Rattle.transaction.specs.declared.op.Op.TheVariants.{Strike}

-- the operations that wait, the oldest first; the current one; and whom it awaits
pub record Work : Type 0 where
  pub queue : List Op
  pub current : Option Op
  pub awaited : List ℕ

-- there is nothing to do
abbrev pub idle : Work
idle = record { queue = []; current = None; awaited = [] }

-- one operation more waits
abbrev pub enqueued : Op → Work → Work
enqueued op w = record w { queue = w.queue ++ op ∷ [] }

-- what becomes current of a registrar without a current operation: the strike that is owed, else the front of the queue
abbrev pub next_op : Option Process → List Op → Option Op
next_op (Some p) ops = Some (Strike p)
next_op None [] = None
next_op None (op ∷ ops) = Some op

-- what waits then
abbrev pub left_of : Option Process → List Op → List Op
left_of (Some p) ops = ops
left_of None [] = []
left_of None (op ∷ ops) = ops

-- the next operation becomes current, where none is
abbrev pub started_from : Option Process → Option Op → Work → Work
started_from owed None w = record w { queue = left_of owed w.queue; current = next_op owed w.queue }
started_from owed (Some op) w = w

abbrev pub started : Option Process → Work → Work
started owed w = started_from owed w.current w

-- whether an operation becomes current
abbrev pub starts_from : Option Process → Option Op → Work → Bool
starts_from owed None w = is_some (next_op owed w.queue)
starts_from owed (Some op) w = false

abbrev pub starts : Option Process → Work → Bool
starts owed w = starts_from owed w.current w

-- nobody is left
abbrev pub is_nobody : List ℕ → Bool
is_nobody [] = true
is_nobody (c ∷ cs) = false

-- the operation at the front is a join
abbrev pub begins_with_join : List Op → Bool
begins_with_join [] = false
begins_with_join (op ∷ ops) = is_join (op_of op)

-- v is the same work as w: the same operations, as the protocol has them, and the same nodes that are awaited
pub record IsCopyOf (w v : Work) : Type 0 where
  pub queue : map op_of v.queue ≡ map op_of w.queue
  pub current : option_map op_of v.current ≡ option_map op_of w.current
  pub awaited : v.awaited ≡ w.awaited
