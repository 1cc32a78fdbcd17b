-- What a node holds and makes, seen as the protocol's node and turn.
use Rattle.std.specs.Prelude.{ℕ, Bool, true, false, Option, Some, None, List, map}
use Rattle.std.specs.Option.{option_map}
use Rattle.protocol_model.specs.Node.{Node, Current}
use Rattle.protocol_model.specs.Turn.{Turn}
use Rattle.term.specs.NodeSets.{set_of, with_older}
use Rattle.lock_table.specs.declared.verdict.Verdict.{Verdict}
use Rattle.lock_table.specs.declared.verdict.Verdict.TheVariants.{Grant}
use Rattle.locker.specs.RoundState.{seen}
use Rattle.lock_calls.specs.LockCallsState.{seen as calls_seen}
use Rattle.transaction.specs.declared.op.Op.{Op}
use Rattle.transaction.specs.Ops.{op_of}
use Rattle.node_core.specs.declared.node.Phase.{Phase}
use Rattle.node_core.specs.declared.node.Phase.TheVariants.{Asking, Waiting, Writing, Joining}
use Rattle.node_events.specs.Letters.{send_of}
use Rattle.node_events.specs.Made.{Made}
use Rattle.exchange.specs.Lists.{list_under}
use Rattle.node_core.specs.CoreState.{CoreState}
use Rattle.node_events.specs.Seen.{reply_of, answer_of, entry_by, entry_of}

-- where an operation stands that awaits these nodes
abbrev pub phase_of : Op → List ℕ → Phase → Current
phase_of op awaited (Asking r) = Current.Asking (op_of op) (seen r)
phase_of op awaited Waiting = Current.Waiting (op_of op)
phase_of op awaited (Writing asked reply) =
    Current.Writing (op_of op) (set_of asked) (set_of awaited) (option_map reply_of reply)
phase_of op awaited (Joining k m) = Current.Joining k m

abbrev pub current_of : Option Op → List ℕ → Phase → Current
current_of None awaited p = Current.Free
current_of (Some op) awaited p = phase_of op awaited p

-- the node
abbrev pub node_of : CoreState → Node
node_of h = record {
  replica = record {
    table = h.table;
    members = set_of h.members;
    told = with_older h.told;
    joined = h.joined;
    notices = λ serial. list_under serial h.notices;
  };
  locks = h.locks;
  watch = h.watch.watch;
  queue = map op_of h.registrar.queue;
  current = current_of h.registrar.current h.registrar.awaited h.phase;
  calls = calls_seen h.calls;
  last_call = h.last_call;
}

-- the node, and what its step has made so far
abbrev pub turn_of : CoreState → Made → Turn
turn_of h m = record {
  node = node_of h;
  sends = map send_of m.letters;
  entries = map entry_of m.entries;
  answers = map answer_of m.answers;
}

-- the same, with the numbers of joins
abbrev pub turn_by : (ℕ → ℕ) → CoreState → Made → Turn
turn_by number h m = record (turn_of h m) { entries = map (entry_by number) m.entries }

-- the lock table grants
abbrev pub is_granted : Verdict → Bool
is_granted Grant = true
is_granted _ = false
