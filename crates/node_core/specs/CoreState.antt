-- What a node holds.
use Rattle.std.specs.Prelude.{ℕ, Bool, nat_eq, true, false, ◌+◌, ◌≡◌, ◌<◌, All, List, [], ◌∷◌, Option, Some, None, if◌then◌else◌}
use Rattle.std.specs.Set.{distinct_count}
use Rattle.registry_model.specs.Table.{Table}
use Rattle.registry_model.specs.Settlement.{Notice}
use Rattle.protocol_model.specs.LockTable.{Locks}
use Rattle.registry_model.specs.Process.{Nodes}
use Rattle.term.specs.Nodes.{name_of}
use Rattle.term.specs.NodeSets.{set_of, with_older}
use Rattle.exit_watch.specs.Spans.{ends}
use Rattle.exit_watch.specs.WatchState.{WatchState, watch_from, AreSuspected}
use Rattle.lock_calls.specs.LockCallsState.{LockCallsState, none_at, seen}
use Rattle.lock_calls.specs.declared.call.LockCall.{LockCall}
use Rattle.protocol_model.specs.Node.{LockPhase}
use Rattle.protocol_model.specs.Round.{asked}
pub use Rattle.world_events.specs.Openings.{AreOf, bound_of}
use Rattle.transaction.specs.Work.{Work, idle}
use Rattle.transaction.specs.declared.op.Op.{Op}
use Rattle.transaction.specs.declared.op.Op.TheVariants.{Join, Admission}
use Rattle.node_core.specs.declared.node.Phase.{Phase}
use Rattle.node_core.specs.declared.node.Phase.TheVariants.{Asking, Waiting, Writing, Joining}

pub record CoreState : Type 0 where
  pub name : ℕ
  pub world : List ℕ  -- the nodes at present, one of each name, rising
  pub members : List ℕ
  pub told : List ℕ  -- of each name the last node that it was told has left; it was told so of all older ones, too
  pub joined : Bool
  pub table : Table
  pub notices : List (ℕ × List Notice)  -- what its processes were sent, by serial
  pub locks : Locks
  pub watch : WatchState
  pub registrar : Work
  pub phase : Phase  -- where the current operation stands
  pub calls : LockCallsState  -- of its processes, that aren't answered
  pub last_call : ℕ

-- in how many spans a node keeps the serials of its dead
abbrev pub spans_of : CoreState → ℕ
spans_of h = distinct_count nat_eq (ends h.watch.watch.dead)

-- these nodes have started: each is of the world, or older than the one of its name that is
abbrev pub HaveStarted : List ℕ → Nodes → Type 0
HaveStarted world ns = (c : ℕ) → ns c ≡ true → with_older world c ≡ true

-- those listed have
abbrev pub IsWithin : List ℕ → List ℕ → Type 0
IsWithin world cs = HaveStarted world (set_of cs)

-- the nodes of a phase have started
abbrev pub IsPhaseWithin : List ℕ → Phase → Type 0
IsPhaseWithin world (Asking r) = IsWithin world r.nodes
IsPhaseWithin world Waiting = Unit {0}
IsPhaseWithin world (Writing asked reply) = IsWithin world asked
IsPhaseWithin world (Joining k m) = with_older world m ≡ true

-- the other node of an operation, if it has one, has started
abbrev pub IsOpWithin : List ℕ → Op → Type 0
IsOpWithin world (Join k m) = with_older world m ≡ true
IsOpWithin world (Admission j pairs) = with_older world j ≡ true
IsOpWithin world _ = Unit {0}

-- that of the current operation, if there is one, has
abbrev pub IsCurrentWithin : List ℕ → Option Op → Type 0
IsCurrentWithin world None = Unit {0}
IsCurrentWithin world (Some op) = IsOpWithin world op

-- the nodes of a lock call's phase have started
abbrev pub IsCallWithin : List ℕ → LockPhase → Type 0
IsCallWithin world (LockPhase.Asking r) = HaveStarted world (asked r)
IsCallWithin world LockPhase.Waiting = Unit {0}
IsCallWithin world (LockPhase.Deleting owing) = HaveStarted world owing

-- the call is of a process of this node
abbrev pub IsOwnCall : CoreState → LockCall → Type 0
IsOwnCall h c = (c.holder.node ≡ h.name) × (0 < c.holder.serial)

-- Of the nodes of a world no two have one name; these nodes of it or older ones have left, and with each all older ones of its name,
-- and so have all that are older than a node of the world
pub record HaveLeft (world left : List ℕ) : Type 0 where
  pub one : (a b : ℕ) → set_of world a ≡ true → set_of world b ≡ true → name_of a ≡ name_of b → a ≡ b
  pub started : HaveStarted world (with_older left)
  pub older : (c : ℕ) → with_older world c ≡ true → set_of world c ≡ false → with_older left c ≡ true

-- the second node is the next one of the first one's name
pub record IsNext (older next : ℕ) : Type 0 where
  pub is : next ≡ older + 1
  pub named : name_of next ≡ name_of older

-- The node is one of its members, which are of the world and haven't left, as far as it was told; all other nodes that it knows of
-- have started. Its watch and its lock calls are its own, and the watch suspects each dead process of the node that owns a name
pub record IsWhole (h : CoreState) : Type 0 where
  pub self : set_of h.members h.name ≡ true
  pub members : AreOf h.world h.members
  pub told : HaveLeft h.world h.told
  pub apart : (c : ℕ) → set_of h.members c ≡ true → with_older h.told c ≡ false
  pub queue : All (IsOpWithin h.world) h.registrar.queue
  pub current : IsCurrentWithin h.world h.registrar.current
  pub awaited : IsWithin h.world h.registrar.awaited
  pub phase : IsPhaseWithin h.world h.phase
  pub watch : h.watch.node ≡ h.name
  pub suspected : AreSuspected h.watch h.table
  pub calls : h.calls.node ≡ h.name
  pub called : All (λ c. IsCallWithin h.world c.phase) (seen h.calls)

-- a node at its beginning, which was told that these have left
abbrev pub fresh_behind : ℕ → List ℕ → List ℕ → List ℕ → Bool → CoreState
fresh_behind a world members left joined = record {
  name = a;
  world = world;
  members = members;
  told = left;
  joined = joined;
  table = [];
  notices = [];
  locks = [];
  watch = watch_from a 0;
  registrar = idle;
  phase = Waiting;
  calls = none_at a;
  last_call = 0;
}

-- a node at its beginning, which was told of nobody
abbrev pub fresh : ℕ → List ℕ → List ℕ → Bool → CoreState
fresh a world members joined = fresh_behind a world members [] joined

-- the core that a node opens with: one of the cluster has its nodes as members, and a lone node itself
abbrev pub opening_core : List ℕ → List ℕ → ℕ → CoreState
opening_core nodes cluster a = if set_of cluster a then fresh a nodes cluster true else fresh a nodes (a ∷ []) false
