-- A copy of a node, as the protocol sees it.
use Rattle.std.proofs.Common.{ℕ, Bool, ◌≡◌, Option, Some, None, List, [], ◌∷◌, map, length, refl, sym, ap, ◌∙◌, subst}
use Rattle.std.specs.Prelude.{All, true, if◌then◌else◌}
use Rattle.std.specs.Option.{option_map}
use Rattle.std.proofs.lemmas.List.Elements.{All-head, All-tail, All-cons, All-nil}
use Rattle.registry_model.specs.Table.{Table}
use Rattle.registry_model.specs.Settlement.{Notice}
use Rattle.protocol_model.specs.Event.{is_join}
use Rattle.protocol_model.specs.LockTable.{Locks}
use Rattle.protocol_model.specs.Node.{Op as AnyOp, Current}
use Rattle.term.specs.NodeSets.{set_of, with_older}
use Rattle.exit_watch.specs.WatchState.{WatchState}
use Rattle.lock_calls.specs.LockCallsState.{LockCallsState}
use Rattle.transaction.specs.declared.op.Op.{Op}
use Rattle.transaction.specs.declared.op.Op.TheVariants.{Name, Strike, Join, Admission}
use Rattle.transaction.specs.Ops.{op_of}
use Rattle.transaction.specs.Work.{IsCopyOf}
use Rattle.locker.specs.RoundState.{seen}
use Rattle.node_events.specs.Seen.{reply_of}
use Rattle.node_core.specs.declared.node.Phase.{Phase}
use Rattle.node_core.specs.declared.node.Phase.TheVariants.{Asking, Waiting, Writing, Joining}
use Rattle.node_core.specs.CoreState.{CoreState, IsWhole, IsOpWithin, IsCurrentWithin}
use Rattle.node_core.specs.Rare.{joins_in}
use Rattle.node_core.specs.Seen.{node_of, phase_of, current_of}
use Rattle.node_core.specs.Steps.{IsAsBefore}
use Rattle.node_core.specs.Copies.{IsSamePhase, IsAsBounded}

-- the other node of an operation has started, as the protocol has the operation
abbrev within_by : List ℕ → AnyOp → Type 0
within_by world (AnyOp.Join k m) = with_older world m ≡ true
within_by world (AnyOp.Admission j pairs) = with_older world j ≡ true
within_by world _ = Unit {0}

within_to : (world : List ℕ) (op : Op) → IsOpWithin world op → within_by world (op_of op)
within_to world (Join k m) w = w
within_to world (Admission j pairs) w = w
within_to world (Name k c) w = w
within_to world (Strike p) w = w

within_from : (world : List ℕ) (op : Op) → within_by world (op_of op) → IsOpWithin world op
within_from world (Join k m) w = w
within_from world (Admission j pairs) w = w
within_from world (Name k c) w = w
within_from world (Strike p) w = w

-- an operation that is seen as another has its other node
op_within : (world : List ℕ) (op p : Op) → op_of p ≡ op_of op → IsOpWithin world op → IsOpWithin world p
op_within world op p same w = within_from world p (subst (within_by world) (sym same) (within_to world op w))

current_within : (world : List ℕ) (o p : Option Op) → option_map op_of p ≡ option_map op_of o
    → IsCurrentWithin world o → IsCurrentWithin world p
current_within world o None same w = tt
current_within world None (Some p) same w = absurd (cc same)
current_within world (Some op) (Some p) same w = op_within world op p (cc same) w

queue_within : (world : List ℕ) (xs ys : List Op) → map op_of ys ≡ map op_of xs → All (IsOpWithin world) xs
    → All (IsOpWithin world) ys
queue_within world xs [] same w = All-nil (IsOpWithin world)
queue_within world [] (y ∷ ys) same w = absurd (cc same)
queue_within world (x ∷ xs) (y ∷ ys) same w =
    All-cons (IsOpWithin world) y ys (op_within world x y (cc same) (All-head (IsOpWithin world) x xs w))
    (queue_within world xs ys (cc same) (All-tail (IsOpWithin world) x xs w))

-- a phase is the same for operations that are seen as one
same_phase : (op p : Op) (awaited : List ℕ) (x : Phase) → op_of p ≡ op_of op
    → phase_of p awaited x ≡ phase_of op awaited x
same_phase op p awaited (Asking r) same = ap (λ (o : AnyOp). Current.Asking o (seen r)) same
same_phase op p awaited Waiting same = ap Current.Waiting same
same_phase op p awaited (Writing asked reply) same =
    ap (λ (o : AnyOp). Current.Writing o (set_of asked) (set_of awaited) (option_map reply_of reply)) same
same_phase op p awaited (Joining k m) same = refl

same_current : (o p : Option Op) (awaited : List ℕ) (x : Phase) → option_map op_of p ≡ option_map op_of o
    → current_of p awaited x ≡ current_of o awaited x
same_current None None awaited x same = refl
same_current None (Some p) awaited x same = absurd (cc same)
same_current (Some op) None awaited x same = absurd (cc same)
same_current (Some op) (Some p) awaited x same = same_phase op p awaited x (cc same)

-- the phase of another node, with the same operation and the same that is awaited
phase_at : (o : Option Op) (awaited : List ℕ) (x y : Phase) → IsSamePhase x y
    → current_of o awaited y ≡ current_of o awaited x
phase_at None awaited x y same = refl
phase_at (Some op) awaited x y same = same.stands op awaited

-- as many joins are at the front
same_joins : (xs ys : List Op) → map op_of ys ≡ map op_of xs → joins_in ys ≡ joins_in xs
same_joins [] [] same = refl
same_joins [] (y ∷ ys) same = absurd (cc same)
same_joins (x ∷ xs) [] same = absurd (cc same)
same_joins (x ∷ xs) (y ∷ ys) same =
    ap (λ (b : Bool). if b then length (y ∷ ys) else 0) (ap is_join (cc same))
    ∙ ap (λ (n : ℕ). if is_join (op_of x) then n else 0) (lengths (y ∷ ys) (x ∷ xs) same)
  where
    lengths : (zs ws : List Op) → map op_of zs ≡ map op_of ws → length zs ≡ length ws
    lengths [] [] e = refl
    lengths [] (w ∷ ws) e = absurd (cc e)
    lengths (z ∷ zs) [] e = absurd (cc e)
    lengths (z ∷ zs) (w ∷ ws) e = ap (λ (n : ℕ). Prim.Native.Nat.suc n) (lengths zs ws (cc e))

-- k has what h has, with operations and a phase that are seen as those of h
pub record IsAlike (h k : CoreState) : Type 0 where
  pub name : k.name ≡ h.name
  pub world : k.world ≡ h.world
  pub members : k.members ≡ h.members
  pub told : k.told ≡ h.told
  pub joined : k.joined ≡ h.joined
  pub table : k.table ≡ h.table
  pub notices : k.notices ≡ h.notices
  pub locks : k.locks ≡ h.locks
  pub watch : k.watch ≡ h.watch
  pub work : IsCopyOf h.registrar k.registrar
  pub phase : IsSamePhase h.phase k.phase
  pub calls : k.calls ≡ h.calls
  pub last_call : k.last_call ≡ h.last_call

-- h with those operations and that phase
abbrev with_work : CoreState → CoreState → CoreState
with_work h k = record h { registrar = k.registrar; phase = k.phase }

is_with_work : (h k : CoreState) → IsAlike h k → with_work h k ≡ k
is_with_work h k a =
    ap (λ (x : ℕ). with_parts x h.world h.members h.told h.joined h.table h.notices h.locks h.watch h.calls h.last_call)
    (sym a.name)
    ∙ ap (λ (x : List ℕ). with_parts k.name x h.members h.told h.joined h.table h.notices h.locks h.watch h.calls h.last_call)
    (sym a.world)
    ∙ ap (λ (x : List ℕ). with_parts k.name k.world x h.told h.joined h.table h.notices h.locks h.watch h.calls h.last_call)
    (sym a.members)
    ∙ ap (λ (x : List ℕ). with_parts k.name k.world k.members x h.joined h.table h.notices h.locks h.watch h.calls h.last_call)
    (sym a.told)
    ∙ ap (λ (x : Bool). with_parts k.name k.world k.members k.told x h.table h.notices h.locks h.watch h.calls h.last_call)
    (sym a.joined)
    ∙ ap (λ (x : Table). with_parts k.name k.world k.members k.told k.joined x h.notices h.locks h.watch h.calls h.last_call)
    (sym a.table)
    ∙ ap (λ (x : List (ℕ × List Notice)). with_parts k.name k.world k.members k.told k.joined k.table x h.locks h.watch h.calls h.last_call)
    (sym a.notices)
    ∙ ap (λ (x : Locks). with_parts k.name k.world k.members k.told k.joined k.table k.notices x h.watch h.calls h.last_call)
    (sym a.locks)
    ∙ ap (λ (x : WatchState). with_parts k.name k.world k.members k.told k.joined k.table k.notices k.locks x h.calls h.last_call)
    (sym a.watch)
    ∙ ap (λ (x : LockCallsState). with_parts k.name k.world k.members k.told k.joined k.table k.notices k.locks k.watch x h.last_call)
    (sym a.calls)
    ∙ ap (λ (x : ℕ). with_parts k.name k.world k.members k.told k.joined k.table k.notices k.locks k.watch k.calls x)
    (sym a.last_call)
  where
    with_parts : ℕ → List ℕ → List ℕ → List ℕ → Bool → Table → List (ℕ × List Notice) → Locks → WatchState → LockCallsState → ℕ → CoreState
    with_parts n w m d j t s l x c i = record {
      name = n;
      world = w;
      members = m;
      told = d;
      joined = j;
      table = t;
      notices = s;
      locks = l;
      watch = x;
      registrar = k.registrar;
      phase = k.phase;
      calls = c;
      last_call = i;
    }

pub alike_before : (h k : CoreState) → IsAlike h k → IsAsBefore h k
alike_before h k a = record {
  name = a.name;
  world = a.world;
  node = sym (ap node_of (is_with_work h k a))
      ∙ ap (λ (ops : List AnyOp). record (node_of (with_work h k)) { queue = ops }) a.work.queue
      ∙ ap (λ (c : Current). record (node_of h) { current = c })
      (same_current h.registrar.current k.registrar.current k.registrar.awaited k.phase a.work.current
      ∙ phase_at h.registrar.current k.registrar.awaited h.phase k.phase a.phase
      ∙ ap (λ (xs : List ℕ). current_of h.registrar.current xs h.phase) a.work.awaited);
}

pub alike_bounds : (h k : CoreState) → IsAlike h k → IsAsBounded h k
alike_bounds h k a = record {
  joins = same_joins h.registrar.queue k.registrar.queue a.work.queue;
  calls = ap (λ (cs : LockCallsState). length cs.calls) a.calls;
}

pub alike_whole : (h k : CoreState) → IsAlike h k → IsWhole h → IsWhole k
alike_whole h k a whole = subst IsWhole (is_with_work h k a) (record {
  self = whole.self;
  members = whole.members;
  told = whole.told;
  apart = whole.apart;
  queue = queue_within h.world h.registrar.queue k.registrar.queue a.work.queue whole.queue;
  current = current_within h.world h.registrar.current k.registrar.current a.work.current whole.current;
  awaited = λ c e. whole.awaited c (subst (λ (xs : List ℕ). set_of xs c ≡ true) a.work.awaited e);
  phase = a.phase.within h.world whole.phase;
  watch = whole.watch;
  suspected = whole.suspected;
  calls = whole.calls;
  called = whole.called;
})

-- the same of a node that is seen as h
pub alike_before_at : (h0 h k : CoreState) → h0 ≡ h → IsAlike h0 k → IsAsBefore h k
alike_before_at h0 h k same a = subst (λ (x : CoreState). IsAsBefore x k) same (alike_before h0 k a)

pub alike_bounds_at : (h0 h k : CoreState) → h0 ≡ h → IsAlike h0 k → IsAsBounded h k
alike_bounds_at h0 h k same a = subst (λ (x : CoreState). IsAsBounded x k) same (alike_bounds h0 k a)
