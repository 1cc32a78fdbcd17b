-- What a call comes to.
use Rattle.std.proofs.Common.{Bool, true, false, ◌==◌, ◌≡◌, ◌+◌, None, List, [], ◌∷◌, refl, sym, ap, ◌∙◌, subst}
use Rattle.std.specs.Prelude.{not, is_some, if◌then◌else◌}
use Rattle.registry_model.specs.Process.{Text, Process}
use Rattle.protocol_model.specs.Letter.{Id, Global, Client}
use Rattle.protocol_model.specs.Node.{Node, LockCall as AnyLockCall, call_of as call_of_holder}
use Rattle.protocol_model.specs.Event.{Call as AnyCall, Cause, cause, first_cause}
use Rattle.protocol_model.specs.Event as refused
use Rattle.protocol_model.specs.Watch.{is_live}
use Rattle.protocol_model.specs.Turn.{Turn, count_call}
use Rattle.protocol_model.specs.Calling.{call}
use Rattle.protocol_model.specs.Client.{try_lock, delete_lock}
use Rattle.term.specs.declared.lock_id.LockId.{LockId}
use Rattle.lock_table.specs.Ids.{id_of}
use Rattle.lock_calls.specs.declared.call.CallPhase.TheVariants.{Waiting}
use Rattle.lock_calls.specs.declared.call.LockCall.{LockCall}
use Rattle.lock_calls.specs.Calls.{as_call}
use Rattle.transaction.specs.Calls.{target_of, retries_of}
use Rattle.transaction.specs.declared.nodes.Nodes.{Nodes}
use Rattle.transaction.specs.declared.nodes.Retries.{Retries}
use Rattle.transaction.specs.declared.nodes.Retries.TheVariants.{Times}
use Rattle.node_events.specs.declared.events.Call.{Call}
use Rattle.node_events.specs.declared.events.Call.TheVariants.{SetLock, DelLock}
use Rattle.node_events.specs.declared.events.Event.TheVariants.{Call as Calls}
use Rattle.node_events.specs.Made.{Made}
use Rattle.node_core.specs.CoreState.{CoreState, bound_of}
use Rattle.node_core.specs.Seen.{node_of, turn_of}
use Rattle.node_events.specs.Seen.{call_of}
use Rattle.node_core.specs.Steps.{Makes, refusal_of}
use Rattle.node_core.proofs.LockRefusals.{is_global}

-- the call is this one, and this is where it comes to
pub calls : {h k k0 : CoreState} {t u u0 : Made} (c : Call) (d : AnyCall) → call_of c ≡ d → k ≡ k0 → u ≡ u0
    → Makes (λ n a w. call n a (w.node.last_call + 1) d w) h t k0 u0
    → Makes (λ n a w. call n a (w.node.last_call + 1) (call_of c) w) h t k u
calls {h} {k} {k0} {t} {u} {u0} c d is state turn made =
    subst (λ (e : AnyCall). Makes (λ n a w. call n a (w.node.last_call + 1) e w) h t k u) (sym is)
    (subst (λ (x : CoreState). Makes (λ n a w. call n a (w.node.last_call + 1) d w) h t x u) (sym state)
    (subst (λ (v : Made). Makes (λ n a w. call n a (w.node.last_call + 1) d w) h t k0 v) (sym turn) made))

-- a lock call that isn't refused is on another resource than `global`
not_reserved : (p : Process) (l b r : Bool) (cs : List Cause)
    → first_cause (cause (not l) (refused.NotLive p) ∷ cause b (refused.Busy p) ∷ cause r refused.Reserved ∷ cs) ≡ None
    → r ≡ false
not_reserved p true false false cs e = refl
not_reserved p true false true cs e = cc
not_reserved p true true r cs e = cc
not_reserved p false b r cs e = cc

-- so its id is a client's
is_client : (id : LockId) → (id.resource == refused.global_resource) ≡ false → id_of id
    ≡ Client id.resource id.requester
is_client id other =
    ap (λ (t : Text). if id.resource == t then Global id.requester else Client id.resource id.requester) is_global
    ∙ ap (λ (b : Bool). if b then Global id.requester else Client id.resource id.requester) other

-- h is the node, and h1 the node with one call more, which is c: its process asks these nodes for this lock
module _ (h h1 k : CoreState) (t u : Made) (c : LockCall) (p : Process) (id : LockId) (nodes : Nodes) (retries : Retries)
    (state : h1 ≡ record h { last_call = h.last_call + 1 })
    (is : c ≡ record {
      holder = p;
      number = h.last_call + 1;
      id = id;
      nodes = nodes;
      retries = retries;
      phase = Waiting;
    }) where
  -- the call with another id
  abbrev by_id : Id → AnyLockCall
  by_id i = record (as_call (record {
    holder = p;
    number = h.last_call + 1;
    id = id;
    nodes = nodes;
    retries = retries;
    phase = Waiting;
  })) { id = i }

  -- a rule of the new call
  module _ (rule : AnyLockCall → Turn → Turn) where
    -- it is
    begins : (id.resource == refused.global_resource) ≡ false
        → turn_of k u ≡ rule (as_call c) (turn_of h1 t)
        → turn_of k u ≡ rule (by_id (Client id.resource id.requester)) (count_call (turn_of h t))
    begins other made = made ∙ ap (λ (d : LockCall). rule (as_call d) (turn_of h1 t)) is
        ∙ ap (λ (i : Id). rule (by_id i) (turn_of h1 t)) (is_client id other)
        ∙ ap (λ (x : CoreState). rule (by_id (Client id.resource id.requester)) (turn_of x t)) state

  -- a `set_lock`
  pub sets : (x : Call) → x ≡ SetLock p id nodes retries → refusal_of (Calls x) h ≡ None
      → Makes (λ n a. try_lock n a (as_call c)) h1 t k u
      → Makes (λ n a w. call n a (w.node.last_call + 1) (call_of x) w) h t k u
  sets x same none M = record {
    name = M.name ∙ ap (λ (y : CoreState). y.name) state;
    world = M.world ∙ ap (λ (y : CoreState). y.world) state;
    turn = begins (try_lock (bound_of h.world) h.name) (not_reserved p live busy
        (id.resource == refused.global_resource) (cause (not known) refused.UnknownNode ∷ refused.calls_spent v ∷ [])
        (ap (λ (y : Call). refusal_of (Calls y) h) (sym same) ∙ none))
        (subst (λ (y : CoreState). turn_of k u ≡ try_lock (bound_of y.world) y.name (as_call c) (turn_of h1 t)) state M.turn)
        ∙ ap (λ (y : Call). call (bound_of h.world) h.name (h.last_call + 1) (call_of y) (turn_of h t)) (sym same);
  }
    where
      v : Node
      v = node_of h

      live : Bool
      live = is_live h.name v.watch p

      busy : Bool
      busy = is_some (call_of_holder p v.calls)

      known : Bool
      known = refused.names_members v (target_of nodes)

  -- a `del_lock`
  pub deletes : (x : Call) → x ≡ DelLock p id nodes → retries ≡ Times 0 → refusal_of (Calls x) h ≡ None
      → Makes (λ n a. delete_lock n a (as_call c)) h1 t k u
      → Makes (λ n a w. call n a (w.node.last_call + 1) (call_of x) w) h t k u
  deletes x same once none M = record {
    name = M.name ∙ ap (λ (y : CoreState). y.name) state;
    world = M.world ∙ ap (λ (y : CoreState). y.world) state;
    turn = begins (delete_lock (bound_of h.world) h.name) (not_reserved p live busy
        (id.resource == refused.global_resource) (refused.calls_spent v ∷ [])
        (ap (λ (y : Call). refusal_of (Calls y) h) (sym same) ∙ none))
        (subst (λ (y : CoreState). turn_of k u ≡ delete_lock (bound_of y.world) y.name (as_call c) (turn_of h1 t)) state
        M.turn)
        ∙ ap (λ (r : Retries). delete_lock (bound_of h.world) h.name
        (record (by_id (Client id.resource id.requester)) { retries = retries_of r }) (count_call (turn_of h t))) once
        ∙ ap (λ (y : Call). call (bound_of h.world) h.name (h.last_call + 1) (call_of y) (turn_of h t)) (sym same);
  }
    where
      v : Node
      v = node_of h

      live : Bool
      live = is_live h.name v.watch p

      busy : Bool
      busy = is_some (call_of_holder p v.calls)
