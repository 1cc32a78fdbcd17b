-- Clients' lock calls begin, go on, end and are tried again: chains of rules.
use mathlib.Core.Logic.{◌⊎◌}
use Rattle.std.proofs.Common.{ℕ, Bool, true, false, ◌==◌, ◌≡◌, Option, Some, List, [], ◌∷◌, refl, sym, subst, ap, ◌∙◌, inr}
use Rattle.std.specs.Prelude.{nat_lt, fold, if◌then◌else◌}
use Rattle.std.proofs.lemmas.Bool.{eq-eqb}
use Rattle.registry_model.specs.Process.{Process, Nodes, at}
use Rattle.registry_model.specs.Registry.{Replica}
use Rattle.protocol_model.specs.Round.{Round, begin, is_empty, asked, down, is_over, Ending, Held, GiveBack, ending}
use Rattle.protocol_model.specs.Node.{Node, LockPhase, LockCall, call_of, targets}
use Rattle.protocol_model.specs.Turn.{Turn, keep_call}
use Rattle.protocol_model.specs.Client.{one_less, is_spent, in_phase, close_call, ask_lock, try_lock, give_lock, end_lock_by, end_lock, lose_node_in, lose_node, retry_in, retry_locks}
use Rattle.protocol_model.specs.World.{Opening, in_world, World, left}
use Rattle.moves.proofs.Rules
use Rattle.moves.proofs.Rules.{Rule, IsNew, IsRetried, IsOpen, is_ordered}
use Rattle.walk.proofs.ChainKinds.{Kind, Again, is_number_of, may_try, may_go_on}
use Rattle.walk.proofs.Chains.{Chain, chain_more}
use Rattle.walk.proofs.Calls.{AllOpen, Only, OrderedParts, ordered_parts, all_after, all_open, all_open-only, only_none, only_then, only_drop, only_put, call_of-put_call}

-- the process of a call is one of this node's
abbrev pub IsOwn : ℕ → Process → Type 0
IsOwn a p = ((p.node == a) ≡ true) × (nat_lt 0 p.serial ≡ true)

module _ (o : Opening) (a : ℕ) (K : Kind) (inside : in_world o a ≡ true) (w : World) (first : List Rule) (b : World)
    (running : left b a ≡ false) where
  -- The chain goes on from turn u to turn v, which leaves the replica as it is, and all lock calls but that of q
  pub record Forward (q : Process) (u v : Turn) : Type 0 where
    pub chain : Chain o a K w first b v
    pub replica : v.node.replica ≡ u.node.replica
    pub only : Only a q u.node.calls v.node.calls

  -- nothing more is done
  forward_none : (q : Process) (u : Turn) → Chain o a K w first b u → Forward q u u
  forward_none q u h = record { chain = h; replica = refl; only = only_none a q u.node.calls }

  -- the call's round may be over
  pub end_lock-chain : may_go_on K ≡ true → (c : LockCall) (r : Round) (u : Turn) → Chain o a K w first b u
      → IsOwn a c.holder
      → IsOpen u.node c (LockPhase.Asking r)
      → Forward c.holder u (end_lock o.bound a c r u)
  end_lock-chain on_kind c r u h own e = go (is_over o.bound r) refl (ending o.bound (asked r) r) refl
    where
      only : (granted : Nodes) (t : Bool) → Only a c.holder u.node.calls
          (if t then close_call o.bound a c false (give_lock o.bound a c granted u)
          else keep_call (in_phase LockPhase.Waiting c) (give_lock o.bound a c granted u)).node.calls
      only granted true = only_drop a c.holder u.node.calls
      only granted false = only_put a (in_phase LockPhase.Waiting c) u.node.calls own.0 own.1

      replica : (granted : Nodes) (t : Bool)
          → (if t then close_call o.bound a c false (give_lock o.bound a c granted u)
          else keep_call (in_phase LockPhase.Waiting c) (give_lock o.bound a c granted u)).node.replica
          ≡ u.node.replica
      replica granted true = refl
      replica granted false = refl

      go : (t : Bool) → is_over o.bound r ≡ t → (x : Ending) → ending o.bound (asked r) r ≡ x
          → Forward c.holder u (if t then end_lock_by o.bound a x c u else u)
      go true q Held s = record {
        chain = chain_more o a K inside w first b u (Rules.WinsLock c r) running h on_kind refl (e, q, s);
        replica = refl;
        only = only_drop a c.holder u.node.calls;
      }
      go true q (GiveBack granted) s = record {
        chain = chain_more o a K inside w first b u (Rules.GivesUpLock c r granted) running h on_kind refl (e, q, s);
        replica = replica granted (is_spent c.retries);
        only = only granted (is_spent c.retries);
      }
      go false q x s = forward_none c.holder u h

  -- the call's round stands so now, and may be over
  pub go_on_lock-chain : may_go_on K ≡ true → (c : LockCall) (r : Round) (u : Turn)
      → Chain o a K w first b (keep_call (in_phase (LockPhase.Asking r) c) u)
      → IsOwn a c.holder
      → Forward c.holder u
      (end_lock o.bound a (in_phase (LockPhase.Asking r) c) r (keep_call (in_phase (LockPhase.Asking r) c) u))
  go_on_lock-chain on_kind c r u h own = record {
    chain = on.chain;
    replica = on.replica;
    only = only_then a c.holder u.node.calls (keep_call (in_phase (LockPhase.Asking r) c) u).node.calls
        (end_lock o.bound a (in_phase (LockPhase.Asking r) c) r
        (keep_call (in_phase (LockPhase.Asking r) c) u)).node.calls
        (only_put a (in_phase (LockPhase.Asking r) c) u.node.calls own.0 own.1) on.only;
  }
    where
      on : Forward c.holder (keep_call (in_phase (LockPhase.Asking r) c) u)
          (end_lock o.bound a (in_phase (LockPhase.Asking r) c) r (keep_call (in_phase (LockPhase.Asking r) c) u))
      on = end_lock-chain on_kind (in_phase (LockPhase.Asking r) c) r
          (keep_call (in_phase (LockPhase.Asking r) c) u) h own
          (record { call = call_of-put_call (in_phase (LockPhase.Asking r) c) u.node.calls; phase = refl })

  -- d has gone down: a call is told
  lose_node_in-chain : may_go_on K ≡ true → (d : ℕ) (c : LockCall) (u : Turn) → Chain o a K w first b u
      → u.node.replica.told d ≡ true
      → IsOwn a c.holder
      → call_of c.holder u.node.calls ≡ Some c
      → Forward c.holder u (lose_node_in o.bound a d c.phase c u)
  lose_node_in-chain on_kind d c u h told own e = go c.phase refl
    where
      owing_less : (owing : Nodes) → c.phase ≡ LockPhase.Deleting owing → (t s : Bool) → owing d ≡ t
          → is_empty o.bound (at owing d false) ≡ s
          → Forward c.holder u
          (if t then (if s then close_call o.bound a c true u
          else keep_call (in_phase (LockPhase.Deleting (at owing d false)) c) u) else u)
      owing_less owing p true true q s = record {
        chain = chain_more o a K inside w first b u (Rules.EndsDeletionDown d c owing) running h on_kind refl
            (told, record { call = e; phase = p }, q, s);
        replica = refl;
        only = only_drop a c.holder u.node.calls;
      }
      owing_less owing p true false q s = record {
        chain = chain_more o a K inside w first b u (Rules.CountsLockDown d c owing) running h on_kind refl
            (told, record { call = e; phase = p }, q, s);
        replica = refl;
        only = only_put a (in_phase (LockPhase.Deleting (at owing d false)) c) u.node.calls own.0 own.1;
      }
      owing_less owing p false s q t = forward_none c.holder u h

      go : (x : LockPhase) → c.phase ≡ x → Forward c.holder u (lose_node_in o.bound a d x c u)
      go (LockPhase.Asking r) p = go_on_lock-chain on_kind c (down d r) u
          (chain_more o a K inside w first b u (Rules.MarksLockDown d c r) running h on_kind refl
          (told, record { call = e; phase = p })) own
      go LockPhase.Waiting p = forward_none c.holder u h
      go (LockPhase.Deleting owing) p = owing_less owing p (owing d) (is_empty o.bound (at owing d false)) refl refl

  -- a call is tried over the members of now
  pub try_lock-chain : (c : LockCall) (u : Turn) → may_try K c ≡ true → Chain o a K w first b u → IsOwn a c.holder
      → IsNew a u.node c ⊎ IsRetried u.node c
      → Forward c.holder u (try_lock o.bound a c u)
  try_lock-chain c u suited h own e = go (is_empty o.bound (targets u.node.replica.members c.target)) refl
    where
      go : (t : Bool) → is_empty o.bound (targets u.node.replica.members c.target) ≡ t
          → Forward c.holder u
          (if t then close_call o.bound a c false u
          else ask_lock o.bound a c (targets u.node.replica.members c.target) u)
      go true q = record {
        chain = chain_more o a K inside w first b u (Rules.FailsLock c) running h suited refl (e, q);
        replica = refl;
        only = only_drop a c.holder u.node.calls;
      }
      go false q = record {
        chain = chain_more o a K inside w first b u (Rules.AsksLock c) running h suited refl (e, q);
        replica = refl;
        only = only_put a (in_phase (LockPhase.Asking (begin o.bound (targets u.node.replica.members c.target))) c)
            u.node.calls own.0 own.1;
      }

  -- a refused call uses one retry and is tried again
  retry_in-chain : (c : LockCall) (u : Turn) → may_try K (record c { retries = one_less c.retries }) ≡ true
      → Chain o a K w first b u → IsOwn a c.holder
      → call_of c.holder u.node.calls ≡ Some c
      → Forward c.holder u (retry_in o.bound a c.phase c u)
  retry_in-chain c u suited h own e = go c.phase refl
    where
      go : (x : LockPhase) → c.phase ≡ x → Forward c.holder u (retry_in o.bound a x c u)
      go LockPhase.Waiting p = try_lock-chain (record c { retries = one_less c.retries }) u suited h own
          (inr (record
          { before = c; open_call = e; phase = p; holder = refl; id = refl; number = refl; target = refl }))
      go (LockPhase.Asking r) p = forward_none c.holder u h
      go (LockPhase.Deleting owing) p = forward_none c.holder u h

  -- All calls take such a step, by serial: each finds its own call as it was
  calls-chain : (step : LockCall → Turn → Turn) (P : Replica → Type 0) (xs : List LockCall)
      → ((c : LockCall) (u : Turn) → call_of c.holder xs ≡ Some c → Chain o a K w first b u → P u.node.replica
      → IsOwn a c.holder
      → call_of c.holder u.node.calls ≡ Some c
      → Forward c.holder u (step c u))
      → (cs : List LockCall) → is_ordered a cs ≡ true
      → (u : Turn) → Chain o a K w first b u → P u.node.replica → is_ordered a u.node.calls ≡ true
      → AllOpen u.node.calls cs → AllOpen xs cs
      → Chain o a K w first b (fold (λ v c. step c v) u cs)
  calls-chain step P xs one [] q u h p k e x = h
  calls-chain step P xs one (c ∷ cs) q u h p k e x =
      calls-chain step P xs one cs parts.3 (step c u) on.chain (subst P (sym on.replica) p) (on.only k).0
      (all_open-only a c.holder cs u.node.calls (step c u).node.calls k on.only
      (all_after a c.holder.serial cs parts.2 parts.3) e.1) x.1
    where
      parts : OrderedParts a c cs
      parts = ordered_parts a c cs q

      on : Forward c.holder u (step c u)
      on = one c u x.0 h p (parts.0, parts.1) e.0

  -- d has gone down: all lock calls are told
  pub lose_node-chain : may_go_on K ≡ true → (d : ℕ) (u : Turn) → Chain o a K w first b u → u.node.replica.told d ≡ true
      → is_ordered a u.node.calls ≡ true
      → Chain o a K w first b (lose_node o.bound a d u)
  lose_node-chain on_kind d u h told k =
      calls-chain (λ c. lose_node_in o.bound a d c.phase c) (λ (v : Replica). v.told d ≡ true) u.node.calls
      (λ c v x. lose_node_in-chain on_kind d c v) u.node.calls k u h told k (all_open a u.node.calls k)
      (all_open a u.node.calls k)

-- all refused calls are tried again, each of which was open before
pub retry_locks-chain : (o : Opening) (a : ℕ) (inside : in_world o a ≡ true) (w : World) (first : List Rule)
    (b : World) (running : left b a ≡ false)
    (v : Node) (u : Turn) → u.node.calls ≡ v.calls → Chain o a (Again v) w first b u → is_ordered a u.node.calls ≡ true
    → Chain o a (Again v) w first b (retry_locks o.bound a u)
retry_locks-chain o a inside w first b running v u same h k = calls-chain o a (Again v) inside w first b running
    (λ c. retry_in o.bound a c.phase c) (λ (r : Replica). Unit {0}) u.node.calls
    (λ c x open_call g p own e. retry_in-chain o a (Again v) inside w first b running c x (known c open_call) g own e)
    u.node.calls k u h tt k (all_open a u.node.calls k) (all_open a u.node.calls k)
  where
    known : (c : LockCall) → call_of c.holder u.node.calls ≡ Some c
        → is_number_of (call_of c.holder v.calls) c.number ≡ true
    known c e = ap (λ (x : Option LockCall). is_number_of x c.number) (ap (call_of c.holder) (sym same) ∙ e)
        ∙ eq-eqb c.number c.number refl
