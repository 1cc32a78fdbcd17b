-- What a retry makes of the lock calls of its node: each call stands as it did, or is a refused one that is tried
-- again, over the members of now.
use mathlib.Core.Logic.{◌⊎◌}
use Rattle.std.proofs.Common.{ℕ, Bool, true, false, ◌==◌, ◌≡◌, Option, Some, None, List, [], ◌∷◌, refl, sym, ap, ◌∙◌, subst, inl, inr}
use Rattle.std.specs.Prelude.{nat_lt, fold, if◌then◌else◌}
use Rattle.std.proofs.lemmas.Bool.{eqb-true}
use Rattle.registry_model.specs.Process.{Process, is_process, Nodes}
use Rattle.protocol_model.specs.Round.{is_empty, begin}
use Rattle.protocol_model.specs.Watch.{owed}
use Rattle.protocol_model.specs.Node.{Node, Op, Current, LockPhase, LockCall, call_of, targets}
use Rattle.protocol_model.specs.Event.{Event, is_waiting_call}
use Rattle.protocol_model.specs.Turn.{Turn, begun, with_queue}
use Rattle.protocol_model.specs.Registrar.{contact_left, ask_join, start_queue, start_next, start_free, start, retry_global}
use Rattle.protocol_model.specs.Client.{one_less, in_phase, close_call, ask_lock, retry_in, retry_locks}
use Rattle.protocol_model.specs.Calling.{event}
use Rattle.moves.proofs.Rules.{is_ordered}
use Rattle.walk.proofs.Calls.{AllOpen, OrderedParts, ordered_parts, all_open, is_ordered-drop_call, is_ordered-put_call}
use Rattle.client_locks.proofs.Calls.{call_of-drop, call_of-put}
use Rattle.client_locks.proofs.Ids.{is_process_same}

-- d is the refused call c, tried again over these members
pub record IsTriedAgain (n : ℕ) (members : Nodes) (c d : LockCall) : Type 0 where
  pub refused : is_waiting_call c.phase ≡ true
  pub number : d.number ≡ c.number
  pub id : d.id ≡ c.id
  pub target : d.target ≡ c.target
  pub phase : d.phase ≡ LockPhase.Asking (begin n (targets members c.target))

-- the calls ys come of the calls xs by a retry over these members
abbrev pub AreRetried : ℕ → Nodes → List LockCall → List LockCall → Type 0
AreRetried n members xs ys = (p : Process) (d : LockCall) → call_of p ys ≡ Some d
    → (call_of p xs ≡ Some d) ⊎ ((c : LockCall) × ((call_of p xs ≡ Some c) × IsTriedAgain n members c d))

module _ (n a : ℕ) where
  -- the beginning of the next operation leaves the lock calls alone
  start_queue_calls : (ops : List Op) (u : Turn) → (start_queue n a ops u).node.calls ≡ u.node.calls
  start_queue_calls [] u = refl
  start_queue_calls (Op.Join k m ∷ ops) u =
      go (u.node.replica.told m) (start_queue_calls ops (contact_left n a k m u))
    where
      go : (t : Bool) → (start_queue n a ops (contact_left n a k m u)).node.calls ≡ u.node.calls
          → (if t then start_queue n a ops (contact_left n a k m u) else ask_join n a k m (with_queue ops u)).node.calls
          ≡ u.node.calls
      go true e = e
      go false e = refl
  start_queue_calls (op ∷ ops) u = refl

  -- and so does the end of a step
  start_calls : (u : Turn) → (start n a u).node.calls ≡ u.node.calls
  start_calls u = go u.node.current (owed a u.node.replica.table u.node.watch)
    where
      next : (s : Option ℕ) → (start_next n a s u).node.calls ≡ u.node.calls
      next (Some serial) = refl
      next None = start_queue_calls u.node.queue u

      go : (c : Current) → (s : Option ℕ) → (start_free n a c u).node.calls ≡ u.node.calls
      go Current.Free s = next (owed a u.node.replica.table u.node.watch)
      go _ s = refl

  -- what a retry keeps on its way
  record Retrying (v : Node) (u : Turn) : Type 0 where
    members : u.node.replica.members ≡ v.replica.members
    ordered : is_ordered a u.node.calls ≡ true
    retried : AreRetried n v.replica.members v.calls u.node.calls

  -- one call, if it was refused, is tried again
  retry_one : (v : Node) (c : LockCall) (u : Turn) → (c.holder.node == a) ≡ true → nat_lt 0 c.holder.serial ≡ true
      → call_of c.holder v.calls ≡ Some c → Retrying v u → Retrying v (retry_in n a c.phase c u)
  retry_one v c u here above open_call R = go c.phase refl
    where
      less : LockCall
      less = record c { retries = one_less c.retries }

      again : (members : Nodes) → LockCall
      again members = in_phase (LockPhase.Asking (begin n (targets members c.target))) less

      tried : c.phase ≡ LockPhase.Waiting → IsTriedAgain n v.replica.members c (again u.node.replica.members)
      tried e = record {
        refused = ap is_waiting_call e;
        number = refl;
        id = refl;
        target = refl;
        phase = ap (λ (members : Nodes). LockPhase.Asking (begin n (targets members c.target))) R.members;
      }

      dropped : Retrying v (close_call n a less false u)
      dropped = record {
        members = R.members;
        ordered = is_ordered-drop_call a c.holder u.node.calls R.ordered;
        retried = λ p d e. kept p d (is_process c.holder p) (sym (call_of-drop p c.holder u.node.calls) ∙ e);
      }
        where
          kept : (p : Process) (d : LockCall) (b : Bool) → (if b then None else call_of p u.node.calls) ≡ Some d
              → (call_of p v.calls ≡ Some d)
              ⊎ ((k : LockCall) × ((call_of p v.calls ≡ Some k) × IsTriedAgain n v.replica.members k d))
          kept p d true e = cc
          kept p d false e = R.retried p d e

      asked : c.phase ≡ LockPhase.Waiting → Retrying v (ask_lock n a less (targets u.node.replica.members c.target) u)
      asked w = record {
        members = R.members;
        ordered = is_ordered-put_call a (again u.node.replica.members) u.node.calls here above R.ordered;
        retried = λ p d e. put p d (is_process c.holder p) refl
            (sym (call_of-put a p (again u.node.replica.members) u.node.calls (eqb-true c.holder.node a here) R.ordered)
            ∙ e);
      }
        where
          put : (p : Process) (d : LockCall) (b : Bool) → is_process c.holder p ≡ b
              → (if b then Some (again u.node.replica.members) else call_of p u.node.calls) ≡ Some d
              → (call_of p v.calls ≡ Some d)
              ⊎ ((k : LockCall) × ((call_of p v.calls ≡ Some k) × IsTriedAgain n v.replica.members k d))
          put p d true i e =
              let same : again u.node.replica.members ≡ d = cc e in
              inr (
                c,
                (
                  subst (λ (q : Process). call_of q v.calls ≡ Some c) (is_process_same c.holder p i) open_call,
                  subst (λ (k : LockCall). IsTriedAgain n v.replica.members c k) same (tried w),
                ),
              )
          put p d false i e = R.retried p d e

      go : (x : LockPhase) → c.phase ≡ x → Retrying v (retry_in n a x c u)
      go LockPhase.Waiting e = by_targets (is_empty n (targets u.node.replica.members c.target))
        where
          by_targets : (b : Bool) → Retrying v (if b then close_call n a less false u else ask_lock n a less
              (targets u.node.replica.members c.target) u)
          by_targets true = dropped
          by_targets false = asked e
      go (LockPhase.Asking r) e = R
      go (LockPhase.Deleting owing) e = R

  -- all calls, by serial
  retry_each : (v : Node) (cs : List LockCall) → is_ordered a cs ≡ true → AllOpen v.calls cs → (u : Turn)
      → Retrying v u → Retrying v (fold (λ x c. retry_in n a c.phase c x) u cs)
  retry_each v [] k open_calls u R = R
  retry_each v (c ∷ cs) k open_calls u R =
      let parts : OrderedParts a c cs = ordered_parts a c cs k in
      retry_each v cs parts.3 open_calls.1 (retry_in n a c.phase c u)
      (retry_one v c u parts.0 parts.1 open_calls.0 R)

  -- the registrar's retry leaves the calls alone, and the members
  retry_global_part : {X : Type 0} (P : Node → X) (v : Node)
      → ((x : Current) → P (record v { current = x }) ≡ P v)
      → P (retry_global n a v.current (begun v)).node ≡ P v
  retry_global_part P v same = go v.current
    where
      go : (x : Current) → P (retry_global n a x (begun v)).node ≡ P v
      go (Current.Waiting op) = same _
      go _ = refl

  -- after a retry each open call is one that was open and stands as it did, or was refused and is tried again
  pub retry_calls : (world : Nodes) (v : Node) → is_ordered a v.calls ≡ true
      → AreRetried n v.replica.members v.calls (event n a world Event.Retry (begun v)).node.calls
  retry_calls world v k p d e =
      (retry_each v first.node.calls ordered (subst (λ (cs : List LockCall). AllOpen v.calls cs) (sym calls)
      (all_open a v.calls k)) first begins).retried p d
      (sym (ap (call_of p) (start_calls (retry_locks n a first))) ∙ e)
    where
      first : Turn
      first = retry_global n a v.current (begun v)

      calls : first.node.calls ≡ v.calls
      calls = retry_global_part (λ x. x.calls) v (λ x. refl)

      ordered : is_ordered a first.node.calls ≡ true
      ordered = ap (is_ordered a) calls ∙ k

      begins : Retrying v first
      begins = record {
        members = retry_global_part (λ x. x.replica.members) v (λ x. refl);
        ordered = ordered;
        retried = λ q c f. inl (sym (ap (call_of q) calls) ∙ f);
      }
