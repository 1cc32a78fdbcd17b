-- What a step makes of the lock calls of its node where one begins, or where refused ones are tried again: their
-- phases, what is answered, and that nobody is denied a lock by it.
use mathlib.Core.Logic.{◌⊎◌}
use Rattle.std.proofs.Common.{ℕ, Bool, true, false, ◌==◌, ◌≡◌, Option, Some, None, List, [], ◌∷◌, ◌++◌, refl, sym, ap, ◌∙◌, subst, inl, inr, arith}
use Rattle.std.specs.Prelude.{nat_lt, Contains, if◌then◌else◌, fold}
use Rattle.std.proofs.lemmas.List.Elements.{Contains-push_cases}
use Rattle.std.proofs.lemmas.Bool.{eqb-true}
use Rattle.registry_model.specs.Process.{Process, is_process, Nodes, nodes_of}
use Rattle.registry_model.specs.Call.{True, False}
use Rattle.protocol_model.specs.Round.{begin, is_empty}
use Rattle.protocol_model.specs.Letter.{Letter}
use Rattle.protocol_model.specs.Watch.{owed}
use Rattle.protocol_model.specs.Node.{Node, Op, Current, LockPhase, LockCall, call_of, targets}
use Rattle.protocol_model.specs.Event.{Answer}
use Rattle.protocol_model.specs.Turn.{Send, Turn, begun, with_queue}
use Rattle.protocol_model.specs.Registrar.{start, start_free, start_next, start_queue, contact_left, ask_join, retry_global}
use Rattle.protocol_model.specs.Client.{in_phase, one_less, close_call, ask_lock, try_lock, retry_in, retry_locks, ask_back, delete_lock}
use Rattle.moves.proofs.Rules.{is_ordered}
use Rattle.moves.proofs.Sends.{to_each}
use Rattle.moves.proofs.SendTests.{all_pass, pass_append, pass_each}
use Rattle.walk.proofs.Calls.{AllAfter, AllOpen, Only, OrderedParts, all_open, all_after, all_open-only, ordered_parts, is_process-less, is_ordered-drop_call, is_ordered-put_call}
use Rattle.leftovers.proofs.Calls.{call_of-put, call_of-drop}
use Rattle.leftovers.proofs.Ids.{is_process_same, is_process_swap}
use Rattle.lock_answers.proofs.Verdicts.{is_verdict}

-- the letter denies no lock
abbrev pub is_no_denial : Letter → Bool
is_no_denial (Letter.LockAnswer id p granted) = granted
is_no_denial _ = true

-- none of these letters does
abbrev pub deny_none : List Send → Bool
deny_none ss = all_pass is_no_denial ss

pub deny_push : (ss : List Send) (s : Send) → is_no_denial s.letter ≡ true → deny_none ss ≡ true
    → deny_none (ss ++ s ∷ []) ≡ true
deny_push ss s h k = pass_append is_no_denial ss (s ∷ []) k (rw h refl)

-- what there is unless b
pub some_unless : {A : Type 0} (b : Bool) (x y : A) → (if b then None else Some x) ≡ Some y → x ≡ y
some_unless true x y e = cc
some_unless false x y e = cc

module _ (n a : ℕ) where
  -- a turn leaves the lock calls, answers none of them, and denies nobody a lock
  pub record Quietly (u v : Turn) : Type 0 where
    pub calls : v.node.calls ≡ u.node.calls
    pub said : (s : Answer) → Contains v.answers s → is_verdict s.reply ≡ true → Contains u.answers s
    pub sends : deny_none u.sends ≡ true → deny_none v.sends ≡ true

  queue_quiet : (ops : List Op) (u : Turn) → Quietly u (start_queue n a ops u)
  queue_quiet [] u = record { calls = refl; said = λ s c h. c; sends = λ h. h }
  queue_quiet (Op.Join k m ∷ ops) u = go (u.node.replica.told m) (queue_quiet ops (contact_left n a k m u))
    where
      go : (b : Bool) → Quietly (contact_left n a k m u) (start_queue n a ops (contact_left n a k m u))
          → Quietly u (if b then start_queue n a ops (contact_left n a k m u) else ask_join n a k m (with_queue ops u))
      go true Q = record {
        calls = Q.calls;
        said = λ s c h. elim (Contains-push_cases u.answers _ s (Q.said s c h)) [
          | inl before ↦ before
          | inr e ↦ cc (ap (λ (x : Answer). is_verdict x.reply) e, h)
        ];
        sends = Q.sends;
      }
      go false Q = record { calls = refl; said = λ s c h. c; sends = deny_push u.sends _ refl }
  queue_quiet (op ∷ ops) u = record { calls = refl; said = λ s c h. c; sends = deny_push u.sends _ refl }

  -- so it is of the end of a step
  pub start_quiet : (u : Turn) → Quietly u (start n a u)
  start_quiet u = go u.node.current
    where
      next : (s : Option ℕ) → Quietly u (start_next n a s u)
      next (Some s) = record { calls = refl; said = λ s c h. c; sends = deny_push u.sends _ refl }
      next None = queue_quiet u.node.queue u

      go : (c : Current) → Quietly u (start_free n a c u)
      go Current.Free = next (owed a u.node.replica.table u.node.watch)
      go _ = record { calls = refl; said = λ s c h. c; sends = λ h. h }

  -- the call as it is tried, if there is somebody to ask
  abbrev pub begun_over : Nodes → LockCall → Option LockCall
  begun_over members c = if is_empty n (targets members c.target) then None
      else Some (in_phase (LockPhase.Asking (begin n (targets members c.target))) c)

  -- s is the `false` of a call that had nobody to ask
  pub record AskedNobody (members : Nodes) (c : LockCall) (s : Answer) : Type 0 where
    pub nobody : is_empty n (targets members c.target) ≡ true
    pub reply : s.reply ≡ False
    pub node : s.node ≡ a
    pub number : s.number ≡ c.number

  -- what a try makes of a turn
  pub record TryTurn (c : LockCall) (u v : Turn) : Type 0 where
    pub members : v.node.replica.members ≡ u.node.replica.members
    pub ordered : is_ordered a v.node.calls ≡ true
    pub calls : (p : Process) → call_of p v.node.calls
        ≡ (if is_process c.holder p then begun_over u.node.replica.members c else call_of p u.node.calls)
    pub said : (s : Answer) → Contains v.answers s → Contains u.answers s ⊎ AskedNobody u.node.replica.members c s
    pub sends : deny_none u.sends ≡ true → deny_none v.sends ≡ true

  pub try_turn : (c : LockCall) (u : Turn) → (c.holder.node == a) ≡ true → nat_lt 0 c.holder.serial ≡ true
      → is_ordered a u.node.calls ≡ true → TryTurn c u (try_lock n a c u)
  try_turn c u here above sorted = go (is_empty n (targets u.node.replica.members c.target)) refl
    where
      asks : LockCall
      asks = in_phase (LockPhase.Asking (begin n (targets u.node.replica.members c.target))) c

      go : (b : Bool) → is_empty n (targets u.node.replica.members c.target) ≡ b
          → TryTurn c u (if b then close_call n a c false u
          else ask_lock n a c (targets u.node.replica.members c.target) u)
      go true e = record {
        members = refl;
        ordered = is_ordered-drop_call a c.holder u.node.calls sorted;
        calls = λ p. call_of-drop p c.holder u.node.calls
            ∙ ap (λ (b : Bool). if is_process c.holder p then (if b then None else Some asks)
            else call_of p u.node.calls) (sym e);
        said = λ s k. elim (Contains-push_cases u.answers _ s k) [
          | inl before ↦ inl before
          | inr i ↦ inr (record {
            nobody = e;
            reply = sym (ap (λ (x : Answer). x.reply) i);
            node = sym (ap (λ (x : Answer). x.node) i);
            number = sym (ap (λ (x : Answer). x.number) i);
          })
        ];
        sends = λ h. h;
      }
      go false e = record {
        members = refl;
        ordered = is_ordered-put_call a asks u.node.calls here above sorted;
        calls = λ p. call_of-put a p asks u.node.calls (eqb-true c.holder.node a here) sorted
            ∙ ap (λ (b : Bool). if is_process c.holder p then (if b then None else Some asks)
            else call_of p u.node.calls) (sym e);
        said = λ s k. inl k;
        sends = deny_push u.sends _ refl;
      }

  -- the deletion as it is asked for, if there is somebody to ask
  abbrev pub deleted_over : Nodes → LockCall → Option LockCall
  deleted_over members c = if is_empty n (targets members c.target) then None
      else Some (in_phase (LockPhase.Deleting (targets members c.target)) c)

  -- s is the `true` of a deletion that had nobody to ask
  pub record DeletedNothing (c : LockCall) (s : Answer) : Type 0 where
    pub reply : s.reply ≡ True
    pub node : s.node ≡ a
    pub number : s.number ≡ c.number

  -- what a deletion makes of a turn
  pub record DeleteTurn (c : LockCall) (u v : Turn) : Type 0 where
    pub calls : (p : Process) → call_of p v.node.calls
        ≡ (if is_process c.holder p then deleted_over u.node.replica.members c else call_of p u.node.calls)
    pub said : (s : Answer) → Contains v.answers s → Contains u.answers s ⊎ DeletedNothing c s
    pub sends : deny_none u.sends ≡ true → deny_none v.sends ≡ true

  pub delete_turn : (c : LockCall) (u : Turn) → c.holder.node ≡ a → is_ordered a u.node.calls ≡ true
      → DeleteTurn c u (delete_lock n a c u)
  delete_turn c u home sorted = go (is_empty n s) refl
    where
      s : Nodes
      s = targets u.node.replica.members c.target

      asks : LockCall
      asks = in_phase (LockPhase.Deleting s) c

      go : (b : Bool) → is_empty n s ≡ b
          → DeleteTurn c u (if b then close_call n a c true u else ask_back n a c s u)
      go true e = record {
        calls = λ p. call_of-drop p c.holder u.node.calls
            ∙ ap (λ (b : Bool). if is_process c.holder p then (if b then None else Some asks)
            else call_of p u.node.calls) (sym e);
        said = λ x k. elim (Contains-push_cases u.answers _ x k) [
          | inl before ↦ inl before
          | inr i ↦ inr (record {
            reply = sym (ap (λ (y : Answer). y.reply) i);
            node = sym (ap (λ (y : Answer). y.node) i);
            number = sym (ap (λ (y : Answer). y.number) i);
          })
        ];
        sends = λ h. h;
      }
      go false e = record {
        calls = λ p. call_of-put a p asks u.node.calls home sorted
            ∙ ap (λ (b : Bool). if is_process c.holder p then (if b then None else Some asks)
            else call_of p u.node.calls) (sym e);
        said = λ x k. inl k;
        sends = λ h. pass_append is_no_denial u.sends (to_each (nodes_of n s) (Letter.GiveBack c.id c.holder true)) h
            (pass_each is_no_denial (nodes_of n s) (Letter.GiveBack c.id c.holder true) refl);
      }

  -- a call behind a retry: one that waits is tried with one retry less
  abbrev pub anew_in : Nodes → LockPhase → LockCall → Option LockCall
  anew_in members LockPhase.Waiting c = begun_over members (record c { retries = one_less c.retries })
  anew_in members _ c = Some c

  abbrev pub anew : Nodes → Option LockCall → Option LockCall
  anew members None = None
  anew members (Some c) = anew_in members c.phase c

  -- s is the `false` of a call that waited, and had nobody to ask
  pub record FailedAnew (v : Node) (s : Answer) : Type 0 where
    pub call : LockCall
    pub found : call_of call.holder v.calls ≡ Some call
    pub waited : call.phase ≡ LockPhase.Waiting
    pub asked : AskedNobody v.replica.members call s

  -- what is kept while calls are tried again
  record Going (v : Node) (u : Turn) : Type 0 where
    members : u.node.replica.members ≡ v.replica.members
    ordered : is_ordered a u.node.calls ≡ true
    said : (s : Answer) → Contains u.answers s → FailedAnew v s
    sends : deny_none u.sends ≡ true

  record OneDone (v : Node) (c : LockCall) (u w : Turn) : Type 0 where
    going : Going v w
    calls : (p : Process) → call_of p w.node.calls
        ≡ (if is_process c.holder p then anew_in v.replica.members c.phase c else call_of p u.node.calls)

  one_call : (v : Node) (c : LockCall) (u : Turn) → (c.holder.node == a) ≡ true → nat_lt 0 c.holder.serial ≡ true
      → call_of c.holder v.calls ≡ Some c → call_of c.holder u.node.calls ≡ Some c → Going v u
      → OneDone v c u (retry_in n a c.phase c u)
  one_call v c u here above open_before open_now G = go c.phase refl
    where
      less : LockCall
      less = record c { retries = one_less c.retries }

      stays : (p : Process) (b : Bool) → is_process c.holder p ≡ b
          → call_of p u.node.calls ≡ (if b then Some c else call_of p u.node.calls)
      stays p true e = subst (λ (q : Process). call_of q u.node.calls ≡ Some c) (is_process_same c.holder p e) open_now
      stays p false e = refl

      go : (x : LockPhase) → c.phase ≡ x → OneDone v c u (retry_in n a x c u)
      go LockPhase.Waiting e = record {
        going = record {
          members = T.members ∙ G.members;
          ordered = T.ordered;
          said = λ s k. elim (T.said s k) [
            | inl before ↦ G.said s before
            | inr A ↦ record {
              call = c;
              found = open_before;
              waited = e;
              asked = record {
                nobody = ap (λ (m : Nodes). is_empty n (targets m c.target)) (sym G.members) ∙ A.nobody;
                reply = A.reply;
                node = A.node;
                number = A.number;
              };
            }
          ];
          sends = T.sends G.sends;
        };
        calls = λ p. T.calls p
            ∙ ap (λ (m : Nodes). if is_process c.holder p then begun_over m less else call_of p u.node.calls) G.members
            ∙ ap (λ (x : LockPhase). if is_process c.holder p then anew_in v.replica.members x c
            else call_of p u.node.calls) (sym e);
      }
        where
          T : TryTurn less u (try_lock n a less u)
          T = try_turn less u here above G.ordered
      go (LockPhase.Asking r) e = record {
        going = G;
        calls = λ p. stays p (is_process c.holder p) refl ∙ ap (λ (x : LockPhase). if is_process c.holder p then anew_in
            v.replica.members x c else call_of p u.node.calls) (sym e);
      }
      go (LockPhase.Deleting owing) e = record {
        going = G;
        calls = λ p. stays p (is_process c.holder p) refl ∙ ap (λ (x : LockPhase). if is_process c.holder p then anew_in
            v.replica.members x c else call_of p u.node.calls) (sym e);
      }

  -- the call of a process, where that of these is tried again
  abbrev behind : Nodes → Option LockCall → Option LockCall → Option LockCall
  behind members None now = now
  behind members (Some c) now = anew_in members c.phase c

  absent : (p : Process) (cs : List LockCall) → AllAfter p.serial cs → call_of p cs ≡ None
  absent p [] h = refl
  absent p (d ∷ cs) h = rw (is_process_swap p d.holder (is_process-less p d.holder h.0)) (absent p cs h.1)

  record AllDone (v : Node) (cs : List LockCall) (u w : Turn) : Type 0 where
    going : Going v w
    calls : (p : Process) → call_of p w.node.calls
        ≡ behind v.replica.members (call_of p cs) (call_of p u.node.calls)

  -- the calls behind the first are open still
  still_open : (v : Node) (c : LockCall) (cs : List LockCall) (u w : Turn) → is_ordered a (c ∷ cs) ≡ true → Going v u
      → OneDone v c u w → AllOpen u.node.calls cs → AllOpen w.node.calls cs
  still_open v c cs u w sorted G D now =
      let parts : OrderedParts a c cs = ordered_parts a c cs sorted in
      all_open-only a c.holder cs u.node.calls w.node.calls G.ordered only
      (all_after a c.holder.serial cs parts.2 parts.3) now
    where
      only : Only a c.holder u.node.calls w.node.calls
      only h = (
        D.going.ordered,
        λ p ne. D.calls p ∙ ap (λ (b : Bool). if b then anew_in v.replica.members c.phase c
            else call_of p u.node.calls) ne,
      )

  -- the first is done, and then the others
  joined : (v : Node) (c : LockCall) (cs : List LockCall) (u w x : Turn) → is_ordered a (c ∷ cs) ≡ true
      → OneDone v c u w → AllDone v cs w x → AllDone v (c ∷ cs) u x
  joined v c cs u w x sorted D R = record {
    going = R.going;
    calls = λ p. R.calls p ∙ by p (is_process c.holder p) refl;
  }
    where
      after : AllAfter c.holder.serial cs
      after = all_after a c.holder.serial cs (ordered_parts a c cs sorted).2 (ordered_parts a c cs sorted).3

      by : (p : Process) (b : Bool) → is_process c.holder p ≡ b
          → behind v.replica.members (call_of p cs) (call_of p w.node.calls)
          ≡ behind v.replica.members (if b then Some c else call_of p cs) (call_of p u.node.calls)
      by p true e =
          ap (λ (k : Option LockCall). behind v.replica.members k (call_of p w.node.calls))
          (absent p cs (subst (λ (q : Process). AllAfter q.serial cs) (is_process_same c.holder p e) after))
          ∙ D.calls p ∙ ap (λ (b : Bool). if b then anew_in v.replica.members c.phase c else call_of p u.node.calls) e
      by p false e = ap (behind v.replica.members (call_of p cs))
          (D.calls p ∙ ap (λ (b : Bool). if b then anew_in v.replica.members c.phase c else call_of p u.node.calls) e)

  each_call : (v : Node) (cs : List LockCall) (u : Turn) → is_ordered a cs ≡ true → AllOpen v.calls cs
      → AllOpen u.node.calls cs → Going v u → AllDone v cs u (fold (λ x c. retry_in n a c.phase c x) u cs)
  each_call v [] u sorted before now G = record { going = G; calls = λ p. refl }
  each_call v (c ∷ cs) u sorted before now G =
      let parts : OrderedParts a c cs = ordered_parts a c cs sorted in
      let D : OneDone v c u (retry_in n a c.phase c u) = one_call v c u parts.0 parts.1 before.0 now.0 G in
      joined v c cs u (retry_in n a c.phase c u) (fold (λ x d. retry_in n a d.phase d x) (retry_in n a c.phase c u) cs)
      sorted D
      (each_call v cs (retry_in n a c.phase c u) parts.3 before.1
      (still_open v c cs u (retry_in n a c.phase c u) sorted G D now.1) D.going)

  -- what a retry makes of a node's calls
  pub record Retried (v : Node) (u : Turn) : Type 0 where
    pub calls : (p : Process) → call_of p u.node.calls ≡ anew v.replica.members (call_of p v.calls)
    pub said : (s : Answer) → Contains u.answers s → is_verdict s.reply ≡ true → FailedAnew v s
    pub sends : deny_none u.sends ≡ true

  pub retried : (v : Node) → is_ordered a v.calls ≡ true
      → Retried v (start n a (retry_locks n a (retry_global n a v.current (begun v))))
  retried v sorted = record {
    calls = λ p. ap (call_of p) Q.calls ∙ (all v.current).calls p
        ∙ ap (λ (cs : List LockCall). behind v.replica.members (call_of p v.calls) (call_of p cs)) (same v.current)
        ∙ itself (call_of p v.calls);
    said = λ s c h. (all v.current).going.said s (Q.said s c h);
    sends = Q.sends (all v.current).going.sends;
  }
    where
      Q : Quietly (retry_locks n a (retry_global n a v.current (begun v)))
          (start n a (retry_locks n a (retry_global n a v.current (begun v))))
      Q = start_quiet (retry_locks n a (retry_global n a v.current (begun v)))

      nothing : (s : Answer) → Contains [] s → FailedAnew v s
      nothing s (k, l, e) = absurd (omega arith)

      all : (c : Current) → AllDone v v.calls (retry_global n a c (begun v))
          (retry_locks n a (retry_global n a c (begun v)))
      all (Current.Waiting op) = each_call v v.calls (retry_global n a (Current.Waiting op) (begun v)) sorted
          (all_open a v.calls sorted) (all_open a v.calls sorted)
          (record { members = refl; ordered = sorted; said = nothing; sends = refl })
      all Current.Free = each_call v v.calls (begun v) sorted (all_open a v.calls sorted) (all_open a v.calls sorted)
          (record { members = refl; ordered = sorted; said = nothing; sends = refl })
      all (Current.Asking op r) = each_call v v.calls (begun v) sorted (all_open a v.calls sorted)
          (all_open a v.calls sorted) (record { members = refl; ordered = sorted; said = nothing; sends = refl })
      all (Current.Writing op asked awaited reply) = each_call v v.calls (begun v) sorted (all_open a v.calls sorted)
          (all_open a v.calls sorted) (record { members = refl; ordered = sorted; said = nothing; sends = refl })
      all (Current.Joining k m) = each_call v v.calls (begun v) sorted (all_open a v.calls sorted)
          (all_open a v.calls sorted) (record { members = refl; ordered = sorted; said = nothing; sends = refl })

      same : (c : Current) → (retry_global n a c (begun v)).node.calls ≡ v.calls
      same (Current.Waiting op) = refl
      same _ = refl

      itself : (k : Option LockCall) → behind v.replica.members k k ≡ anew v.replica.members k
      itself None = refl
      itself (Some c) = refl
