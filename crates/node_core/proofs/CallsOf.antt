-- The call of a process, as it stands in the node: it ends, waits for a retry, and is tried again.
use Rattle.std.proofs.Common.{ℕ, Bool, true, false, ◌==◌, ◌≡◌, ◌<◌, Option, Some, List, [], ◌∷◌, length, refl, sym, ap, ◌∙◌, subst}
use Rattle.std.specs.Prelude.{not, if◌then◌else◌, All, ◌-◌}
use Rattle.registry_model.specs.Process.{Process, is_process}
use Rattle.registry_model.specs.Call.{True, False}
use Rattle.protocol_model.specs.Event.{is_waiting_call}
use Rattle.protocol_model.specs.Letter.{Letter as AnyLetter}
use Rattle.protocol_model.specs.Node.{LockPhase, LockCall as AnyCall, Retries as AnyRetries, call_of, put_call, drop_call, targets}
use Rattle.protocol_model.specs.Round.{begin, greatest}
use Rattle.protocol_model.specs.Turn.{keep_call, reply_with, become}
use Rattle.protocol_model.specs.Client.{in_phase, close_call, refuse_lock, is_spent, one_less, retry_in, try_lock}
use Rattle.term.specs.NodeSets.{set_of}
use Rattle.lock_table.specs.Ids.{id_of}
use Rattle.locker.specs.RoundState.{RoundState, seen}
use Rattle.transaction.specs.Calls.{target_of, retries_of}
use Rattle.transaction.specs.declared.nodes.Retries.{Retries}
use Rattle.transaction.specs.declared.nodes.Retries.TheVariants.{Times, Endless}
use Rattle.lock_calls.specs.declared.call.CallPhase.{CallPhase}
use Rattle.lock_calls.specs.declared.call.CallPhase.TheVariants.{Asking, Waiting, Deleting}
use Rattle.lock_calls.specs.declared.call.LockCall.{LockCall}
use Rattle.lock_calls.specs.Calls.{phase_of, as_call}
use Rattle.lock_calls.specs.LockCallsState.{LockCallsState, seen as calls_seen}
use Rattle.lock_calls.specs.Standing.{stands_by, asks_again}
use Rattle.node_events.specs.declared.events.Letter.{Letter}
use Rattle.node_events.specs.Letters.{letter_of}
use Rattle.node_events.specs.Made.{Made, sent}
use Rattle.node_core.specs.CoreState.{CoreState, bound_of, IsWithin, IsCallWithin, IsWhole}
use Rattle.node_core.specs.Locking.{retry_of}
use Rattle.node_core.specs.Seen.{turn_of}
use Rattle.node_core.specs.Steps.{Makes}
use Rattle.node_core.proofs.Whole.{whole_with}
use Rattle.node_core.proofs.Locking.{All-put_call, made_as, keeps, asks_lock, tries_none, tries_some}
use Rattle.node_core.proofs.CallEnds.{same_found, found_is, stood}
use Rattle.std.proofs.lemmas.List.Elements.{All-same}

-- a call that was taken out is dropped once
pub drop_twice : (p : Process) (xs : List AnyCall) → drop_call p (drop_call p xs) ≡ drop_call p xs
drop_twice p [] = refl
drop_twice p (c ∷ xs) = go (is_process c.holder p) refl (drop_twice p xs)
  where
    go : (b : Bool) → is_process c.holder p ≡ b → drop_call p (drop_call p xs) ≡ drop_call p xs
        → drop_call p (if not b then c ∷ drop_call p xs else drop_call p xs)
        ≡ (if not b then c ∷ drop_call p xs else drop_call p xs)
    go true e same = same
    go false e same = ap (λ (b : Bool). if not b then c ∷ drop_call p (drop_call p xs) else drop_call p (drop_call p xs)) e
        ∙ ap (λ (ys : List AnyCall). c ∷ ys) same

-- the call of a process, which was taken out, has ended
pub closes_of : (h0 h k : CoreState) (t u : Made) (c : LockCall) (p : Process) (granted : Bool) (d : AnyCall) (l : LockCallsState)
    → h0 ≡ h → calls_seen l ≡ drop_call p (calls_seen h0.calls) → Some (as_call c) ≡ call_of p (calls_seen h0.calls)
    → call_of p (calls_seen h.calls) ≡ Some d
    → Makes (λ n a. close_call n a (as_call c) granted) (record h0 { calls = l }) t k u
    → Makes (λ n a. close_call n a d granted) h t k u
closes_of h0 h k t u c p granted d l same taken was found M =
    let is : as_call c ≡ d = some_same (same_found h0 h p (as_call c) same was ∙ found) in
    let own : p ≡ c.holder = found_is p (calls_seen h0.calls) (as_call c) was in
    subst (λ (x : CoreState). Makes (λ n a. close_call n a d granted) x t k u) same
    (subst (λ (x : AnyCall). Makes (λ n a. close_call n a x granted) h0 t k u) is (record {
      name = M.name;
      world = M.world;
      turn = M.turn ∙ ap (λ (xs : List AnyCall). reply_with h0.name c.number (if granted then True else False)
          (become (record (turn_of h0 t).node { calls = xs }) (turn_of h0 t)))
          (ap (drop_call c.holder) (taken ∙ ap (λ (q : Process). drop_call q (calls_seen h0.calls)) own)
          ∙ drop_twice c.holder (calls_seen h0.calls));
    }))
  where
    some_same : ◌≡◌ {A = Option AnyCall} (Some (as_call c)) (Some d) → as_call c ≡ d
    some_same e = cc

-- the call that is found is the one that was found
pub found_once : (p : Process) (xs : List AnyCall) (c d : AnyCall) → Some c ≡ call_of p xs → call_of p xs ≡ Some d
    → c ≡ d
found_once p xs c d was found = let e : ◌≡◌ {A = Option AnyCall} (Some c) (Some d) = was ∙ found in cc

-- a refused call whose retries are spent ends
pub refuses_spent : (h k : CoreState) (t u : Made) (c d : AnyCall) → c ≡ d → is_spent c.retries ≡ true
    → Makes (λ n a. close_call n a d false) h t k u → Makes (λ n a. refuse_lock n a d) h t k u
refuses_spent h k t u c d same spent M = made_as M (
    ap (λ (b : Bool). if b
    then close_call (bound_of h.world) h.name d false (turn_of h t)
    else keep_call (in_phase LockPhase.Waiting d) (turn_of h t)) (sym (ap (λ (x : AnyCall). is_spent x.retries) (sym same) ∙ spent)))

-- another waits for a retry
pub refuses_waiting : (h0 h : CoreState) (t : Made) (c : LockCall) (p : Process) (d : AnyCall) (k : LockCallsState) → h0 ≡ h
    → Some (as_call c) ≡ call_of p (calls_seen h.calls) → as_call c ≡ d → is_spent (as_call c).retries ≡ false
    → calls_seen k ≡ stands_by (λ _. LockPhase.Waiting) (call_of p (calls_seen h0.calls)) (calls_seen h0.calls)
    → Makes (λ n a. refuse_lock n a d) h t (record h0 { calls = k }) t
refuses_waiting h0 h t c p d k same found is left stands =
    subst (λ (x : AnyCall). Makes (λ n a. refuse_lock n a x) h t (record h0 { calls = k }) t) is
    (made_as (keeps h0 h t k (in_phase LockPhase.Waiting (as_call c)) same
    (stood h0 h c p k (λ _. LockPhase.Waiting) same found stands))
    (ap (λ (b : Bool). if b
    then close_call (bound_of h.world) h.name (as_call c) false (turn_of h t)
    else keep_call (in_phase LockPhase.Waiting (as_call c)) (turn_of h t)) (sym left)))

-- one retry less
abbrev less_of : Retries → Retries
less_of (Times k) = Times (k - 1)
less_of Endless = Endless

less_is : (r : Retries) → retries_of (less_of r) ≡ one_less (retries_of r)
less_is (Times k) = refl
less_is Endless = refl

-- a phase that waits
pub waiting_is : (x : CallPhase) → is_waiting_call (phase_of x) ≡ true → x ≡ Waiting
waiting_is Waiting e = refl
waiting_is (Asking r) e = cc
waiting_is (Deleting owing) e = cc

-- the call that waits is tried again; nodes: whom it asks then; b: that is nobody
module _ (h : CoreState) (t : Made) (c : LockCall) (p : Process) (nodes : List ℕ) (b : Bool)
    (within : IsWithin h.world nodes) (found : Some (as_call c) ≡ call_of p (calls_seen h.calls))
    (waits : c.phase ≡ Waiting)
    (asked : (d : ℕ) → set_of nodes d ≡ targets (set_of h.members) (target_of c.nodes) d)
    (is : b ≡ (length nodes == 0)) where
  abbrev again : LockCall
  again = record c { retries = less_of c.retries }

  -- a try of it is its retry
  tried : (k : CoreState) (u : Made) → Makes (λ n a. try_lock n a (as_call again)) h t k u
      → Makes (λ n a w. retry_of n a (call_of p w.node.calls) w) h t k u
  tried k u M = made_as M (
      ap (λ (r : AnyRetries). try_lock (bound_of h.world) h.name (record (as_call c) { retries = r }) (turn_of h t))
      (less_is c.retries)
      ∙ ap (λ (x : CallPhase). retry_in (bound_of h.world) h.name (phase_of x) (as_call c) (turn_of h t)) (sym waits)
      ∙ ap (λ (o : Option AnyCall). retry_of (bound_of h.world) h.name o (turn_of h t)) found)

  pub retries_none : (k : CoreState) (u : Made) → b ≡ true → Makes (λ n a. close_call n a (as_call c) false) h t k u
      → Makes (λ n a w. retry_of n a (call_of p w.node.calls) w) h t k u
  retries_none k u none M = tried k u (tries_none h t again nodes b within asked is k u none M)

  pub retries_some : (h0 : CoreState) (u : Made) (k : LockCallsState) (boss : ℕ) (l : Letter) (r : RoundState) → h0 ≡ h
      → b ≡ false → ((n : ℕ) → All (λ d. d < n) nodes → boss ≡ greatest n (set_of nodes))
      → letter_of l ≡ AnyLetter.SetLock (id_of c.id) c.holder
      → ((n : ℕ) → All (λ d. d < n) nodes → seen r ≡ begin n (set_of nodes)) → u ≡ sent boss l t
      → calls_seen k ≡ asks_again (seen r) (call_of p (calls_seen h0.calls)) (calls_seen h0.calls)
      → Makes (λ n a w. retry_of n a (call_of p w.node.calls) w) h t (record h0 { calls = k }) u
  retries_some h0 u k boss l r same some is_boss says begun made stands =
      tried (record h0 { calls = k }) u (tries_some h t again nodes b within asked is (record h0 { calls = k }) u some
      (asks_lock h0 h t u again k boss l r nodes same within is_boss says begun made
      (stands ∙ ap (λ (o : Option AnyCall). asks_again (seen r) o (calls_seen h0.calls))
      (sym (same_found h h0 p (as_call c) (sym same) found))
      ∙ ap (λ (x : AnyRetries). put_call (record (as_call c) { retries = x; phase = LockPhase.Asking (seen r) })
      (calls_seen h0.calls)) (sym (less_is c.retries)))))

-- the node is whole where a call of it asks by a round of nodes that have started
pub whole_again : (h0 h : CoreState) (c : LockCall) (p : Process) (k : LockCallsState) (r : RoundState) → h0 ≡ h
    → Some (as_call c) ≡ call_of p (calls_seen h.calls)
    → calls_seen k ≡ asks_again (seen r) (call_of p (calls_seen h0.calls)) (calls_seen h0.calls)
    → k.node ≡ h0.calls.node → IsCallWithin h0.world (LockPhase.Asking (seen r)) → IsWhole h0
    → IsWhole (record h0 { calls = k })
whole_again h0 h c p k r same found stands node within whole =
    whole_with h0 k whole node (All-same (λ d. IsCallWithin h0.world d.phase) (calls_seen k) (put_call now (calls_seen h0.calls))
    (stands ∙ ap (λ (o : Option AnyCall). asks_again (seen r) o (calls_seen h0.calls))
    (sym (same_found h h0 p (as_call c) (sym same) found)))
    (All-put_call (λ d. IsCallWithin h0.world d.phase) now (calls_seen h0.calls) within whole.called))
  where
    now : AnyCall
    now = record (as_call c) { retries = one_less (as_call c).retries; phase = LockPhase.Asking (seen r) }
