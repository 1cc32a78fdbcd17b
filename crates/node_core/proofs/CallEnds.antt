-- How clients' lock calls go on and end: behind an answer, behind a node that gave a lock up, behind a departure.
use Rattle.std.proofs.Common.{ℕ, Bool, true, false, ◌==◌, ◌≡◌, ◌<◌, Option, Some, List, [], ◌∷◌, length, refl, sym, ap, ◌∙◌, subst, inl, inr}
use Rattle.std.specs.Prelude.{not, nat_lt, ◌&&◌, if◌then◌else◌, All}
use Rattle.std.proofs.lemmas.Bool.{eqb-true, ne_eqb, eq-eqb, cases_eq}
use Rattle.std.proofs.lemmas.List.Elements.{All-head, All-tail, All-same}
use Rattle.std.proofs.Math.Bool.{and-false}
use Rattle.registry_model.specs.Process.{Process, is_process, Nodes, without_node as without}
use Rattle.registry_model.specs.Call.{True}
use Rattle.protocol_model.specs.Letter.{Letter as AnyLetter}
use Rattle.protocol_model.specs.Node.{LockPhase, LockCall as AnyCall, call_of, put_call, drop_call}
use Rattle.protocol_model.specs.Round.{Round, is_empty, is_over, owes, answer, down, asked as asked_by, ending, Ending as AnyEnding, Held as IsHeld, GiveBack as GiveBackTo}
use Rattle.protocol_model.specs.Turn.{Turn, keep_call, reply_with, become}
use Rattle.protocol_model.specs.Registrar.{ask_rest}
use Rattle.protocol_model.specs.Client.{in_phase, close_call, give_lock, refuse_lock, end_lock_by, go_on_lock, hear_lock, hear_lock_in, lose_node_in, owe_less, owe_less_in}
use Rattle.walk.proofs.Calls.{is_process-same, is_process-true, call_of-holder}
use Rattle.term.specs.NodeSets.{set_of}
use Rattle.locker.specs.declared.ending.Ending.{Ending}
use Rattle.locker.specs.declared.ending.Ending.TheVariants.{Held as Holds, GiveBack}
use Rattle.locker.specs.RoundState.{RoundState, seen}
use Rattle.locker.specs.Ends.{EndsAs}
use Rattle.lock_calls.specs.declared.call.CallPhase.{CallPhase}
use Rattle.lock_calls.specs.declared.call.CallPhase.TheVariants.{Asking, Waiting, Deleting}
use Rattle.lock_calls.specs.declared.call.LockCall.{LockCall}
use Rattle.lock_calls.specs.Calls.{phase_of, as_call}
use Rattle.lock_calls.specs.LockCallsState.{LockCallsState, seen as calls_seen}
use Rattle.lock_calls.specs.Standing.{stands_by, answered, lost, given_up}
use Rattle.node_events.specs.Made.{Made}
use Rattle.node_core.specs.CoreState.{CoreState, bound_of, IsWithin, IsCallWithin, IsWhole}
use Rattle.node_core.specs.Locking.{end_of, end_in, loss_of, deleted_of, deleted_in}
use Rattle.node_core.specs.Seen.{turn_of}
use Rattle.node_core.specs.Steps.{Makes}
use Rattle.node_core.proofs.Bounds.{all_below}
use Rattle.node_core.proofs.Receivers.{answered_of, down_of}
use Rattle.node_core.proofs.Rules.{followed}
use Rattle.node_core.proofs.Rounds.{held_end, failed_end}
use Rattle.node_core.proofs.Whole.{whole_with}
use Rattle.node_core.proofs.Locking.{All-put_call, made_as, keeps, none_left}

-- a call that was put is found
found_put : (c : AnyCall) (xs : List AnyCall) → call_of c.holder (put_call c xs) ≡ Some c
found_put c [] = rw (is_process-same c.holder) refl
found_put c (d ∷ xs) =
    go (nat_lt c.holder.serial d.holder.serial) (c.holder.serial == d.holder.serial) refl (found_put c xs)
  where
    first : (ys : List AnyCall) → call_of c.holder (c ∷ ys) ≡ Some c
    first ys = rw (is_process-same c.holder) refl

    turned : (c.holder.serial == d.holder.serial) ≡ false → (d.holder.serial == c.holder.serial) ≡ false
    turned other = elim (cases_eq d.holder.serial c.holder.serial) [
      | inl e ↦ absurd (cc (eq-eqb c.holder.serial d.holder.serial (sym e), other))
      | inr ne ↦ ne_eqb d.holder.serial c.holder.serial ne
    ]

    another : (c.holder.serial == d.holder.serial) ≡ false → is_process d.holder c.holder ≡ false
    another other = ap (λ (b : Bool). (d.holder.node == c.holder.node) && b) (turned other)
        ∙ and-false (d.holder.node == c.holder.node)

    go : (t e : Bool) → (c.holder.serial == d.holder.serial) ≡ e → call_of c.holder (put_call c xs) ≡ Some c
        → call_of c.holder (if t then c ∷ d ∷ xs else (if e then c ∷ xs else d ∷ put_call c xs)) ≡ Some c
    go true e is r = first (d ∷ xs)
    go false true is r = first xs
    go false false is r = rw (another is) r

-- the call of a process that is found in one node is found in the same node
pub same_found : (h0 h : CoreState) (p : Process) (c : AnyCall) → h0 ≡ h → Some c ≡ call_of p (calls_seen h0.calls)
    → Some c ≡ call_of p (calls_seen h.calls)
same_found h0 h p c same found = found ∙ ap (λ (x : CoreState). call_of p (calls_seen x.calls)) same

-- the call that is found is of the process
pub found_is : (p : Process) (xs : List AnyCall) (c : AnyCall) → Some c ≡ call_of p xs → p ≡ c.holder
found_is p xs c found = sym (is_process-true c.holder p (call_of-holder p xs c (sym found)))

-- its round is over, or it isn't
module _ (h : CoreState) (t : Made) (c : LockCall) (p : Process) (r : RoundState) (over : Bool)
    (found : Some (as_call c) ≡ call_of p (calls_seen h.calls)) (asking : c.phase ≡ Asking r)
    (within : IsWithin h.world r.nodes)
    (ends : (n : ℕ) → All (λ d. d < n) r.nodes → over ≡ is_over n (seen r)) where
  abbrev n0 : ℕ
  n0 = bound_of h.world

  abbrev turn0 : Turn
  turn0 = turn_of h t

  below : All (λ d. d < n0) r.nodes
  below = all_below h.world r.nodes within

  -- what comes of it
  abbrev ends_now : Bool → Turn
  ends_now b = if b then end_lock_by n0 h.name (ending n0 (asked_by (seen r)) (seen r)) (as_call c) turn0 else turn0

  by_rule : ends_now over ≡ end_of n0 h.name (call_of p (calls_seen h.calls)) turn0
  by_rule = ap ends_now (ends n0 below)
      ∙ ap (λ (x : CallPhase). end_in n0 h.name (phase_of x) (as_call c) turn0) (sym asking)
      ∙ ap (λ (o : Option AnyCall). end_of n0 h.name o turn0) found

  -- it goes on
  pub goes_on : over ≡ false → Makes (λ n a u. end_of n a (call_of p u.node.calls) u) h t h t
  goes_on going = record { name = refl; world = refl; turn = ap ends_now (sym going) ∙ by_rule }

  -- it ends so
  ends_by : (x : AnyEnding) → over ≡ true → ending n0 (asked_by (seen r)) (seen r) ≡ x
      → end_lock_by n0 h.name x (as_call c) turn0 ≡ end_of n0 h.name (call_of p (calls_seen h.calls)) turn0
  ends_by x is f =
      ap (λ (y : AnyEnding). end_lock_by n0 h.name y (as_call c) turn0) (sym f) ∙ ap ends_now (sym is) ∙ by_rule

  module _ (e : Ending) (xs : List ℕ) (all_asked : xs ≡ r.nodes) (are_asked : set_of xs ≡ asked_by (seen r))
      (is_end : (n : ℕ) → All (λ d. d < n) r.nodes → All (λ d. d < n) xs
      → EndsAs e (ending n (set_of xs) (seen r))) where
    end_here : EndsAs e (ending n0 (asked_by (seen r)) (seen r))
    end_here = subst (λ (s : Nodes). EndsAs e (ending n0 s (seen r))) are_asked
        (is_end n0 below (subst (λ (ys : List ℕ). All (λ d. d < n0) ys) (sym all_asked) below))

    -- the lock is held
    pub ends_held : (k : CoreState) (u : Made) → over ≡ true → e ≡ Holds
        → Makes (λ n a. close_call n a (as_call c) true) h t k u
        → Makes (λ n a w. end_of n a (call_of p w.node.calls) w) h t k u
    ends_held k u is held M = made_as M (ends_by IsHeld is
        (held_end _ (subst (λ (x : Ending). EndsAs x (ending n0 (asked_by (seen r)) (seen r))) held end_here)))

    -- it is refused, and these get their grants back
    pub ends_failed : (k : CoreState) (u v : Made) (ys : List ℕ) → over ≡ true → e ≡ GiveBack ys
        → Makes (λ n a. give_lock n a (as_call c) (set_of ys)) h t h u
        → Makes (λ n a. refuse_lock n a (as_call c)) h u k v
        → Makes (λ n a w. end_of n a (call_of p w.node.calls) w) h t k v
    ends_failed k u v ys is failed G R = made_as (followed G R) (ends_by (GiveBackTo (set_of ys)) is
        (failed_end ys _ (subst (λ (x : Ending). EndsAs x (ending n0 (asked_by (seen r)) (seen r))) failed end_here)))

-- the call is put with its round as it stands now, and may be over
pub goes_on_lock : (h0 h k2 : CoreState) (t u : Made) (c : AnyCall) (p : Process) (r : Round) (k : LockCallsState) → h0 ≡ h
    → p ≡ c.holder → calls_seen k ≡ put_call (in_phase (LockPhase.Asking r) c) (calls_seen h0.calls)
    → Makes (λ n a w. end_of n a (call_of p w.node.calls) w) (record h0 { calls = k }) t k2 u
    → Makes (λ n a. go_on_lock n a c r) h t k2 u
goes_on_lock h0 h k2 t u c p r k same is put E =
    let now : AnyCall = in_phase (LockPhase.Asking r) c in
    let kept : Turn = keep_call now (turn_of h t) in
    made_as (followed (keeps h0 h t k now same put) E)
    (ap (λ (q : Process). end_of (bound_of h.world) h.name (call_of q kept.node.calls) kept) is
    ∙ ap (λ (o : Option AnyCall). end_of (bound_of h.world) h.name o kept) (found_put now (calls_seen h.calls)))

-- A call of a process stands elsewhere. c: as it stood
module _ (h0 h : CoreState) (c : LockCall) (p : Process) (k : LockCallsState) (next : LockPhase → LockPhase) (same : h0 ≡ h)
    (found : Some (as_call c) ≡ call_of p (calls_seen h.calls))
    (stands : calls_seen k ≡ stands_by next (call_of p (calls_seen h0.calls)) (calls_seen h0.calls)) where
  abbrev now : AnyCall
  now = in_phase (next (as_call c).phase) (as_call c)

  -- it is put so
  pub stood : calls_seen k ≡ put_call now (calls_seen h0.calls)
  stood = stands ∙ ap (λ (o : Option AnyCall). stands_by next o (calls_seen h0.calls))
      (sym (same_found h h0 p (as_call c) (sym same) found))

  -- and the node is whole, where the nodes of the call have started
  pub whole_stood : IsWhole h0 → k.node ≡ h0.calls.node → IsCallWithin h0.world now.phase
      → IsWhole (record h0 { calls = k })
  whole_stood whole node within =
      whole_with h0 k whole node (All-same (λ d. IsCallWithin h0.world d.phase) (calls_seen k)
      (put_call now (calls_seen h0.calls)) stood
      (All-put_call (λ d. IsCallWithin h0.world d.phase) now (calls_seen h0.calls) within whole.called))

-- the nodes of a round that f answered have started
pub answer_within : (h0 h : CoreState) (c : LockCall) (r : RoundState) (f : ℕ) (granted : Bool) → h0 ≡ h
    → c.phase ≡ Asking r → owes (seen r) f ≡ true → IsCallWithin h.world (phase_of c.phase)
    → IsCallWithin h0.world (answered f granted (as_call c).phase)
answer_within h0 h c r f granted same asking owed within =
    subst (λ (x : CallPhase). IsCallWithin h0.world (answered f granted (phase_of x))) (sym asking)
    (λ d e. subst (λ (x : CoreState). IsCallWithin x.world (phase_of (Asking r))) (sym same)
    (subst (λ (x : CallPhase). IsCallWithin h.world (phase_of x)) asking within) d
    (answered_of (seen r) f granted owed d e))

-- the nodes of a round that lost f are
pub lost_within : (h0 h : CoreState) (c : LockCall) (r : RoundState) (f : ℕ) → h0 ≡ h → c.phase ≡ Asking r
    → IsCallWithin h.world (phase_of c.phase) → IsCallWithin h0.world (lost f (as_call c).phase)
lost_within h0 h c r f same asking within =
    subst (λ (x : CallPhase). IsCallWithin h0.world (lost f (phase_of x))) (sym asking)
    (λ d e. subst (λ (x : CoreState). IsCallWithin x.world (phase_of (Asking r))) (sym same)
    (subst (λ (x : CallPhase). IsCallWithin h.world (phase_of x)) asking within) d (down_of (seen r) f d e))

-- the nodes of a deletion that f gave up are, too
pub give_up_within : (h0 h : CoreState) (c : LockCall) (owing : List ℕ) (f : ℕ) → h0 ≡ h
    → c.phase ≡ Deleting owing → IsCallWithin h.world (phase_of c.phase)
    → IsCallWithin h0.world (given_up f (as_call c).phase)
give_up_within h0 h c owing f same deleting within =
    subst (λ (x : CallPhase). IsCallWithin h0.world (given_up f (phase_of x))) (sym deleting)
    (λ d e. subst (λ (x : CoreState). IsCallWithin x.world (phase_of (Deleting owing))) (sym same)
    (subst (λ (x : CallPhase). IsCallWithin h.world (phase_of x)) deleting within) d
    (owing_still (d == f) (set_of owing d) e))
  where
    owing_still : (b s : Bool) → (if b then false else s) ≡ true → s ≡ true
    owing_still true s e = absurd (cc e)
    owing_still false s e = e

-- a node answers the round of the call: letter: what the rest are asked
pub hears_lock : (h0 h k2 : CoreState) (t t1 u : Made) (c : LockCall) (p : Process) (r : RoundState) (f : ℕ)
    (granted : Bool) (letter : AnyLetter) (k : LockCallsState) → h0 ≡ h → p ≡ c.holder
    → Some (as_call c) ≡ call_of p (calls_seen h.calls) → c.phase ≡ Asking r → owes (seen r) f ≡ true
    → letter ≡ AnyLetter.SetLock (as_call c).id c.holder
    → Makes (λ n a. ask_rest n a f granted letter (seen r)) h t h t1
    → calls_seen k ≡ stands_by (answered f granted) (call_of p (calls_seen h0.calls)) (calls_seen h0.calls)
    → Makes (λ n a w. end_of n a (call_of p w.node.calls) w) (record h0 { calls = k }) t1 k2 u
    → Makes (λ n a w. hear_lock n a f granted (call_of p w.node.calls) w) h t k2 u
hears_lock h0 h k2 t t1 u c p r f granted letter k same is found asking owed said A stands E =
    made_as (followed A (goes_on_lock h0 h k2 t1 u (as_call c) p (answer f granted (seen r)) k same is put E))
    (ap (λ (l : AnyLetter). go_on_lock n a (as_call c) (answer f granted (seen r))
    (ask_rest n a f granted l (seen r) (turn_of h t))) said
    ∙ ap (λ (b : Bool). if b
    then go_on_lock n a (as_call c) (answer f granted (seen r))
    (ask_rest n a f granted (AnyLetter.SetLock (as_call c).id c.holder) (seen r) (turn_of h t))
    else turn_of h t) (sym owed)
    ∙ ap (λ (x : CallPhase). hear_lock_in n a f granted (phase_of x) (as_call c) (turn_of h t)) (sym asking)
    ∙ ap (λ (o : Option AnyCall). hear_lock n a f granted o (turn_of h t)) found)
  where
    n : ℕ
    n = bound_of h.world

    a : ℕ
    a = h.name

    put : calls_seen k ≡ put_call (in_phase (LockPhase.Asking (answer f granted (seen r))) (as_call c))
        (calls_seen h0.calls)
    put = stood h0 h c p k (answered f granted) same found stands
        ∙ ap (λ (x : CallPhase). put_call (in_phase (answered f granted (phase_of x)) (as_call c)) (calls_seen h0.calls))
        asking

-- a deletion that waits for nobody is answered; b: it waits for nobody
module _ (h : CoreState) (t : Made) (c : LockCall) (p : Process) (owing : List ℕ) (b : Bool)
    (found : Some (as_call c) ≡ call_of p (calls_seen h.calls)) (deleting : c.phase ≡ Deleting owing)
    (is : b ≡ (length owing == 0)) (within : IsCallWithin h.world (phase_of c.phase)) where
  -- what comes of it
  abbrev deletes_now : Bool → Turn
  deletes_now e = if e then close_call (bound_of h.world) h.name (as_call c) true (turn_of h t) else turn_of h t

  deletes_by : deletes_now b ≡ deleted_of (bound_of h.world) h.name (call_of p (calls_seen h.calls)) (turn_of h t)
  deletes_by =
      ap deletes_now (is ∙ none_left h.world owing
      (subst (λ (x : CallPhase). IsCallWithin h.world (phase_of x)) deleting within))
      ∙ ap (λ (x : CallPhase). deleted_in (bound_of h.world) h.name (phase_of x) (as_call c) (turn_of h t))
      (sym deleting)
      ∙ ap (λ (o : Option AnyCall). deleted_of (bound_of h.world) h.name o (turn_of h t)) found

  pub deletion_goes_on : b ≡ false → Makes (λ n a u. deleted_of n a (call_of p u.node.calls) u) h t h t
  deletion_goes_on some = record { name = refl; world = refl; turn = ap deletes_now (sym some) ∙ deletes_by }

  pub deletion_ends : (k : CoreState) (u : Made) → b ≡ true → Makes (λ n a. close_call n a (as_call c) true) h t k u
      → Makes (λ n a w. deleted_of n a (call_of p w.node.calls) w) h t k u
  deletion_ends k u none M = made_as M (ap deletes_now (sym none) ∙ deletes_by)

-- a call that was put is dropped
drop_put : (a : ℕ) (c : AnyCall) (xs : List AnyCall) → c.holder.node ≡ a → All (λ d. d.holder.node ≡ a) xs
    → drop_call c.holder (put_call c xs) ≡ drop_call c.holder xs
drop_put a c [] own all = ap (λ (b : Bool). if not b then c ∷ [] else []) (is_process-same c.holder)
drop_put a c (d ∷ xs) own all =
    go (nat_lt c.holder.serial d.holder.serial) (c.holder.serial == d.holder.serial) refl
    (drop_put a c xs own (All-tail (λ e. e.holder.node ≡ a) d xs all))
  where
    p : Process
    p = c.holder

    first : (ys : List AnyCall) → drop_call p (c ∷ ys) ≡ drop_call p ys
    first ys = ap (λ (b : Bool). if not b then c ∷ drop_call p ys else drop_call p ys) (is_process-same p)

    same : (p.serial == d.holder.serial) ≡ true → is_process d.holder p ≡ true
    same e = ap (λ (q : Process). is_process d.holder q) (
        ap (λ (m : ℕ). record p { node = m }) (own ∙ sym (All-head (λ x. x.holder.node ≡ a) d xs all))
        ∙ ap (λ (m : ℕ). record d.holder { serial = m }) (eqb-true p.serial d.holder.serial e))
        ∙ is_process-same d.holder

    go : (t e : Bool) → (p.serial == d.holder.serial) ≡ e → drop_call p (put_call c xs) ≡ drop_call p xs
        → drop_call p (if t then c ∷ d ∷ xs else (if e then c ∷ xs else d ∷ put_call c xs)) ≡ drop_call p (d ∷ xs)
    go true e is r = first (d ∷ xs)
    go false true is r = first xs
        ∙ sym (ap (λ (b : Bool). if not b then d ∷ drop_call p xs else drop_call p xs) (same is))
    go false false is r = ap (λ (ys : List AnyCall). if not (is_process d.holder p) then d ∷ ys else ys) r

-- f gives the lock of a deletion up
pub owes_less : (h0 h k2 : CoreState) (t u : Made) (c : LockCall) (p : Process) (f a : ℕ) (owing : List ℕ) (k : LockCallsState)
    → h0 ≡ h → p ≡ c.holder → Some (as_call c) ≡ call_of p (calls_seen h.calls) → c.phase ≡ Deleting owing
    → set_of owing f ≡ true → c.holder.node ≡ a → All (λ d. d.holder.node ≡ a) (calls_seen h.calls)
    → calls_seen k ≡ stands_by (given_up f) (call_of p (calls_seen h0.calls)) (calls_seen h0.calls)
    → Makes (λ n a w. deleted_of n a (call_of p w.node.calls) w) (record h0 { calls = k }) t k2 u
    → Makes (λ n a w. owe_less n a f (call_of p w.node.calls) w) h t k2 u
owes_less h0 h k2 t u c p f a owing k same is found deleting owed own all stands D =
    made_as (followed (keeps h0 h t k now same put) D)
    (ap (λ (q : Process). deleted_of n h.name (call_of q kept.node.calls) kept) is
    ∙ ap (λ (o : Option AnyCall). deleted_of n h.name o kept) (found_put now (calls_seen h.calls))
    ∙ ap (λ (cs : List AnyCall). if is_empty n (without f (set_of owing))
    then reply_with h.name c.number True (become (record before.node { calls = cs }) before)
    else kept) (drop_put a now (calls_seen h.calls) own all)
    ∙ ap (λ (b : Bool). if b
    then (if is_empty n (without f (set_of owing)) then close_call n h.name (as_call c) true before else kept)
    else before) (sym owed)
    ∙ ap (λ (x : CallPhase). owe_less_in n h.name f (phase_of x) (as_call c) before) (sym deleting)
    ∙ ap (λ (o : Option AnyCall). owe_less n h.name f o before) found)
  where
    n : ℕ
    n = bound_of h.world

    before : Turn
    before = turn_of h t

    now : AnyCall
    now = in_phase (LockPhase.Deleting (without f (set_of owing))) (as_call c)

    kept : Turn
    kept = keep_call now before

    put : calls_seen k ≡ put_call now (calls_seen h0.calls)
    put = stood h0 h c p k (given_up f) same found stands
        ∙ ap (λ (x : CallPhase). put_call (in_phase (given_up f (phase_of x)) (as_call c)) (calls_seen h0.calls)) deleting

-- the round of the call is told that f has gone down
pub loses_lock : (h0 h k2 : CoreState) (t u : Made) (c : LockCall) (p : Process) (r : RoundState) (f : ℕ) (k : LockCallsState)
    → h0 ≡ h → p ≡ c.holder → Some (as_call c) ≡ call_of p (calls_seen h.calls) → c.phase ≡ Asking r
    → calls_seen k ≡ stands_by (lost f) (call_of p (calls_seen h0.calls)) (calls_seen h0.calls)
    → Makes (λ n a w. end_of n a (call_of p w.node.calls) w) (record h0 { calls = k }) t k2 u
    → Makes (λ n a w. loss_of n a f (call_of p w.node.calls) w) h t k2 u
loses_lock h0 h k2 t u c p r f k same is found asking stands E =
    made_as (goes_on_lock h0 h k2 t u (as_call c) p (down f (seen r)) k same is put E)
    (ap (λ (x : CallPhase). lose_node_in (bound_of h.world) h.name f (phase_of x) (as_call c) (turn_of h t)) (sym asking)
    ∙ ap (λ (o : Option AnyCall). loss_of (bound_of h.world) h.name f o (turn_of h t)) found)
  where
    put : calls_seen k ≡ put_call (in_phase (LockPhase.Asking (down f (seen r))) (as_call c)) (calls_seen h0.calls)
    put = stood h0 h c p k (lost f) same found stands
        ∙ ap (λ (x : CallPhase). put_call (in_phase (lost f (phase_of x)) (as_call c)) (calls_seen h0.calls)) asking

-- a call that isn't asking is told as its deletion is
pub loses_other : (h k : CoreState) (t u : Made) (c : LockCall) (p : Process) (f : ℕ)
    → Some (as_call c) ≡ call_of p (calls_seen h.calls) → ((r : RoundState) → c.phase ≡ Asking r → ⊥)
    → Makes (λ n a w. owe_less n a f (call_of p w.node.calls) w) h t k u
    → Makes (λ n a w. loss_of n a f (call_of p w.node.calls) w) h t k u
loses_other h k t u c p f found other M = made_as M (
    ap (λ (o : Option AnyCall). owe_less (bound_of h.world) h.name f o (turn_of h t)) (sym found)
    ∙ go c.phase refl ∙ ap (λ (o : Option AnyCall). loss_of (bound_of h.world) h.name f o (turn_of h t)) found)
  where
    go : (x : CallPhase) → c.phase ≡ x
        → owe_less_in (bound_of h.world) h.name f (phase_of x) (as_call c) (turn_of h t)
        ≡ lose_node_in (bound_of h.world) h.name f (phase_of x) (as_call c) (turn_of h t)
    go (Asking r) e = absurd (other r e)
    go Waiting e = refl
    go (Deleting owing) e = refl
