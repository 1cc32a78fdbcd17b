-- The lock calls of a node one after another: each stands until its turn comes, where a turn changes its own alone.
use mathlib.Core.List.{map-map}
use Rattle.std.proofs.Common.{ℕ, suc, Bool, true, false, ◌==◌, ◌≡◌, ◌<◌, Option, Some, None, List, [], ◌∷◌, refl, sym, ap, subst, ◌∙◌, arith}
use Rattle.std.specs.Prelude.{nat_lt, map, fold, if◌then◌else◌}
use Rattle.std.proofs.Math.Path.{fun_ext}
use Rattle.std.proofs.lemmas.Bool.{eq-eqb, lt-ltb}
use Rattle.std.proofs.lemmas.List.Elements.{All-head, All-tail}
use Rattle.registry_model.specs.Process.{Process, Nodes, without_node}
use Rattle.protocol_model.specs.Node.{LockPhase, LockCall, call_of, put_call, drop_call, targets}
use Rattle.protocol_model.specs.Round.{Round, begin, is_empty, down, asked, is_over, Ending, ending}
use Rattle.protocol_model.specs.Turn.{Turn, keep_call}
use Rattle.protocol_model.specs.Client.{in_phase, is_spent, one_less, close_call, ask_lock, give_lock, end_lock_by, retry_in, retry_locks, lose_node_in, lose_node}
use Rattle.moves.proofs.Rules.{is_after, is_ordered}
use Rattle.walk.proofs.Calls.{Only, AllOpen, OrderedParts, ordered_parts, ordered_of, all_after, all_open, all_open-only, only_none, only_then, only_drop, only_put}
use Rattle.lock_calls.specs.Calls.{as_call}
use Rattle.lock_calls.specs.LockCallsState.{AreOrdered, seen}
use Rattle.node_events.specs.Made.{Made}
use Rattle.node_core.specs.CoreState.{CoreState, IsWhole, bound_of}
use Rattle.node_core.specs.Locking.{retry_of, loss_of}
use Rattle.node_core.specs.Seen.{turn_of}
use Rattle.node_core.specs.Steps.{Makes}

-- ordered calls, as the walk over them has it
is_ordered-of : (a : ℕ) (cs : List LockCall) → AreOrdered a cs → is_ordered a cs ≡ true
is_ordered-of a [] h = refl
is_ordered-of a (c ∷ cs) h =
    ordered_of a c cs (eq-eqb c.holder.node a (All-head (λ d. d.holder.node ≡ a) c cs h.own))
    (lt-ltb 0 c.holder.serial (All-head (λ d. 0 < d.holder.serial) c cs h.live)) (after cs h)
    (is_ordered-of a cs (record {
      own = All-tail (λ d. d.holder.node ≡ a) c cs h.own;
      live = All-tail (λ d. 0 < d.holder.serial) c cs h.live;
      rising = λ i j d l m. h.rising (suc i) (suc j) d (omega arith) (omega arith);
    }))
  where
    after : (ds : List LockCall) → AreOrdered a (c ∷ ds) → is_after c.holder.serial ds ≡ true
    after [] k = refl
    after (d ∷ ds) k = lt-ltb c.holder.serial d.holder.serial (k.rising 0 1 c (omega arith) (omega arith))

-- the turn of the call that is found, if one is
abbrev turn_of_found : (LockCall → Turn → Turn) → Option LockCall → Turn → Turn
turn_of_found f None u = u
turn_of_found f (Some c) u = f c u

-- f is a turn of one call, which changes that call alone
module _ (a : ℕ) (f : LockCall → Turn → Turn)
    (alone : (c : LockCall) (u : Turn) → (c.holder.node == a) ≡ true → nat_lt 0 c.holder.serial ≡ true
    → Only a c.holder u.node.calls (f c u).node.calls) where
  -- whoever looks each holder's call up when its turn comes finds the call as it stood at first
  by_holders : (cs : List LockCall) (u : Turn) → is_ordered a cs ≡ true → is_ordered a u.node.calls ≡ true
      → AllOpen u.node.calls cs
      → fold (λ turn p. turn_of_found f (call_of p turn.node.calls) turn) u (map (λ c. c.holder) cs)
      ≡ fold (λ turn c. f c turn) u cs
  by_holders [] u o s k = refl
  by_holders (c ∷ cs) u o s k =
      let parts : OrderedParts a c cs = ordered_parts a c cs o in
      let only : Only a c.holder u.node.calls (f c u).node.calls = alone c u parts.0 parts.1 in
      ap (λ (o : Option LockCall). fold (λ turn p. turn_of_found f (call_of p turn.node.calls) turn)
      (turn_of_found f o u) (map (λ d. d.holder) cs)) k.0
      ∙ by_holders cs (f c u) parts.3 (only s).0
      (all_open-only a c.holder cs u.node.calls (f c u).node.calls s only
      (all_after a c.holder.serial cs parts.2 parts.3) k.1)

-- a retry changes its own call alone
retried_alone : (n a : ℕ) (c : LockCall) (u : Turn) → (c.holder.node == a) ≡ true → nat_lt 0 c.holder.serial ≡ true
    → Only a c.holder u.node.calls (retry_in n a c.phase c u).node.calls
retried_alone n a c u own live = go c.phase
  where
    again : LockCall
    again = record c { retries = one_less c.retries }

    asked : Nodes
    asked = targets u.node.replica.members c.target

    tried : (b : Bool) → Only a c.holder u.node.calls
        (if b then close_call n a again false u else ask_lock n a again asked u).node.calls
    tried true = only_drop a c.holder u.node.calls
    tried false = only_put a (in_phase (LockPhase.Asking (begin n asked)) again) u.node.calls own live

    go : (phase : LockPhase) → Only a c.holder u.node.calls (retry_in n a phase c u).node.calls
    go LockPhase.Waiting = tried (is_empty n asked)
    go (LockPhase.Asking r) = only_none a c.holder u.node.calls
    go (LockPhase.Deleting s) = only_none a c.holder u.node.calls

-- a call that is told of a departure changes alone
lost_alone : (d n a : ℕ) (c : LockCall) (u : Turn) → (c.holder.node == a) ≡ true → nat_lt 0 c.holder.serial ≡ true
    → Only a c.holder u.node.calls (lose_node_in n a d c.phase c u).node.calls
lost_alone d n a c u own live = go c.phase
  where
    -- it was put before it is dropped
    put_first : (p : LockPhase) → Only a c.holder u.node.calls (put_call (in_phase p c) u.node.calls)
        → Only a c.holder u.node.calls (drop_call c.holder (put_call (in_phase p c) u.node.calls))
    put_first p only = only_then a c.holder u.node.calls (put_call (in_phase p c) u.node.calls)
        (drop_call c.holder (put_call (in_phase p c) u.node.calls)) only
        (only_drop a c.holder (put_call (in_phase p c) u.node.calls))

    put_now : (p : LockPhase) → Only a c.holder u.node.calls (put_call (in_phase p c) u.node.calls)
    put_now p = only_put a (in_phase p c) u.node.calls own live

    now : Round → LockCall
    now r = in_phase (LockPhase.Asking r) c

    refused : (r : Round) (granted : Nodes) (b : Bool) → Only a c.holder u.node.calls (if b
        then close_call n a (now r) false (give_lock n a (now r) granted (keep_call (now r) u))
        else keep_call (in_phase LockPhase.Waiting (now r)) (give_lock n a (now r) granted (keep_call (now r)
        u))).node.calls
    refused r granted true = put_first (LockPhase.Asking r) (put_now (LockPhase.Asking r))
    refused r granted false = only_then a c.holder u.node.calls (put_call (now r) u.node.calls)
        (put_call (in_phase LockPhase.Waiting (now r)) (put_call (now r) u.node.calls)) (put_now (LockPhase.Asking r))
        (only_put a (in_phase LockPhase.Waiting (now r)) (put_call (now r) u.node.calls) own live)

    ended : (r : Round) (b : Bool) (e : Ending) → Only a c.holder u.node.calls
        (if b then end_lock_by n a e (now r) (keep_call (now r) u) else keep_call (now r) u).node.calls
    ended r false e = put_now (LockPhase.Asking r)
    ended r true Ending.Held = put_first (LockPhase.Asking r) (put_now (LockPhase.Asking r))
    ended r true (Ending.GiveBack granted) = refused r granted (is_spent c.retries)

    owed : (b e : Bool) (less : Nodes) → Only a c.holder u.node.calls (if b
        then (if e then close_call n a c true u else keep_call (in_phase (LockPhase.Deleting less) c) u)
        else u).node.calls
    owed true true less = only_drop a c.holder u.node.calls
    owed true false less = put_now (LockPhase.Deleting less)
    owed false e less = only_none a c.holder u.node.calls

    go : (phase : LockPhase) → Only a c.holder u.node.calls (lose_node_in n a d phase c u).node.calls
    go (LockPhase.Asking r) = ended (down d r) (is_over n (down d r)) (ending n (asked (down d r)) (down d r))
    go LockPhase.Waiting = only_none a c.holder u.node.calls
    go (LockPhase.Deleting s) = owed (s d) (is_empty n (without_node d s)) (without_node d s)

-- the rule of one call's turn, where the call is found
abbrev pub Rule : Type 0
Rule = ℕ → ℕ → Option LockCall → Turn → Turn

-- the calls of these processes have their turns, as each stands when its turn comes
abbrev pub each_of : Rule → List Process → ℕ → ℕ → Turn → Turn
each_of rule ps n a u = fold (λ turn p. rule n a (call_of p turn.node.calls) turn) u ps

-- the rule is a turn of the one call that is found, which changes it alone
module _ (rule : Rule) (one : ℕ → ℕ → LockCall → Turn → Turn)
    (is : (n a : ℕ) (o : Option LockCall) (w : Turn) → rule n a o w ≡ turn_of_found (one n a) o w)
    (alone : (n a : ℕ) (c : LockCall) (u : Turn) → (c.holder.node == a) ≡ true → nat_lt 0 c.holder.serial ≡ true
    → Only a c.holder u.node.calls (one n a c u).node.calls) where
  -- the calls of all holders have their turns
  turns_all : (h0 h k : CoreState) (t u : Made) (ps : List Process) → h0 ≡ h → IsWhole h0
      → AreOrdered h0.calls.node (seen h0.calls) → ps ≡ map (λ c. c.holder) h0.calls.calls
      → Makes (each_of rule ps) h t k u
      → Makes (λ n a w. fold (λ x c. one n a c x) w w.node.calls) h t k u
  turns_all h0 h k t u ps same whole ordered are =
      subst (λ (x : CoreState). Makes (each_of rule ps) x t k u
      → Makes (λ n a w. fold (λ y c. one n a c y) w w.node.calls) x t k u) same (λ M. record {
        name = M.name;
        world = M.world;
        turn = M.turn
            ∙ ap (λ (f : Turn → Process → Turn). fold f (turn_of h0 t) ps)
            (fun_ext (λ w. fun_ext (λ p. is n h0.name (call_of p w.node.calls) w)))
            ∙ ap (λ (qs : List Process). fold (λ w p. turn_of_found (one n h0.name) (call_of p w.node.calls) w)
            (turn_of h0 t) qs) (are ∙ sym (map-map (λ c. c.holder) as_call h0.calls.calls))
            ∙ by_holders h0.name (one n h0.name) (alone n h0.name) cs (turn_of h0 t) in_order in_order
            (all_open h0.name cs in_order);
      })
    where
      n : ℕ
      n = bound_of h0.world

      cs : List LockCall
      cs = seen h0.calls

      in_order : is_ordered h0.name cs ≡ true
      in_order = is_ordered-of h0.name cs (subst (λ (a : ℕ). AreOrdered a cs) whole.calls ordered)

-- the calls of all holders are retried
pub retries_all : (h0 h k : CoreState) (t u : Made) (ps : List Process) → h0 ≡ h → IsWhole h0
    → AreOrdered h0.calls.node (seen h0.calls) → ps ≡ map (λ c. c.holder) h0.calls.calls
    → Makes (each_of retry_of ps) h t k u → Makes retry_locks h t k u
retries_all = turns_all retry_of (λ n a c. retry_in n a c.phase c) found retried_alone
  where
    found : (n a : ℕ) (o : Option LockCall) (w : Turn)
        → retry_of n a o w ≡ turn_of_found (λ c. retry_in n a c.phase c) o w
    found n a None w = refl
    found n a (Some c) w = refl

-- the rule of a call that is told that d has gone down
abbrev pub loss : ℕ → Rule
loss d n a = loss_of n a d

-- the calls of all holders are told
pub losses_all : (d : ℕ) (h0 h k : CoreState) (t u : Made) (ps : List Process) → h0 ≡ h → IsWhole h0
    → AreOrdered h0.calls.node (seen h0.calls) → ps ≡ map (λ c. c.holder) h0.calls.calls
    → Makes (each_of (loss d) ps) h t k u → Makes (λ n a. lose_node n a d) h t k u
losses_all d = turns_all (loss d) (λ n a c. lose_node_in n a d c.phase c) found (lost_alone d)
  where
    found : (n a : ℕ) (o : Option LockCall) (w : Turn)
        → loss d n a o w ≡ turn_of_found (λ c. lose_node_in n a d c.phase c) o w
    found n a None w = refl
    found n a (Some c) w = refl
