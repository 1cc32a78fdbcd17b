-- The open lock calls of each node and their answers, behind every list of events.
use Rattle.std.proofs.Common.{ℕ, Bool, true, false, ◌==◌, ◌≡◌, ◌+◌, Option, Some, None, List, [], ◌∷◌, ◌++◌, length, refl, sym, ap, ◌∙◌, subst, arith, inl, inr}
use Rattle.std.specs.Prelude.{◌&&◌, nat_lt, if◌then◌else◌, fold}
use Rattle.std.specs.List.{list_all, slice_get}
use Rattle.std.proofs.lemmas.List.{append-nil, append_assoc}
use Rattle.std.proofs.lemmas.Bool.{eq-eqb, eqb-true}
use Rattle.registry_model.specs.Call.{Reply, True, False, ContactLeft}
use Rattle.protocol_model.specs.Letter.{Letter}
use Rattle.protocol_model.specs.Round.{begin, is_empty}
use Rattle.protocol_model.specs.Watch.{owed}
use Rattle.protocol_model.specs.Node.{Node, Op, Current, LockPhase, LockCall, Times, call_of, put_call, drop_call, targets}
use Rattle.protocol_model.specs.Event.{Call, Event, Answer}
use Rattle.protocol_model.specs.Turn.{Turn, begun, with_queue}
use Rattle.protocol_model.specs.Registrar.{start, start_free, start_next, start_queue, contact_left, ask_join, retry_global}
use Rattle.protocol_model.specs.Client.{in_phase, one_less, close_call, ask_lock, try_lock, retry_in, retry_locks, new_call}
use Rattle.protocol_model.specs.Fit.{is_numbered, calls_in}
use Rattle.protocol_model.specs.Answers.{answer_to, may_have, holder_in, calls_at}
use Rattle.protocol_model.specs.World.{Opening, World, WorldEvent, At, Deliver, place, turn_of, accepted}
use Rattle.protocol_model.specs.Course.{Played, played, answers_of}
use Rattle.moves.proofs.Rules
use Rattle.moves.proofs.Rules.{Rule, is_ordered}
use Rattle.registry_model.proofs.Updates.{at_same}
use Rattle.moves.proofs.Indices.{both}
use Rattle.walk.proofs.Calls.{Only, only_none, only_drop, only_put, AllOpen, all_open, all_open-only, all_after, OrderedParts, ordered_parts}
use Rattle.walk.proofs.ChainKinds.{Aside, Hearing, suits}
use Rattle.walk.proofs.Orders.{effect-node}
use Rattle.walk.proofs.Walk.{OrderedWalk, InOrder}
use Rattle.fitting.proofs.Accounts.{is_word}
use Rattle.client_locks.proofs.Numbering.{aside_hears, beginner_home}
use Rattle.headline.proofs.Together.{Whole, rule_whole}
use Rattle.headline.proofs.LockAnswers.{is_for, is_try, true_fits, false_fits, try_for, IsCalled, Ledger, IsSingle, ledger_wider, ledger_aside, ledger_put, ledger_closed, single_open, single_new, aside_none, aside_word, slice_get-behind}
use Rattle.headline.proofs.LockSteps.{chain_ledger}

-- rules of no lock call are such as a delivery may make
all_hear : (rs : List Rule) → list_all (suits Aside) rs ≡ true → list_all (suits Hearing) rs ≡ true
all_hear [] e = refl
all_hear (r ∷ rs) e =
    let parts : (suits Aside r ≡ true) × (list_all (suits Aside) rs ≡ true) =
    both (suits Aside r) (list_all (suits Aside) rs) e in
    rw (aside_hears r parts.0, all_hear rs parts.1) refl

-- a retry
module _ (o : Opening) (a : ℕ) (calls : List Call) (xs : List Answer) where
  -- the calls and the answers behind a turn
  abbrev Behind : Turn → Type 0
  Behind u = Ledger a calls u.node.calls (xs ++ u.answers)

  -- an open try is tried again
  tries : (c : LockCall) (u : Turn) → c.holder.node ≡ a → is_ordered a u.node.calls ≡ true
      → (d : LockCall) → call_of c.holder u.node.calls ≡ Some d → d.number ≡ c.number → is_try d.phase ≡ true
      → Behind u → Behind (try_lock o.bound a c u)
  tries c u home sorted d e same t L = go (is_empty o.bound (targets u.node.replica.members c.target))
    where
      single : IsSingle a u.node.calls (xs ++ u.answers) c.holder c.number
      single = subst (IsSingle a u.node.calls (xs ++ u.answers) c.holder) same
          (single_open a calls u.node.calls (xs ++ u.answers) c.holder d L e)

      I : IsCalled calls c.holder c.number d.phase
      I = subst (λ (k : ℕ). IsCalled calls c.holder k d.phase) same (L.called c.holder d e)

      go : (b : Bool) → Behind (if b then close_call o.bound a c false u
          else ask_lock o.bound a c (targets u.node.replica.members c.target) u)
      go true = subst (Ledger a calls (drop_call c.holder u.node.calls))
          (append_assoc xs u.answers (answer_to a c.number False ∷ []))
          (ledger_closed a calls u.node.calls (xs ++ u.answers) c False refl d.phase single I
          (false_fits I.call d.phase I.suits t) L)
      go false = ledger_put a calls u.node.calls (xs ++ u.answers)
          (in_phase (LockPhase.Asking (begin o.bound (targets u.node.replica.members c.target))) c) home sorted single
          (record {
            call = I.call;
            found = I.found;
            positive = I.positive;
            holder = I.holder;
            suits = try_for I.call d.phase (LockPhase.Asking _) I.suits t refl;
          }) L

  -- and the others stay
  only_tried : (c : LockCall) (u : Turn) → (c.holder.node == a) ≡ true → nat_lt 0 c.holder.serial ≡ true
      → Only a c.holder u.node.calls (try_lock o.bound a c u).node.calls
  only_tried c u home client = go (is_empty o.bound (targets u.node.replica.members c.target))
    where
      go : (b : Bool) → Only a c.holder u.node.calls (if b then close_call o.bound a c false u
          else ask_lock o.bound a c (targets u.node.replica.members c.target) u).node.calls
      go true = only_drop a c.holder u.node.calls
      go false = only_put a
          (in_phase (LockPhase.Asking (begin o.bound (targets u.node.replica.members c.target))) c) u.node.calls home
          client

  -- one call of a retry
  one_retry : (c : LockCall) (u : Turn) → (c.holder.node == a) ≡ true → nat_lt 0 c.holder.serial ≡ true
      → is_ordered a u.node.calls ≡ true → call_of c.holder u.node.calls ≡ Some c → Behind u
      → Behind (retry_in o.bound a c.phase c u) × Only a c.holder u.node.calls
      (retry_in o.bound a c.phase c u).node.calls
  one_retry c u home client sorted e L = go c.phase refl
    where
      go : (x : LockPhase) → c.phase ≡ x
          → Behind (retry_in o.bound a x c u) × Only a c.holder u.node.calls (retry_in o.bound a x c u).node.calls
      go LockPhase.Waiting p = (
        tries (record c { retries = one_less c.retries }) u (eqb-true c.holder.node a home) sorted c e refl
            (ap is_try p) L,
        only_tried (record c { retries = one_less c.retries }) u home client,
      )
      go (LockPhase.Asking r) p = (L, only_none a c.holder u.node.calls)
      go (LockPhase.Deleting owing) p = (L, only_none a c.holder u.node.calls)

  -- all refused calls are tried again
  retries : (cs : List LockCall) (u : Turn) → is_ordered a cs ≡ true → is_ordered a u.node.calls ≡ true
      → AllOpen u.node.calls cs → Behind u → Behind (fold (λ v c. retry_in o.bound a c.phase c v) u cs)
  retries [] u q sorted open_calls L = L
  retries (c ∷ cs) u q sorted open_calls L =
      retries cs (retry_in o.bound a c.phase c u) parts.3 (on.1 sorted).0
      (all_open-only a c.holder cs u.node.calls (retry_in o.bound a c.phase c u).node.calls sorted on.1
      (all_after a c.holder.serial cs parts.2 parts.3) open_calls.1) on.0
    where
      parts : OrderedParts a c cs
      parts = ordered_parts a c cs q

      on : Behind (retry_in o.bound a c.phase c u)
          × Only a c.holder u.node.calls (retry_in o.bound a c.phase c u).node.calls
      on = one_retry c u parts.0 parts.1 sorted open_calls.0 L

  -- the registrar begins what is next
  starts_queue : (ops : List Op) (u : Turn) → Behind u → Behind (start_queue o.bound a ops u)
  starts_queue [] u L = L
  starts_queue (Op.Join k m ∷ ops) u L = go (u.node.replica.told m)
      (starts_queue ops (contact_left o.bound a k m u)
      (subst (Ledger a calls u.node.calls) (append_assoc xs u.answers (answer_to a k ContactLeft ∷ []))
      (ledger_aside a calls u.node.calls (xs ++ u.answers) (answer_to a k ContactLeft ∷ [])
      (aside_word a k ContactLeft refl) L)))
    where
      go : (b : Bool) → Behind (start_queue o.bound a ops (contact_left o.bound a k m u))
          → Behind (if b then start_queue o.bound a ops (contact_left o.bound a k m u)
          else ask_join o.bound a k m (with_queue ops u))
      go true more = more
      go false more = L
  starts_queue (Op.Name k call ∷ ops) u L = L
  starts_queue (Op.Strike p ∷ ops) u L = L
  starts_queue (Op.Admission j pairs ∷ ops) u L = L

  -- at the end of the step
  starts : (u : Turn) → Behind u → Behind (start o.bound a u)
  starts u L = go u.node.current
    where
      next : (s : Option ℕ) → Behind (start_next o.bound a s u)
      next (Some s) = L
      next None = starts_queue u.node.queue u L

      go : (c : Current) → Behind (start_free o.bound a c u)
      go Current.Free = next (owed a u.node.replica.table u.node.watch)
      go (Current.Asking op r) = L
      go (Current.Waiting op) = L
      go (Current.Writing op asked awaited reply) = L
      go (Current.Joining k m) = L

  -- the whole step
  retried : (v : Node) → is_ordered a v.calls ≡ true → Ledger a calls v.calls xs
      → Behind (start o.bound a (retry_locks o.bound a (retry_global o.bound a v.current (begun v))))
  retried v sorted L = starts (retry_locks o.bound a (retry_global o.bound a v.current (begun v))) (go v.current)
    where
      begins : Ledger a calls v.calls (xs ++ [])
      begins = subst (Ledger a calls v.calls) (sym (append-nil xs)) L

      go : (c : Current) → Behind (retry_locks o.bound a (retry_global o.bound a c (begun v)))
      go (Current.Waiting op) =
          retries v.calls (retry_global o.bound a (Current.Waiting op) (begun v)) sorted sorted
          (all_open a v.calls sorted) begins
      go Current.Free = retries v.calls (begun v) sorted sorted (all_open a v.calls sorted) begins
      go (Current.Asking op r) = retries v.calls (begun v) sorted sorted (all_open a v.calls sorted) begins
      go (Current.Writing op asked awaited reply) =
          retries v.calls (begun v) sorted sorted (all_open a v.calls sorted) begins
      go (Current.Joining k m) = retries v.calls (begun v) sorted sorted (all_open a v.calls sorted) begins

-- a lock call takes its number and begins
module _ (o : Opening) (a : ℕ) (w : World) (calls : List Call) (xs : List Answer) (W : Whole o w)
    (L : Ledger a calls (w.node a).calls xs) (count : (w.node a).last_call ≡ length calls)
    (first : Rules.May o a w Rules.CallsLock) where
  -- the world behind the number
  abbrev v : World
  v = Rules.effect o a Rules.CallsLock w

  -- what stands there
  V : Whole o v
  V = rule_whole o a w Rules.CallsLock W first

  same_calls : (v.node a).calls ≡ (w.node a).calls
  same_calls = ap (λ (f : ℕ → Node). (f a).calls) (effect-node o a Rules.CallsLock w)
      ∙ ap (λ (n : Node). n.calls) (at_same w.node a (Rules.turn_by o a w Rules.CallsLock).node)

  -- the call that begins, in this phase
  module _ (call : Call) (c : LockCall) (number : c.number ≡ (w.node a).last_call + 1)
      (holder : holder_in call ≡ Some c.holder) where
    -- the accepted calls with it
    abbrev more : List Call
    more = calls ++ call ∷ []

    wider : Ledger a more (v.node a).calls xs
    wider = subst (λ (cs : List LockCall). Ledger a more cs xs) (sym same_calls)
        (ledger_wider a calls (call ∷ []) (w.node a).calls xs L)

    single : IsSingle a (v.node a).calls xs c.holder c.number
    single = subst (λ (cs : List LockCall). IsSingle a cs xs c.holder c.number) (sym same_calls)
        (subst (IsSingle a (w.node a).calls xs c.holder) (sym (number ∙ ap (λ (k : ℕ). k + 1) count))
        (single_new a calls (w.node a).calls xs c.holder L))

    -- it is the last of them
    abbrev is_called : (phase : LockPhase) → is_for call phase ≡ true → IsCalled more c.holder c.number phase
    is_called phase fits = record {
      call = call;
      found = subst (λ (k : ℕ). slice_get more k ≡ Some call) (omega (arith, number, count))
          (slice_get-behind calls call);
      positive = omega (arith, number);
      holder = holder;
      suits = fits;
    }

    -- what is said behind the rule that begins it
    abbrev Next : List LockCall → List Answer → Type 0
    Next cs ys = Ledger a more cs (xs ++ ys)

    -- it is open, or is answered at once
    puts : (phase : LockPhase) → is_for call phase ≡ true → c.holder.node ≡ a
        → Next (put_call (in_phase phase c) (v.node a).calls) []
    puts phase fits home = ledger_aside a more (put_call (in_phase phase c) (v.node a).calls) xs [] (aside_none a)
        (ledger_put a more (v.node a).calls xs (in_phase phase c) home (V.ordered a) single
        (is_called phase fits) wider)

    ends : (phase : LockPhase) (reply : Reply) → is_word reply ≡ false → is_for call phase ≡ true
        → may_have call reply ≡ true
        → Next (drop_call c.holder (v.node a).calls) (answer_to a c.number reply ∷ [])
    ends phase reply word fits may =
        ledger_closed a more (v.node a).calls xs c reply word phase single (is_called phase fits) may wider

    -- the rules behind the one that begins it
    on : (s : Rule) (later : List Rule) → Rules.MayAll o a (s ∷ later) v → list_all (suits Aside) later ≡ true
        → Next (Rules.turn_by o a v s).node.calls (Rules.turn_by o a v s).answers
        → Ledger a more ((Rules.effects o a (s ∷ later) v).node a).calls (xs ++ Rules.answers_by o a (s ∷ later) v)
    on s later m h N = subst (Ledger a more ((Rules.effects o a (s ∷ later) v).node a).calls)
        (append_assoc xs (Rules.turn_by o a v s).answers (Rules.answers_by o a later (Rules.effect o a s v)))
        (chain_ledger o a more later (Rules.effect o a s v) (xs ++ (Rules.turn_by o a v s).answers)
        (all_hear later h) m.1 (rule_whole o a v s V m.0)
        (subst (λ (n : Node). Next n.calls (Rules.turn_by o a v s).answers)
        (sym (ap (λ (f : ℕ → Node). f a) (effect-node o a s v) ∙ at_same v.node a (Rules.turn_by o a v s).node)) N))

    -- a try, which asks somebody or nobody
    asks : (later : List Rule) → Rules.MayAll o a (Rules.AsksLock c ∷ later) v → list_all (suits Aside) later ≡ true
        → is_for call LockPhase.Waiting ≡ true
        → Ledger a more ((Rules.effects o a (Rules.AsksLock c ∷ later) v).node a).calls
        (xs ++ Rules.answers_by o a (Rules.AsksLock c ∷ later) v)
    asks later m h f = on (Rules.AsksLock c) later m h
        (puts (LockPhase.Asking _) (try_for call LockPhase.Waiting (LockPhase.Asking _) f refl refl)
        (beginner_home o a v c V.ordered m.0.tested.0))

    fails : (later : List Rule) → Rules.MayAll o a (Rules.FailsLock c ∷ later) v → list_all (suits Aside) later ≡ true
        → is_for call LockPhase.Waiting ≡ true
        → Ledger a more ((Rules.effects o a (Rules.FailsLock c ∷ later) v).node a).calls
        (xs ++ Rules.answers_by o a (Rules.FailsLock c ∷ later) v)
    fails later m h f = on (Rules.FailsLock c) later m h
        (ends LockPhase.Waiting False refl f (false_fits call LockPhase.Waiting f refl))

    -- a deletion, which asks somebody or nobody
    deletes : (later : List Rule) → Rules.MayAll o a (Rules.DeletesLock c ∷ later) v → list_all
        (suits Aside) later ≡ true
        → is_for call (LockPhase.Deleting (targets (v.node a).replica.members c.target)) ≡ true
        → Ledger a more ((Rules.effects o a (Rules.DeletesLock c ∷ later) v).node a).calls
        (xs ++ Rules.answers_by o a (Rules.DeletesLock c ∷ later) v)
    deletes later m h f = on (Rules.DeletesLock c) later m h
        (puts (LockPhase.Deleting (targets (v.node a).replica.members c.target)) f
        (beginner_home o a v c V.ordered (inl m.0.tested.0)))

    deletes_nothing : (later : List Rule) → Rules.MayAll o a (Rules.DeletesNothing c ∷ later) v
        → list_all (suits Aside) later ≡ true
        → is_for call (LockPhase.Deleting (targets (v.node a).replica.members c.target)) ≡ true
        → Ledger a more ((Rules.effects o a (Rules.DeletesNothing c ∷ later) v).node a).calls
        (xs ++ Rules.answers_by o a (Rules.DeletesNothing c ∷ later) v)
    deletes_nothing later m h f = on (Rules.DeletesNothing c) later m h
        (ends (LockPhase.Deleting (targets (v.node a).replica.members c.target)) True refl f
        (true_fits call (LockPhase.Deleting (targets (v.node a).replica.members c.target)) f))

-- the open lock calls and the answers of the node of an accepted event, behind it
module _ (o : Opening) (w : World) (ps : List Played) (W : Whole o w) where
  -- where e happens at a, what is said behind it
  abbrev pub After : WorldEvent → Type 0
  After e = Ledger (place e) (calls_at (place e) ps ++ calls_in (place e) (played o w e)) ((accepted o w e).node
      (place e)).calls
      (answers_of ps ++ (turn_of o w e).answers)

  -- before it
  abbrev pub Before : ℕ → Type 0
  Before a = Ledger a (calls_at a ps) (w.node a).calls (answers_of ps)

  -- the chain of an event, behind which more calls are accepted
  by_chain : (e : WorldEvent) (rs : List Rule) → list_all (suits Hearing) rs ≡ true → Rules.MayAll o (place e) rs w
      → Rules.effects o (place e) rs w ≡ accepted o w e → Rules.answers_by o (place e) rs w ≡ (turn_of o w e).answers
      → Before (place e) → After e
  by_chain e rs h m world answers L =
      subst (λ (x : World). Ledger (place e) (calls_at (place e) ps ++ calls_in (place e) (played o w e))
      (x.node (place e)).calls (answers_of ps ++ (turn_of o w e).answers)) world
      (subst (λ (ss : List Answer). Ledger (place e) (calls_at (place e) ps ++ calls_in (place e) (played o w e))
      ((Rules.effects o (place e) rs w).node (place e)).calls (answers_of ps ++ ss)) answers
      (chain_ledger o (place e) (calls_at (place e) ps ++ calls_in (place e) (played o w e)) rs w (answers_of ps) h m W
      (ledger_wider (place e) (calls_at (place e) ps) (calls_in (place e) (played o w e)) (w.node (place e)).calls
      (answers_of ps) L)))

  -- a `Down` is read first
  pub letter_hears : (f t : ℕ) (ls : List Letter) (rest : List Rule) → list_all (suits Hearing) rest ≡ true
      → list_all (suits Hearing) (Rules.first_by_letter o t f ls ++ rest) ≡ true
  letter_hears f t [] rest h = h
  letter_hears f t (Letter.Down ∷ ls) rest h = h
  letter_hears f t (_ ∷ ls) rest h = h

  -- a lock call, whose own two rules came first
  by_call : (a : ℕ) (call : Call) (rs : List Rule) → is_numbered call ≡ true
      → Rules.effects o a (Rules.CallsLock ∷ rs) w ≡ accepted o w (At a (Event.Calling call))
      → Rules.answers_by o a (Rules.CallsLock ∷ rs) w ≡ (turn_of o w (At a (Event.Calling call))).answers
      → Ledger a (calls_at a ps ++ call ∷ []) ((Rules.effects o a rs (Rules.effect o a Rules.CallsLock w)).node a).calls
      (answers_of ps ++ Rules.answers_by o a rs (Rules.effect o a Rules.CallsLock w))
      → After (At a (Event.Calling call))
  by_call a call rs numbered world answers L =
      subst (λ (cs : List Call). Ledger a (calls_at a ps ++ cs) ((accepted o w (At a
      (Event.Calling call))).node a).calls
      (answers_of ps ++ (turn_of o w (At a (Event.Calling call))).answers))
      (sym (ap (λ (b : Bool). if b && is_numbered call then call ∷ [] else []) (eq-eqb a a refl)
      ∙ ap (λ (b : Bool). if b then call ∷ [] else []) numbered))
      (subst (λ (x : World). Ledger a (calls_at a ps ++ call ∷ []) (x.node a).calls
      (answers_of ps ++ (turn_of o w (At a (Event.Calling call))).answers)) world
      (subst (λ (ss : List Answer). Ledger a (calls_at a ps ++ call ∷ [])
      ((Rules.effects o a rs (Rules.effect o a Rules.CallsLock w)).node a).calls (answers_of ps ++ ss)) answers L))

  -- each accepted event
  pub event_ledger : (e : WorldEvent) → OrderedWalk o w e → (w.node (place e)).last_call ≡ length (calls_at
      (place e) ps)
      → Before (place e) → After e
  event_ledger (Deliver f t) H count L = by_chain (Deliver f t) _
      (letter_hears f t (w.links.queue f t) H.walk.rest H.in_order) H.walk.may H.walk.world H.walk.answers L
  event_ledger (At a (Event.Exiting p)) H count L = by_chain (At a (Event.Exiting p)) (Rules.Exits p ∷ H.walk.rest)
      (all_hear H.walk.rest H.in_order) H.walk.may H.walk.world H.walk.answers L
  event_ledger (At a Event.Leave) H count L = by_chain (At a Event.Leave) (Rules.Leaves ∷ H.walk.rest)
      (all_hear H.walk.rest H.in_order) H.walk.may H.walk.world H.walk.answers L
  event_ledger (At a Event.Retry) H count L =
      subst (λ (n : Node). Ledger a (calls_at a ps ++ []) n.calls (answers_of ps ++ (turn_of o w
      (At a Event.Retry)).answers))
      (sym (at_same w.node a (turn_of o w (At a Event.Retry)).node))
      (retried o a (calls_at a ps ++ []) (answers_of ps) (w.node a) (W.ordered a)
      (ledger_wider a (calls_at a ps) [] (w.node a).calls (answers_of ps) L))
  event_ledger (At a (Event.Calling Call.Spawn)) H count L = by_chain (At a (Event.Calling Call.Spawn))
      (Rules.Spawns ∷ H.walk.rest) (all_hear H.walk.rest H.in_order) H.walk.may H.walk.world H.walk.answers L
  event_ledger (At a (Event.Calling (Call.LookUp look))) H count L = by_chain (At a (Event.Calling (Call.LookUp look)))
      (Rules.LooksUp look ∷ H.walk.rest) (all_hear H.walk.rest H.in_order) H.walk.may H.walk.world H.walk.answers L
  event_ledger (At a (Event.Calling (Call.OnName c))) H count L = by_chain (At a (Event.Calling (Call.OnName c)))
      (Rules.CallsName c ∷ H.walk.rest) (all_hear H.walk.rest H.in_order) H.walk.may H.walk.world H.walk.answers L
  event_ledger (At a (Event.Calling (Call.JoinBy m))) H count L = by_chain (At a (Event.Calling (Call.JoinBy m)))
      (Rules.CallsJoin m ∷ H.walk.rest) (all_hear H.walk.rest H.in_order) H.walk.may H.walk.world H.walk.answers L
  event_ledger (At a (Event.Calling (Call.SetLock p r q target times))) H count L =
      by_call a call H.walk.rest refl H.walk.world H.walk.answers
      (subst Goal (sym h.1.1.0) (elim h.1.1.1 [
        | inl e ↦ subst (λ (s : Rule). Goal (s ∷ h.1.0)) (sym e)
            (λ m. asks o a w (calls_at a ps) (answers_of ps) W L count m.0 call new refl refl h.1.0 m.1 h.1.1.2 refl)
        | inr e ↦ subst (λ (s : Rule). Goal (s ∷ h.1.0)) (sym e)
            (λ m. fails o a w (calls_at a ps) (answers_of ps) W L count m.0 call new refl refl h.1.0 m.1 h.1.1.2 refl)
      ]) H.walk.may)
    where
      call : Call
      call = Call.SetLock p r q target times

      new : LockCall
      new = new_call o.bound a ((w.node a).last_call + 1) p r q target times

      h : InOrder o w (At a (Event.Calling call)) H.walk.rest
      h = H.in_order

      Goal : List Rule → Type 0
      Goal rs = Rules.MayAll o a (Rules.CallsLock ∷ rs) w
          → Ledger a (calls_at a ps ++ call ∷ []) ((Rules.effects o a rs
          (Rules.effect o a Rules.CallsLock w)).node a).calls
          (answers_of ps ++ Rules.answers_by o a rs (Rules.effect o a Rules.CallsLock w))
  event_ledger (At a (Event.Calling (Call.DelLock p r q target))) H count L =
      by_call a call H.walk.rest refl H.walk.world H.walk.answers
      (subst Goal (sym h.1.1.0) (elim h.1.1.1 [
        | inl e ↦ subst (λ (s : Rule). Goal (s ∷ h.1.0)) (sym e)
            (λ m. deletes o a w (calls_at a ps) (answers_of ps) W L count m.0 call new refl refl h.1.0 m.1 h.1.1.2 refl)
        | inr e ↦ subst (λ (s : Rule). Goal (s ∷ h.1.0)) (sym e)
            (λ m. deletes_nothing o a w (calls_at a ps) (answers_of ps) W L count m.0 call new refl refl h.1.0 m.1 h.1.1.2
            refl)
      ]) H.walk.may)
    where
      call : Call
      call = Call.DelLock p r q target

      new : LockCall
      new = new_call o.bound a ((w.node a).last_call + 1) p r q target (Times 0)

      h : InOrder o w (At a (Event.Calling call)) H.walk.rest
      h = H.in_order

      Goal : List Rule → Type 0
      Goal rs = Rules.MayAll o a (Rules.CallsLock ∷ rs) w
          → Ledger a (calls_at a ps ++ call ∷ []) ((Rules.effects o a rs
          (Rules.effect o a Rules.CallsLock w)).node a).calls
          (answers_of ps ++ Rules.answers_by o a rs (Rules.effect o a Rules.CallsLock w))
