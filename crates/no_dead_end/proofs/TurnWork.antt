-- What the steps of calls, exits and retries make of the work: of the node, with all that it sends.
use Rattle.std.proofs.Common.{ℕ, Bool, true, false, ◌≡◌, ◌≤◌, ◌+◌, ◌*◌, Option, Some, None, List, [], ◌∷◌, ◌++◌, refl, sym, ap, subst, ◌∙◌, arith}
use Rattle.std.specs.Prelude.{filter, length, fold, if◌then◌else◌}
use Rattle.std.specs.List.{sum_by}
use Rattle.std.proofs.lemmas.List.Sums.{sum_by-cons, sum_by-append}
use Rattle.registry_model.specs.Process.{Nodes}
use Rattle.registry_model.specs.Registry.{Replica}
use Rattle.registry_model.specs.History.{Entry}
use Rattle.protocol_model.specs.Round.{is_empty}
use Rattle.protocol_model.specs.Watch.{owed}
use Rattle.protocol_model.specs.Node.{Node, Op, Current, LockPhase, LockCall, Times, targets}
use Rattle.protocol_model.specs.Turn.{Turn, begun, with_queue, count_call, enter}
use Rattle.protocol_model.specs.Registrar.{contact_left, ask_join, start_queue, start_next, start_free, start, retry_global}
use Rattle.protocol_model.specs.Client.{one_less, close_call, ask_lock, ask_back, try_lock, delete_lock, retry_in, retry_locks, new_call}
use Rattle.protocol_model.specs.Calling.{die, queued, call, event}
use Rattle.protocol_model.specs.Event.{Call, Event, is_waiting, is_waiting_call}
use Rattle.named_events.proofs.Rules
use Rattle.walk.proofs.Extends.{turn_extended}
use Rattle.no_dead_end.specs.Weights.{when}
use Rattle.no_dead_end.specs.Work.{round_work, queued_work}
use Rattle.no_dead_end.specs.Payments.{refused_rounds, call_pays, event_pays}
use Rattle.no_dead_end.proofs.Counting.{Counting, weights}
use Rattle.no_dead_end.proofs.Totals.{sent_work-append}
use Rattle.no_dead_end.proofs.RegistrarWork.{worth, sent, Spends, retries_work, begins_work, asks_join_work, skips_work}
use Rattle.no_dead_end.proofs.StrikeWork.{begins_strike_work}
use Rattle.no_dead_end.proofs.CallWork.{asks_lock_work, ends_lock_work, deletes_work, dies_work}

-- the event is a leave
abbrev pub is_leaving : Event → Bool
is_leaving Event.Leave = true
is_leaving _ = false

module _ (C : Counting) where
  open C use {opening as o, opening.{bound as b}, size as n, up, node as a}

  -- a node of a turn, with what the turn sent so far
  abbrev pub laden : Turn → ℕ
  laden u = worth C u.node + sent C u.sends

  abbrev pub nobody : ℕ → ℕ
  nobody c = 0

  -- a rule spends as much behind a turn as from the node alone
  pub behind : (r : Rules.Rule) (u : Turn) (k : ℕ) → Spends C u.node (Rules.made o a nobody r (begun u.node)) k
      → laden (Rules.made o a nobody r u) ≤ laden u + k
  behind r u k h = subst (λ (t : Turn). laden t ≤ laden u + k) (sym (turn_extended o a nobody r u))
      (let both : sent C (u.sends ++ (Rules.made o a nobody r (begun u.node)).sends)
      ≡ sent C u.sends + sent C (Rules.made o a nobody r (begun u.node)).sends =
      sent_work-append b (weights C) up a u.sends (Rules.made o a nobody r (begun u.node)).sends in omega (arith, h, both))

  -- the queue of a free registrar goes on
  queue_goes_on : (ops : List Op) (u : Turn) → u.node.current ≡ Current.Free → is_empty b u.node.replica.members ≡ false
      → laden (start_queue b a ops u) ≤ laden (with_queue ops u)
  queue_goes_on [] u e some = omega arith
  queue_goes_on (Op.Join k m ∷ ops) u e some = go (u.node.replica.told m) (queue_goes_on ops (contact_left b a k m u) e some)
    where
      go : (t : Bool) → laden (start_queue b a ops (contact_left b a k m u)) ≤ laden (with_queue ops (contact_left b a k m u))
          → laden (if t then start_queue b a ops (contact_left b a k m u) else ask_join b a k m (with_queue ops u))
          ≤ laden (with_queue (Op.Join k m ∷ ops) u)
      go true more =
          let one : laden (with_queue ops (contact_left b a k m u)) ≤ laden (with_queue (Op.Join k m ∷ ops) u) + 0 =
          behind (Rules.SkipsJoin k m ops) (with_queue (Op.Join k m ∷ ops) u) 0
          (skips_work C k m ops (with_queue (Op.Join k m ∷ ops) u).node refl) in omega (arith, more, one)
      go false more =
          let one : laden (ask_join b a k m (with_queue ops u)) ≤ laden (with_queue (Op.Join k m ∷ ops) u) + 0 =
          behind (Rules.AsksJoin k m ops) (with_queue (Op.Join k m ∷ ops) u) 0
          (asks_join_work C k m ops (with_queue (Op.Join k m ∷ ops) u).node e refl) in omega (arith, one)
  queue_goes_on (Op.Name k call ∷ ops) u e some =
      let one : _ = behind (Rules.Begins (Op.Name k call) ops) (with_queue (Op.Name k call ∷ ops) u) 0
      (begins_work C (Op.Name k call) ops (with_queue (Op.Name k call ∷ ops) u).node e refl refl some) in omega (arith, one)
  queue_goes_on (Op.Strike p ∷ ops) u e some =
      let one : _ = behind (Rules.Begins (Op.Strike p) ops) (with_queue (Op.Strike p ∷ ops) u) 0
      (begins_work C (Op.Strike p) ops (with_queue (Op.Strike p ∷ ops) u).node e refl refl some) in omega (arith, one)
  queue_goes_on (Op.Admission j pairs ∷ ops) u e some =
      let one : _ = behind (Rules.Begins (Op.Admission j pairs) ops) (with_queue (Op.Admission j pairs ∷ ops) u) 0
      (begins_work C (Op.Admission j pairs) ops (with_queue (Op.Admission j pairs ∷ ops) u).node e refl refl some) in
      omega (arith, one)

  next_goes_on : (s : Option ℕ) (u : Turn) → u.node.current ≡ Current.Free → owed a u.node.replica.table u.node.watch ≡ s
      → is_empty b u.node.replica.members ≡ false → laden (start_next b a s u) ≤ laden u
  next_goes_on (Some serial) u e o some =
      let one : _ = behind (Rules.BeginsStrike serial) u 0 (begins_strike_work C serial u.node e o some) in omega (arith, one)
  next_goes_on None u e o some = queue_goes_on u.node.queue u e some

  -- Start, at the end of a step, spends what the node has
  pub starts : (u : Turn) → is_empty b u.node.replica.members ≡ false → laden (start b a u) ≤ laden u
  starts u some = go u.node.current refl
    where
      go : (c : Current) → u.node.current ≡ c → laden (start_free b a c u) ≤ laden u
      go Current.Free e = next_goes_on (owed a u.node.replica.table u.node.watch) u e refl some
      go (Current.Joining k m) e = omega arith
      go (Current.Asking op r) e = omega arith
      go (Current.Waiting op) e = omega arith
      go (Current.Writing op s awaited reply) e = omega arith

  -- a `set_lock` is tried, and a `del_lock` begins
  pub tries : (c : LockCall) (u : Turn) → laden (try_lock b a c u) ≤ laden u + 3 * n
  tries c u = go (is_empty b (targets u.node.replica.members c.target)) refl
    where
      go : (t : Bool) → is_empty b (targets u.node.replica.members c.target) ≡ t
          → laden (if t then close_call b a c false u else ask_lock b a c (targets u.node.replica.members c.target) u)
          ≤ laden u + 3 * n
      go true e = let one : _ = behind (Rules.FailsLock c) u 0 (ends_lock_work C c false u.node) in omega (arith, one)
      go false e = behind (Rules.AsksLock c) u (3 * n) (asks_lock_work C c (targets u.node.replica.members c.target) u.node e)

  pub deletes : (c : LockCall) (u : Turn) → laden (delete_lock b a c u) ≤ laden u + 2 * n
  deletes c u = go (is_empty b (targets u.node.replica.members c.target))
    where
      go : (t : Bool) → laden (if t then close_call b a c true u else ask_back b a c (targets u.node.replica.members c.target) u)
          ≤ laden u + 2 * n
      go true = let one : _ = behind (Rules.DeletesNothing c) u 0 (ends_lock_work C c true u.node) in omega (arith, one)
      go false = behind (Rules.DeletesLock c) u (2 * n) (deletes_work C c (targets u.node.replica.members c.target) u.node)

  -- neither touches the replica
  pub try_replica : (c : LockCall) (u : Turn) → (try_lock b a c u).node.replica ≡ u.node.replica
  try_replica c u = go (is_empty b (targets u.node.replica.members c.target))
    where
      go : (t : Bool)
          → (if t then close_call b a c false u else ask_lock b a c (targets u.node.replica.members c.target) u).node.replica
          ≡ u.node.replica
      go true = refl
      go false = refl

  pub delete_replica : (c : LockCall) (u : Turn) → (delete_lock b a c u).node.replica ≡ u.node.replica
  delete_replica c u = go (is_empty b (targets u.node.replica.members c.target))
    where
      go : (t : Bool)
          → (if t then close_call b a c true u else ask_back b a c (targets u.node.replica.members c.target) u).node.replica
          ≡ u.node.replica
      go true = refl
      go false = refl

  -- a refused operation is retried
  pub global_again : (u : Turn) → is_empty b u.node.replica.members ≡ false
      → laden (retry_global b a u.node.current u) ≤ laden u + when (is_waiting u.node.current) 1 * (3 * n)
  global_again u some = go u.node.current refl
    where
      go : (c : Current) → u.node.current ≡ c
          → laden (retry_global b a c u) ≤ laden u + when (is_waiting c) 1 * (3 * n)
      go (Current.Waiting op) e = let one : _ = behind (Rules.Retries op) u (3 * n) (retries_work C op u.node e some) in
          omega (arith, one)
      go Current.Free e = omega arith
      go (Current.Joining k m) e = omega arith
      go (Current.Asking op r) e = omega arith
      go (Current.Writing op s awaited reply) e = omega arith

  pub global_replica : (c : Current) (u : Turn) → (retry_global b a c u).node.replica ≡ u.node.replica
  global_replica (Current.Waiting op) u = refl
  global_replica Current.Free u = refl
  global_replica (Current.Joining k m) u = refl
  global_replica (Current.Asking op r) u = refl
  global_replica (Current.Writing op s awaited reply) u = refl

  pub global_calls : (c : Current) (u : Turn) → (retry_global b a c u).node.calls ≡ u.node.calls
  global_calls (Current.Waiting op) u = refl
  global_calls Current.Free u = refl
  global_calls (Current.Joining k m) u = refl
  global_calls (Current.Asking op r) u = refl
  global_calls (Current.Writing op s awaited reply) u = refl

  -- and so are the refused ones of these calls
  abbrev pub again : List LockCall → Turn → Turn
  again cs u = fold (λ turn c. retry_in b a c.phase c turn) u cs

  abbrev pub waiting : List LockCall → ℕ
  waiting cs = length (filter (λ c. is_waiting_call c.phase) cs)

  one_again : (ph : LockPhase) (c : LockCall) (u : Turn)
      → (laden (retry_in b a ph c u) ≤ laden u + when (is_waiting_call ph) 1 * (3 * n))
      × ((retry_in b a ph c u).node.replica ≡ u.node.replica)
  one_again LockPhase.Waiting c u =
      let one : _ = tries (record c { retries = one_less c.retries }) u in
      (omega (arith, one), try_replica (record c { retries = one_less c.retries }) u)
  one_again (LockPhase.Asking r) c u = (omega arith, refl)
  one_again (LockPhase.Deleting owing) c u = (omega arith, refl)

  pub calls_again : (cs : List LockCall) (u : Turn)
      → (laden (again cs u) ≤ laden u + waiting cs * (3 * n)) × ((again cs u).node.replica ≡ u.node.replica)
  calls_again [] u = (omega arith, refl)
  calls_again (c ∷ cs) u =
      let one : (laden (retry_in b a c.phase c u) ≤ laden u + when (is_waiting_call c.phase) 1 * (3 * n))
      × ((retry_in b a c.phase c u).node.replica ≡ u.node.replica) = one_again c.phase c u in
      let more : (laden (again cs (retry_in b a c.phase c u)) ≤ laden (retry_in b a c.phase c u) + waiting cs * (3 * n))
      × ((again cs (retry_in b a c.phase c u)).node.replica ≡ (retry_in b a c.phase c u).node.replica) =
      calls_again cs (retry_in b a c.phase c u) in
      (count (is_waiting_call c.phase) one.0 more.0, more.1 ∙ one.1)
    where
      count : (t : Bool) → laden (retry_in b a c.phase c u) ≤ laden u + when t 1 * (3 * n)
          → laden (again cs (retry_in b a c.phase c u)) ≤ laden (retry_in b a c.phase c u) + waiting cs * (3 * n)
          → laden (again cs (retry_in b a c.phase c u))
          ≤ laden u + length (if t then c ∷ filter (λ x. is_waiting_call x.phase) cs else filter (λ x. is_waiting_call x.phase) cs) * (3 * n)
      count true h k = omega (arith, h, k)
      count false h k = omega (arith, h, k)

  -- an operation is queued
  queues : (op : Op) (u : Turn) → laden (queued b a op (count_call u)) ≤ laden u + queued_work n u.node.replica.table op
  queues op u =
      let h : sum_by (queued_work n u.node.replica.table) (u.node.queue ++ op ∷ [])
      ≡ sum_by (queued_work n u.node.replica.table) u.node.queue + sum_by (queued_work n u.node.replica.table) (op ∷ []) =
      sum_by-append (queued_work n u.node.replica.table) u.node.queue (op ∷ []) in
      let i : sum_by (queued_work n u.node.replica.table) (op ∷ []) ≡ queued_work n u.node.replica.table op + 0 =
      sum_by-cons (queued_work n u.node.replica.table) op [] in omega (arith, h, i)

  -- What each call makes, and each other event but a leave
  module _ (v : Node) (some : is_empty b v.replica.members ≡ false) where
    abbrev k : ℕ
    k = v.last_call + 1

    same_some : (u : Turn) → u.node.replica ≡ v.replica → is_empty b u.node.replica.members ≡ false
    same_some u e = ap (λ (r : Replica). is_empty b r.members) e ∙ some

    call_work : (c : Call) → laden (call b a k c (begun v)) ≤ worth C v + call_pays n v c
    call_work Call.Spawn = omega arith
    call_work (Call.LookUp look) = omega arith
    call_work (Call.OnName c) = let h : _ = queues (Op.Name k c) (begun v) in omega (arith, h)
    call_work (Call.JoinBy m) = let h : _ = queues (Op.Join k m) (begun v) in omega (arith, h)
    call_work (Call.SetLock p r q target retries) =
        let h : _ = tries (new_call b a k p r q target retries) (count_call (begun v)) in omega (arith, h)
    call_work (Call.DelLock p r q target) =
        let h : _ = deletes (new_call b a k p r q target (Times 0)) (count_call (begun v)) in omega (arith, h)

    call_replica : (c : Call) → (call b a k c (begun v)).node.replica ≡ v.replica
    call_replica Call.Spawn = refl
    call_replica (Call.LookUp look) = refl
    call_replica (Call.OnName c) = refl
    call_replica (Call.JoinBy m) = refl
    call_replica (Call.SetLock p r q target retries) = try_replica (new_call b a k p r q target retries) (count_call (begun v))
    call_replica (Call.DelLock p r q target) = delete_replica (new_call b a k p r q target (Times 0)) (count_call (begun v))

    retry_work : laden (start b a (retry_locks b a (retry_global b a v.current (begun v)))) ≤ worth C v
        + refused_rounds v * round_work n
    retry_work =
        let one : laden first ≤ laden (begun v) + when (is_waiting v.current) 1 * (3 * n) = global_again (begun v) some in
        let more : (laden (again first.node.calls first) ≤ laden first + waiting first.node.calls * (3 * n))
        × ((again first.node.calls first).node.replica ≡ first.node.replica) = calls_again first.node.calls first in
        let calls : waiting first.node.calls ≡ waiting v.calls = ap waiting (global_calls v.current (begun v)) in
        let less : laden first2 ≤ laden first + waiting v.calls * (3 * n) =
        subst (λ (m : ℕ). laden first2 ≤ laden first + m * (3 * n)) calls more.0 in
        let last : laden (start b a first2) ≤ laden first2 = starts first2 (same_some first2
        (more.1 ∙ global_replica v.current (begun v))) in
        omega (arith, one, less, last)
      where
        first : Turn
        first = retry_global b a v.current (begun v)

        first2 : Turn
        first2 = again first.node.calls first

    pub event_work : (world : Nodes) (e : Event) → is_leaving e ≡ false
        → laden (event b a world e (begun v)) ≤ worth C v + event_pays n v e
    event_work world (Event.Calling c) e =
        let one : laden (call b a k c (begun v)) ≤ worth C v + call_pays n v c = call_work c in
        let last : laden (start b a (call b a k c (begun v))) ≤ laden (call b a k c (begun v)) =
        starts (call b a k c (begun v)) (same_some (call b a k c (begun v)) (call_replica c)) in omega (arith, one, last)
    event_work world Event.Retry e = retry_work
    event_work world (Event.Exiting p) e =
        let one : laden (die b a p (enter (Entry.Exit p) (begun v))) ≤ laden (begun v) + n =
        behind (Rules.Exits p) (begun v) n (dies_work C v.replica.members p v) in
        let last : laden (start b a (die b a p (enter (Entry.Exit p) (begun v)))) ≤ laden (die b a p (enter (Entry.Exit p) (begun v))) =
        starts (die b a p (enter (Entry.Exit p) (begun v))) some in omega (arith, one, last)
    event_work world Event.Leave e = cc e
