-- What the rules of clients' lock calls make of the work, and exits and kills. a is the node, v what it was.
use Rattle.std.proofs.Common.{ℕ, Bool, true, false, ◌==◌, ◌≡◌, ◌<◌, ◌≤◌, ◌+◌, ◌*◌, Some, List, [], ◌∷◌, refl, sym, ap, subst, arith}
use Rattle.std.specs.Prelude.{length, not, nat_lt, ◌&&◌, map, if◌then◌else◌}
use Rattle.std.specs.List.{sum_by}
use Rattle.std.proofs.lemmas.Bool.{eq-eqb, ne_eqb, ltb-true, le-ltb}
use Rattle.std.proofs.lemmas.List.Sums.{sum_by-cons}
use Rattle.registry_model.specs.Process.{Process, is_process, Nodes, nodes_of}
use Rattle.protocol_model.specs.Round.{Round, is_empty, greatest, is_gone, begin, rest, owes, opens, answer, down, granted}
use Rattle.protocol_model.specs.Letter.{Letter}
use Rattle.protocol_model.specs.Node.{Node, LockPhase, LockCall, call_of, put_call, drop_call}
use Rattle.protocol_model.specs.Turn.{begun, keep_call, send_all}
use Rattle.protocol_model.specs.Registrar.{ask_rest}
use Rattle.protocol_model.specs.Client.{is_spent, in_phase, close_call, ask_lock, give_lock, refuse_lock, ask_back}
use Rattle.named_events.proofs.Rules.{is_ordered, die_to}
use Rattle.walk.proofs.Calls.{OrderedParts, ordered_parts, all_after, AllAfter, call_of-holder}
use Rattle.named_events.proofs.Ids.{is_process_same}
use Rattle.named_events.proofs.Rounds.{is_unasked}
use Rattle.no_dead_end.specs.Weights.{sum_below, when, of_phase}
use Rattle.no_dead_end.proofs.Counting.{Counting, weights, marks}
use Rattle.no_dead_end.proofs.Sums.{sum-le, sum-each}
use Rattle.no_dead_end.proofs.RoundWork.{begin_work, answer_work, down_work, granted_work}
use Rattle.no_dead_end.proofs.Totals.{sent_each}
use Rattle.no_dead_end.proofs.TableWork.{filter-count}
use Rattle.no_dead_end.proofs.RegistrarWork.{sent, Spends}

module _ (C : Counting) where
  open C use {opening.{bound as b}, size as n, alive, up, few as most, node as a}

  abbrev phase : LockPhase → ℕ
  phase ph = of_phase b (weights C) up ph

  abbrev all : List LockCall → ℕ
  all cs = sum_by (λ call. phase call.phase) cs

  -- a call less
  drop_all : (p : Process) (cs : List LockCall) → all (drop_call p cs) ≤ all cs
  drop_all p cs = filter-count (λ call. phase call.phase) (λ c. not (is_process c.holder p)) cs

  -- a call that is new, or stands otherwise now
  put_all : (c : LockCall) (cs : List LockCall) → all (put_call c cs) ≤ all cs + phase c.phase
  put_all c [] = let h : all (c ∷ []) ≡ phase c.phase + 0 = sum_by-cons (λ (call : LockCall). phase call.phase) c [] in
      omega (arith, h)
  put_all c (d ∷ cs) = go (nat_lt c.holder.serial d.holder.serial) (c.holder.serial == d.holder.serial) (put_all c cs)
    where
      go : (less same : Bool) → all (put_call c cs) ≤ all cs + phase c.phase
          → all (if less then c ∷ d ∷ cs else (if same then c ∷ cs else d ∷ put_call c cs)) ≤ all (d ∷ cs) + phase c.phase
      go true same h = let p : all (c ∷ d ∷ cs) ≡ phase c.phase + all (d ∷ cs) =
          sum_by-cons (λ (call : LockCall). phase call.phase) c (d ∷ cs) in
          omega (arith, p)
      go false true h = let p : all (c ∷ cs) ≡ phase c.phase + all cs = sum_by-cons (λ (call : LockCall). phase call.phase) c cs in
          let q : all (d ∷ cs) ≡ phase d.phase + all cs = sum_by-cons (λ (call : LockCall). phase call.phase) d cs in
          omega (arith, p, q)
      go false false h = let p : all (d ∷ put_call c cs) ≡ phase d.phase + all (put_call c cs) =
          sum_by-cons (λ (call : LockCall). phase call.phase) d (put_call c cs) in
          let q : all (d ∷ cs) ≡ phase d.phase + all cs = sum_by-cons (λ (call : LockCall). phase call.phase) d cs in
          omega (arith, h, p, q)

  -- who is found behind a call has a greater serial
  found_after : (s : ℕ) (p : Process) (cs : List LockCall) (d : LockCall) → AllAfter s cs → call_of p cs ≡ Some d
      → nat_lt s d.holder.serial ≡ true
  found_after s p [] d h e = cc e
  found_after s p (x ∷ cs) d h e = go (is_process x.holder p) e (λ k. found_after s p cs d h.1 k)
    where
      go : (t : Bool) → (if t then Some x else call_of p cs) ≡ Some d → (call_of p cs ≡ Some d → nat_lt s d.holder.serial ≡ true)
          → nat_lt s d.holder.serial ≡ true
      go true k m = let same : x ≡ d = cc k in subst (λ (y : LockCall). nat_lt s y.holder.serial ≡ true) same h.0
      go false k m = m k

  -- a call that stood otherwise before
  change_all : (c d : LockCall) (cs : List LockCall) → is_ordered a cs ≡ true → call_of c.holder cs ≡ Some d
      → all (put_call c cs) + phase d.phase ≤ all cs + phase c.phase
  change_all c d [] o e = cc e
  change_all c d (x ∷ cs) o e =
      let parts : OrderedParts a x cs = ordered_parts a x cs o in
      go (is_process x.holder c.holder) refl e (λ k. change_all c d cs parts.3 k)
      (λ k. found_after x.holder.serial c.holder cs d (all_after a x.holder.serial cs parts.2 parts.3) k)
    where
      first : all (x ∷ cs) ≡ phase x.phase + all cs
      first = sum_by-cons (λ (call : LockCall). phase call.phase) x cs

      go : (t : Bool) → is_process x.holder c.holder ≡ t → (if t then Some x else call_of c.holder cs) ≡ Some d
          → (call_of c.holder cs ≡ Some d → all (put_call c cs) + phase d.phase ≤ all cs + phase c.phase)
          → (call_of c.holder cs ≡ Some d → nat_lt x.holder.serial d.holder.serial ≡ true)
          → all (if nat_lt c.holder.serial x.holder.serial then c ∷ x ∷ cs
          else (if c.holder.serial == x.holder.serial then c ∷ cs else x ∷ put_call c cs)) + phase d.phase ≤ all (x ∷ cs)
          + phase c.phase
      go true q k more later =
          let same : x.holder ≡ c.holder = is_process_same x.holder c.holder q in
          let number : c.holder.serial ≡ x.holder.serial = sym (ap (λ (p : Process). p.serial) same) in
          let one : x ≡ d = cc k in
          let its : phase x.phase ≡ phase d.phase = ap (λ (y : LockCall). phase y.phase) one in
          let p : all (c ∷ cs) ≡ phase c.phase + all cs = sum_by-cons (λ (call : LockCall). phase call.phase) c cs in
          rw (not_less c.holder.serial x.holder.serial number, eq-eqb c.holder.serial x.holder.serial number)
          (omega (arith, first, its, p))
        where
          not_less : (s t : ℕ) → s ≡ t → nat_lt s t ≡ false
          not_less s t i = le-ltb s t (omega (arith, i))
      go false q k more later =
          let l : nat_lt x.holder.serial d.holder.serial ≡ true = later k in
          let same : d.holder ≡ c.holder = is_process_same d.holder c.holder (call_of-holder c.holder cs d k) in
          let number : d.holder.serial ≡ c.holder.serial = ap (λ (p : Process). p.serial) same in
          let above : x.holder.serial < d.holder.serial = ltb-true x.holder.serial d.holder.serial l in
          let h : all (put_call c cs) + phase d.phase ≤ all cs + phase c.phase = more k in
          let p : all (x ∷ put_call c cs) ≡ phase x.phase + all (put_call c cs) =
          sum_by-cons (λ (call : LockCall). phase call.phase) x (put_call c cs) in
          rw (
            le-ltb c.holder.serial x.holder.serial (omega (arith, above, number)),
            ne_eqb c.holder.serial x.holder.serial (λ i. absurd (omega (arith, above, number, i))),
          ) (omega (arith, first, h, p))

  -- a round of a call begins: of a new one, or of one that waited
  pub asks_lock_work : (c : LockCall) (s : Nodes) (v : Node) → is_empty b s ≡ false
      → Spends C v (ask_lock b a c s (begun v)) (3 * n)
  asks_lock_work c s v some =
      let h : marks C (begin b s) + when (up (greatest b s)) 2 ≤ length (nodes_of b up) * 3 = begin_work C s some in
      let put : all (put_call (in_phase (LockPhase.Asking (begin b s)) c) v.calls) ≤ all v.calls + marks C (begin b s) =
      put_all (in_phase (LockPhase.Asking (begin b s)) c) v.calls in omega (arith, h, put, most)

  -- a call ends
  pub ends_lock_work : (c : LockCall) (granted : Bool) (v : Node) → Spends C v (close_call b a c granted (begun v)) 0
  ends_lock_work c granted v = let h : all (drop_call c.holder v.calls) ≤ all v.calls = drop_all c.holder v.calls in
      omega (arith, h)

  -- an answer to a call is heard
  pub hears_lock_work : (f : ℕ) (g : Bool) (c : LockCall) (r : Round) (v : Node) → is_ordered a v.calls ≡ true
      → call_of c.holder v.calls ≡ Some c
      → c.phase ≡ LockPhase.Asking r → owes r f ≡ true
      → (opens f g r ≡ true → (x : ℕ) → (x ≡ f → ⊥) → is_unasked (r.mark x) ≡ true)
      → ((x : ℕ) → up x ≡ true → is_gone (r.mark x) ≡ false)
      → Spends C v (keep_call (in_phase (LockPhase.Asking (answer f g r)) c)
      (ask_rest b a f g (Letter.SetLock c.id c.holder) r (begun v))) 0
  hears_lock_work f g c r v ordered found e owe fit gone = go (opens f g r) refl
    where
      l : Letter
      l = Letter.SetLock c.id c.holder

      answered : marks C (answer f g r)
          + sum_below b (λ x. when (up x && (opens f g r && (rest r x && not (v.replica.told x)))) 2) ≤ marks C r
      answered = answer_work C v.replica.told f g r owe fit gone

      put : all (put_call (in_phase (LockPhase.Asking (answer f g r)) c) v.calls) + phase c.phase ≤ all v.calls
          + marks C (answer f g r)
      put = change_all (in_phase (LockPhase.Asking (answer f g r)) c) c v.calls ordered found

      was : phase c.phase ≡ marks C r
      was = ap phase e

      go : (t : Bool) → opens f g r ≡ t → Spends C v (keep_call (in_phase (LockPhase.Asking (answer f g r)) c)
          (if t then send_all b (λ x. rest r x && not (v.replica.told x)) l (begun v) else begun v)) 0
      go true i =
          let sends : sent C (map (λ x. record { to = x; letter = l }) (nodes_of b (λ x. rest r x && not (v.replica.told x))))
          ≡ sum_below b (λ x. when (up x && (rest r x && not (v.replica.told x))) 2) =
          sent_each b (weights C) up a b (λ x. rest r x && not (v.replica.told x)) l in
          let as_opened : sum_below b (λ x. when (up x && (opens f g r && (rest r x && not (v.replica.told x)))) 2)
          ≡ sum_below b (λ x. when (up x && (rest r x && not (v.replica.told x))) 2) =
          ap (λ (t : Bool). sum_below b (λ x. when (up x && (t && (rest r x && not (v.replica.told x)))) 2)) i in
          omega (arith, answered, put, was, sends, as_opened)
      go false i = omega (arith, answered, put, was)

  -- a departure is told to the round of a call
  pub marks_lock_down_work : (d : ℕ) (c : LockCall) (r : Round) (v : Node) → is_ordered a v.calls ≡ true
      → call_of c.holder v.calls ≡ Some c
      → c.phase ≡ LockPhase.Asking r → Spends C v (keep_call (in_phase (LockPhase.Asking (down d r)) c) (begun v)) 0
  marks_lock_down_work d c r v ordered found e =
      let put : all (put_call (in_phase (LockPhase.Asking (down d r)) c) v.calls) + phase c.phase ≤ all v.calls
      + marks C (down d r) =
      change_all (in_phase (LockPhase.Asking (down d r)) c) c v.calls ordered found in
      let was : phase c.phase ≡ marks C r = ap phase e in
      let less : marks C (down d r) ≤ marks C r = down_work C d r in omega (arith, put, was, less)

  -- a failed round of a call gives back, and the call ends or waits
  pub gives_up_lock_work : (c : LockCall) (r : Round) (v : Node) → is_ordered a v.calls ≡ true → call_of c.holder v.calls ≡ Some c
      → c.phase ≡ LockPhase.Asking r → Spends C v (refuse_lock b a c (give_lock b a c (granted r) (begun v))) 0
  gives_up_lock_work c r v ordered found e = go (is_spent c.retries)
    where
      was : phase c.phase ≡ marks C r
      was = ap phase e

      back : sum_below b (λ x. when (up x && granted r x) 1) ≤ marks C r
      back = granted_work C r

      sends : sent C (map (λ x. record { to = x; letter = Letter.GiveBack c.id c.holder false }) (nodes_of b (granted r)))
          ≡ sum_below b (λ x. when (up x && granted r x) 1)
      sends = sent_each b (weights C) up a b (granted r) (Letter.GiveBack c.id c.holder false)

      put : all (put_call (in_phase LockPhase.Waiting c) v.calls) + phase c.phase ≤ all v.calls + 0
      put = change_all (in_phase LockPhase.Waiting c) c v.calls ordered found

      -- a call that was asked for counted its round
      dropped : (cs : List LockCall) → call_of c.holder cs ≡ Some c → all (drop_call c.holder cs) + phase c.phase ≤ all cs
      dropped [] k = cc k
      dropped (x ∷ cs) k = by (is_process x.holder c.holder) refl k (drop_all c.holder cs) (λ m. dropped cs m)
        where
          first : all (x ∷ cs) ≡ phase x.phase + all cs
          first = sum_by-cons (λ (call : LockCall). phase call.phase) x cs

          by : (t : Bool) → is_process x.holder c.holder ≡ t → (if t then Some x else call_of c.holder cs) ≡ Some c
              → all (drop_call c.holder cs) ≤ all cs →
              (call_of c.holder cs ≡ Some c → all (drop_call c.holder cs) + phase c.phase ≤ all cs)
              → all (if not t then x ∷ drop_call c.holder cs else drop_call c.holder cs) + phase c.phase ≤ all (x ∷ cs)
          by true q i less more = let one : x ≡ c = cc i in
              let its : phase x.phase ≡ phase c.phase = ap (λ (y : LockCall). phase y.phase) one in omega (arith, first, less, its)
          by false q i less more = let h : all (drop_call c.holder cs) + phase c.phase ≤ all cs = more i in
              let p : all (x ∷ drop_call c.holder cs) ≡ phase x.phase + all (drop_call c.holder cs) =
              sum_by-cons (λ (call : LockCall). phase call.phase) x (drop_call c.holder cs) in omega (arith, first, h, p)

      go : (t : Bool) → Spends C v (if t then close_call b a c false (give_lock b a c (granted r) (begun v))
          else keep_call (in_phase LockPhase.Waiting c) (give_lock b a c (granted r) (begun v))) 0
      go true = let h : all (drop_call c.holder v.calls) + phase c.phase ≤ all v.calls = dropped v.calls found in
          omega (arith, was, back, sends, h)
      go false = omega (arith, was, back, sends, put)

  -- letters to all who run count so much at most
  to_all : (s : Nodes) (l : Letter) (k : ℕ) → ((c : ℕ) → (weights C).letter a c l ≤ k)
      → sent C (map (λ x. record { to = x; letter = l }) (nodes_of b s)) ≤ length (nodes_of b up) * k
  to_all s l k h =
      let sends : sent C (map (λ x. record { to = x; letter = l }) (nodes_of b s))
      ≡ sum_below b (λ x. when (up x && s x) ((weights C).letter a x l)) = sent_each b (weights C) up a b s l in
      let le : sum_below b (λ x. when (up x && s x) ((weights C).letter a x l)) ≤ sum_below b (λ x. when (up x) k) =
      sum-le b (λ x. when (up x && s x) ((weights C).letter a x l)) (λ x. when (up x) k)
      (λ x i. one (up x) (s x) ((weights C).letter a x l) (h x)) in
      let count : sum_below b (λ x. when (up x) k) ≡ length (nodes_of b up) * k = sum-each b up k in omega (arith, sends, le, count)
    where
      one : (u t : Bool) (j : ℕ) → j ≤ k → when (u && t) j ≤ when u k
      one true true j i = i
      one true false j i = omega arith
      one false t j i = omega arith

  -- a deletion begins
  pub deletes_work : (c : LockCall) (s : Nodes) (v : Node) → Spends C v (ask_back b a c s (begun v)) (2 * n)
  deletes_work c s v =
      let sends : sent C (map (λ x. record { to = x; letter = Letter.GiveBack c.id c.holder true }) (nodes_of b s))
      ≤ length (nodes_of b up) * 2 = to_all s (Letter.GiveBack c.id c.holder true) 2 (λ x. omega arith) in
      let put : all (put_call (in_phase (LockPhase.Deleting s) c) v.calls) ≤ all v.calls + 0 =
      put_all (in_phase (LockPhase.Deleting s) c) v.calls in
      omega (arith, sends, put, most)

  -- a deletion awaits one node less
  pub counts_back_work : (c : LockCall) (owing : Nodes) (v : Node)
      → Spends C v (keep_call (in_phase (LockPhase.Deleting owing) c) (begun v)) 0
  counts_back_work c owing v =
      let put : all (put_call (in_phase (LockPhase.Deleting owing) c) v.calls) ≤ all v.calls + 0 =
      put_all (in_phase (LockPhase.Deleting owing) c) v.calls in omega (arith, put)

  -- a process dies, by its exit or a kill
  pub dies_work : (receivers : Nodes) (p : Process) (v : Node) → Spends C v (die_to b receivers p (begun v)) n
  dies_work receivers p v =
      let sends : sent C (map (λ x. record { to = x; letter = Letter.ReleaseOf p }) (nodes_of b receivers))
      ≤ length (nodes_of b up) * 1 =
      to_all receivers (Letter.ReleaseOf p) 1 (λ x. omega arith) in
      let drop : all (drop_call p v.calls) ≤ all v.calls = drop_all p v.calls in omega (arith, sends, drop, most)
