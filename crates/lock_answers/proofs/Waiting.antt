-- What the numbers and the tries read of a world beside events and answers is as it is seen.
use Rattle.std.proofs.Common.{ℕ, zero, suc, Bool, true, false, ◌≡◌, ◌+◌, Option, Some, None, List, [], ◌∷◌, ◌++◌, refl, sym, ap, ◌∙◌, subst, arith, inl, inr}
use Rattle.std.specs.Prelude.{◌||◌, if◌then◌else◌}
use Rattle.std.specs.List.{list_any}
use Rattle.std.proofs.Math.Bool.{or-true}
use Rattle.std.proofs.lemmas.Bool.{cases_eq}
use Rattle.registry_model.specs.Process.{Process, is_process}
use Rattle.registry_model.specs.History.{Entry, standing_of}
use Rattle.protocol_model.specs.Node.{Node, LockPhase, LockCall, Retries, Times, Endless, call_of}
use Rattle.protocol_model.specs.Event.{Call, Event, is_waiting, is_waiting_call}
use Rattle.protocol_model.specs.Turn.{Turn}
use Rattle.protocol_model.specs.Client.{is_spent}
use Rattle.protocol_model.specs.Answers.{answers_under}
use Rattle.protocol_model.specs.Course.{standing}
use Rattle.protocol_model.specs.Watch.{is_dead}
use Rattle.protocol_model.specs.ClientLocks.{Try, waits_for_retry, is_no_more}
use Rattle.protocol_model.specs.Refusals.{HasOpenCall}
use Rattle.protocol_model.specs.LockAnswers.{Tries, tries_of, AreUsedUp, IsUnanswered, WaitsForRetry}
use Rattle.protocol_model.specs.World.{Opening, in_cluster, World, WorldEvent, At, Deliver, place, left, opening_world, refusal, accepted, turn_of}
use Rattle.moves.proofs.Indices.{neither}
use Rattle.walk.proofs.Events.{accepted_of}
use Rattle.leftovers.proofs.Clients.{call_at, IsLive, live_parts, caller_lives, node_here, node_there}
use Rattle.leftovers.proofs.Families.{whole}
use Rattle.leftovers.proofs.Ongoing.{is_deleting}
use Rattle.leftovers.proofs.Quiet.{calls_wait}
use Rattle.protocol_model.proofs.Waiting.{accepted-node}
use Rattle.leftovers.proofs.Story.{written}
use Rattle.leftovers.proofs.Tied.{run-push}
use Rattle.leftovers.proofs.Together.{replicas, run_whole}
use Rattle.leftovers.proofs.Tries.{IsTryOf}
use Rattle.leftovers.proofs.Unanswered.{open_waits, waits_open}
use Rattle.leftovers.specs.Clauses.{events, world}
use Rattle.lock_answers.proofs.Behind.{Stands, stands}
use Rattle.lock_answers.proofs.LastCalls.{IsSet, behind, known, is_set}
use Rattle.lock_answers.proofs.LastTry.{last_of}
use Rattle.lock_answers.proofs.Nobody.{some_same}
use Rattle.lock_answers.proofs.Pushed.{happens_now}
use Rattle.lock_answers.proofs.ReasonEvents.{ReasonsAt, reasons_next}
use Rattle.lock_answers.proofs.ReasonSteps.{Reasons}
use Rattle.lock_answers.proofs.Reasons.{MarksIn}
use Rattle.lock_answers.proofs.RetriesUsed.{spent}
use Rattle.lock_answers.proofs.Spending.{AreLeft, IsSpending}
use Rattle.leftovers.specs.Worlds.{of_nodes, IsQuiet}
use Rattle.lock_answers.specs.ClientLocks.{ReadsTheSeen}

-- a call that waits is in this phase, and no deletion
waiting_phase : (f : LockPhase) → is_waiting_call f ≡ true → f ≡ LockPhase.Waiting
waiting_phase LockPhase.Waiting h = refl
waiting_phase (LockPhase.Asking r) h = cc
waiting_phase (LockPhase.Deleting owing) h = cc

-- where all retries are used, none is left
none_left : (given tried : ℕ) (now : Retries) → tried ≡ given + 1 → AreLeft (Times given) tried now
    → is_spent now ≡ false → ⊥
none_left given tried (Times zero) e h s = cc
none_left given tried (Times (suc k)) e h s = absurd (omega (arith, e, h))
none_left given tried Endless e h s = h

-- the call of a process is among all calls
some_waits : (p : Process) (cs : List LockCall) (c : LockCall) → call_of p cs ≡ Some c → is_waiting_call c.phase ≡ true
    → list_any (λ d. is_waiting_call d.phase) cs ≡ true
some_waits p [] c e h = cc
some_waits p (d ∷ cs) c e h = go (is_process d.holder p) e (λ i. some_waits p cs c i h)
  where
    go : (b : Bool) → (if b then Some d else call_of p cs) ≡ Some c
        → (call_of p cs ≡ Some c → list_any (λ x. is_waiting_call x.phase) cs ≡ true)
        → (is_waiting_call d.phase || list_any (λ x. is_waiting_call x.phase) cs) ≡ true
    go true i later =
        let same : d ≡ c = cc i in
        ap (λ (b : Bool). b || list_any (λ x. is_waiting_call x.phase) cs)
        (ap (λ (x : LockCall). is_waiting_call x.phase) same ∙ h)
    go false i later = ap (λ (b : Bool). is_waiting_call d.phase || b) (later i) ∙ or-true (is_waiting_call d.phase)

module _ (o : Opening) (p : Process) where
  -- who has an open call isn't dead
  abbrev CallerLives : World → Type 0
  CallerLives w = (c : LockCall) → call_at w p ≡ Some c → is_dead (w.node p.node).watch p.serial ≡ false

  -- where its node runs
  running_caller : (es : List WorldEvent) → left (world o es) p.node ≡ false → CallerLives (world o es)
  running_caller es up c e = (live_parts o (world o es) p
      (caller_lives o (world o es) (known o p es).num (known o p es).known.clients p c up e)).alive

  -- and where it has left since, which leaves it as it was
  caller_next : (es : List WorldEvent) (e : WorldEvent) → refusal o (world o es) e ≡ None → CallerLives (world o es)
      → CallerLives (accepted o (world o es) e)
  caller_next es e h K = go (left (accepted o (world o es) e) p.node) refl
    where
      u : Turn
      u = turn_of o (world o es) e

      same : world o (es ++ e ∷ []) ≡ accepted o (world o es) e
      same = run-push o (opening_world o) es e ∙ happens_now o es e h

      -- so it is by the node alone
      by_node : ((accepted o (world o es) e).node p.node ≡ (world o es).node p.node)
          → CallerLives (accepted o (world o es) e)
      by_node i = subst (λ (v : Node). (c : LockCall) → call_of p v.calls ≡ Some c → is_dead v.watch p.serial ≡ false)
          (sym i) K

      runs : p.node ≡ place e → left (world o es) p.node ≡ true → ⊥
      runs i gone =
          let up : left (world o es) p.node ≡ false = ap (left (world o es)) i
          ∙ (accepted_of o (world o es) e h).running in
          cc (gone, up)

      -- a node leaves by its last event, which leaves its calls
      last_node : p.node ≡ place e → (d : WorldEvent) → e ≡ d → left (accepted o (world o es) d) p.node ≡ true
          → u.node ≡ (world o es).node (place e)
      last_node i (At a Event.Leave) j gone =
          subst (λ (x : WorldEvent). (turn_of o (world o es) x).node ≡ (world o es).node (place x)) (sym j) refl
      last_node i (At a (Event.Calling c)) j gone = absurd (runs i gone)
      last_node i (At a Event.Retry) j gone = absurd (runs i gone)
      last_node i (At a (Event.Exiting q)) j gone = absurd (runs i gone)
      last_node i (Deliver f t) j gone = absurd (runs i gone)

      go : (b : Bool) → left (accepted o (world o es) e) p.node ≡ b → CallerLives (accepted o (world o es) e)
      go false up = subst CallerLives same
          (running_caller (es ++ e ∷ []) (ap (λ (v : World). left v p.node) same ∙ up))
      go true gone = by_node (ap (λ (f : ℕ → Node). f p.node) (accepted-node o (world o es) e)
          ∙ elim (cases_eq p.node (place e)) [
            | inl i ↦ node_here (world o es) (place e) u p.node i ∙ last_node i e refl gone
                ∙ ap (world o es).node (sym i)
            | inr ne ↦ node_there (world o es) (place e) u p.node ne
          ])

  caller_alive : (es : List WorldEvent) → CallerLives (world o es)
  caller_alive es = behind o p (λ w t ps. CallerLives w) (λ c e. refl) caller_next es

module _ (o : Opening) (es : List WorldEvent) where
  abbrev w : World
  w = world o es

  departed : (d : ℕ) → left w d ≡ (standing o (events o es)).registry.left d
  departed d = sym ((replicas o w (run_whole o es).kept).departed d)
      ∙ ap (λ (h : List Entry). (standing_of (in_cluster o) h).registry.left d) (written o es).history

  module _ (p : Process) where
    -- the call that waits
    module _ (c : LockCall) (found : call_at w p ≡ Some c) (waits : is_waiting_call c.phase ≡ true) (x : Tries)
        (is : tries_of o es p ≡ Some x) (T : IsTryOf x.last c) where
      phase : c.phase ≡ LockPhase.Waiting
      phase = waiting_phase c.phase waits

      failed : x.met ≡ true
      failed =
          let K : Stands o p (λ v g. ReasonsAt o p v g) (λ v num d g S F k i. reasons_next o p v num d g S F k i) w
          (tries_of o es p) = stands o p (λ v g. ReasonsAt o p v g)
          (λ v num d g S F k i. reasons_next o p v num d g S F k i) (λ y i. cc) es in
          let R : Reasons o p w x = K.kept x is in
          subst (MarksIn x.met) phase (R.marks p c found refl)

      more : AreUsedUp x → ⊥
      more U =
          let S : IsSpending (tries_of o es p) c = (spent o es p).kept p c found refl (ap is_deleting phase) in
          let same : S.0 ≡ x = some_same S.0 x (sym S.1 ∙ is) in
          none_left U.given x.tried c.retries U.used
          (subst (λ (g : Retries). AreLeft g x.tried c.retries) U.all
          (subst (λ (y : Tries). AreLeft y.retries y.tried c.retries) same S.2.left))
          (S.2.more waits)

      unanswered : IsUnanswered o es p x
      unanswered =
          let I : IsSet _ p x = is_set o p es x is in
          let C : (C : HasOpenCall (events o es) p.node p) × (C.number ≡ c.number) = open_waits o es p.node p c found in
          record {
            resource = I.resource;
            requester = I.requester;
            id = I.id;
            call = (I.positive, I.call);
            unanswered = ap (λ (k : ℕ). answers_under p.node k (events o es)) (T.number ∙ sym C.1) ∙ C.0.unanswered;
          }

    -- its node accepts a retry
    retried : (c : LockCall) → call_at w p ≡ Some c → is_waiting_call c.phase ≡ true → left w p.node ≡ false
        → refusal o w (At p.node Event.Retry) ≡ None
    retried c found waits up =
        let L : IsLive o w p = live_parts o w p
        (caller_lives o w (known o p es).num (known o p es).known.clients p c up found) in
        rw (L.inside, up, some_waits p (w.node p.node).calls c found waits, or-true (is_waiting (w.node p.node).current))
        refl

    -- a refused call is such a call
    refused : waits_for_retry w p ≡ true → WaitsForRetry o es w p
    refused h = by_call (call_at w p) refl h
      where
        by_try : (c : LockCall) → call_at w p ≡ Some c → is_waiting_call c.phase ≡ true
            → (s : Try) × ((last_of (tries_of o es p) ≡ Some s) × IsTryOf s c) → (t : Option Tries)
            → tries_of o es p ≡ t → WaitsForRetry o es w p
        by_try c found waits S None i = cc (sym (ap last_of i) ∙ S.1.0)
        by_try c found waits S (Some x) i =
            let T : IsTryOf x.last c = subst (λ (s : Try). IsTryOf s c)
            (sym (some_same x.last S.0 (sym (ap last_of i) ∙ S.1.0))) S.1.1 in
            record {
              tries = x;
              last = i;
              call = unanswered c found waits x i T;
              failed = failed c found waits x i T;
              more = more c found waits x i T;
              alive = caller_alive o p es c found;
              retry = λ live. retried c found waits
                  (neither (left w p.node) (is_dead (w.node p.node).watch p.serial) live).0;
            }

        by_call : (k : Option LockCall) → call_at w p ≡ k
            → (elim k [ None ↦ false | Some c ↦ is_waiting_call c.phase ]) ≡ true → WaitsForRetry o es w p
        by_call None i j = cc
        by_call (Some c) i j = by_try c i j ((known o p es).fits.own c i
            (ap is_deleting (waiting_phase c.phase j))) (tries_of o es p) refl

    -- in a quiet world the last `set_lock` waits, unless it is answered
    waits : (x : Tries) → IsQuiet (of_nodes o) w → is_no_more w p ≡ false → tries_of o es p ≡ Some x
        → answers_under p.node x.last.number (events o es) ≡ [] → waits_for_retry w p ≡ true
    waits x quiet live is none =
        let S : IsSet _ p x = is_set o p es x is in
        let C : HasOpenCall (events o es) p.node p = record {
          number = x.last.number;
          call = Call.SetLock p S.resource S.requester x.last.target x.retries;
          positive = S.positive;
          accepted = S.call;
          holder = refl;
          unanswered = none;
        } in
        let up : (left w p.node ≡ false) × (is_dead (w.node p.node).watch p.serial ≡ false) =
        neither (left w p.node) (is_dead (w.node p.node).watch p.serial) live in
        let I : (c : LockCall) × (call_at w p ≡ Some c) × (c.number ≡ x.last.number) = waits_open o es p.node p C up.1 in
        let L : IsLive o w p = live_parts o w p
        (caller_lives o w (known o p es).num (known o p es).known.clients p I.0 up.0 I.1) in
        ap (λ (k : Option LockCall). elim k [ None ↦ false | Some c ↦ is_waiting_call c.phase ]) I.1
        ∙ ap is_waiting_call (calls_wait o w (whole o es) quiet p I.0 (L.inside, up.0) I.1)

  -- all this together
  pub reads_the_seen : ReadsTheSeen (of_nodes o) es w
  reads_the_seen = record {
    refused = refused;
    waits = waits;
    gone = λ p. ap (λ (b : Bool). b || is_dead (w.node p.node).watch p.serial) (departed p.node);
  }
