-- What an event makes goes to nodes that have started, where it may be heard.
use Rattle.std.proofs.Common.{ℕ, Bool, true, false, ◌==◌, ◌≡◌, ◌+◌, Option, Some, None, List, [], ◌∷◌, ◌++◌, get_or, map, refl, sym, ap, ◌∙◌, subst, arith}
use Rattle.std.specs.Prelude.{◌&&◌, ◌||◌, not, if◌then◌else◌, All}
use Rattle.std.proofs.lemmas.Bool.{eq-eqb, eqb-true, ne_eqb}
use Rattle.std.proofs.lemmas.List.{get_or-map, length-map}
use Rattle.std.proofs.lemmas.List.Elements.{All-nil, All-head, All-tail}
use Rattle.registry_model.specs.Process.{Process, Nodes, with_node, without_node}
use Rattle.registry_model.specs.Table.{is_rising}
use Rattle.registry_model.specs.Call.{NameCall}
use Rattle.registry_model.specs.History.{Entry as AnyEntry}
use Rattle.protocol_model.specs.Letter.{Letter as AnyLetter}
use Rattle.protocol_model.specs.Event.{Call as AnyCall, Event as AnyEvent}
use Rattle.protocol_model.specs.Node.{Op as AnyOp, Current, LockPhase, Times}
use Rattle.protocol_model.specs.Round.{greatest}
use Rattle.protocol_model.specs.Turn.{Turn, begun, count_call, enter}
use Rattle.protocol_model.specs.Registrar.{retry_global}
use Rattle.protocol_model.specs.Client.{new_call, retry_locks}
use Rattle.protocol_model.specs.Calling.{event, call, die}
use Rattle.term.specs.NodeSets.{set_of, with_older}
use Rattle.term.proofs.Older.{held}
use Rattle.lock_calls.specs.LockCallsState.{seen}
use Rattle.locker.proofs.Marks.{asked-seen}
use Rattle.transaction.specs.declared.op.Op.{Op}
use Rattle.transaction.specs.declared.op.Op.TheVariants.{Name as NameOp, Strike, Join as JoinOp, Admission as AdmissionOp}
use Rattle.transaction.specs.Ops.{op_of}
use Rattle.transaction.specs.Calls.{target_of, retries_of}
use Rattle.node_events.specs.declared.events.Call.{Call}
use Rattle.node_events.specs.declared.events.Call.TheVariants.{Spawn, Whereis, RegisteredNames, Notices, Register, ReRegister, Unregister, SetLock as SetsLock, DelLock as DeletesLock, Join as JoinBy}
use Rattle.node_events.specs.declared.events.Event.{Event}
use Rattle.node_events.specs.declared.events.Event.TheVariants.{Call as Calls, FromPeer, Retry, Exit, Leave}
use Rattle.node_events.specs.declared.events.Letter.{Letter}
use Rattle.node_events.specs.declared.events.Letter.TheVariants.{SetLock, LockAnswer, GiveBack, GivenBack, ReleaseOf, Apply, Applied, JoinAsk, JoinRefused, Admit, Welcome, Down}
use Rattle.node_core.specs.declared.node.Phase.{Phase}
use Rattle.node_core.specs.declared.node.Phase.TheVariants.{Asking, Waiting, Writing, Joining}
use Rattle.node_events.specs.Made.{Made}
use Rattle.node_core.specs.CoreState.{CoreState, IsWhole, IsPhaseWithin, IsOpWithin, IsCurrentWithin, IsCallWithin, bound_of}
use Rattle.node_events.specs.Letters.{send_of, letter_of}
use Rattle.node_core.specs.Seen.{node_of, turn_by, current_of}
use Rattle.node_events.specs.Seen.{call_of}
use Rattle.node_core.specs.Steps.{IsTurn, IsSaidBy, IsAskedWithin, IsHeardWithin, GoWithin}
use Rattle.node_core.proofs.Bounds.{below_bound, of_world}
use Rattle.node_core.proofs.Receivers.{AreOf, IsFit, IsSent, GoTo, IsOpOf, AreOpsOf, IsCurrentOf, IsPhaseOf, IsWithin, ops-push, greatest-within, queues, sends_all}
use Rattle.node_core.proofs.ReceiversOfLocks.{tries, deletes, retries_calls}
use Rattle.node_core.proofs.ReceiversOfOperations.{asks, starts}
use Rattle.node_core.proofs.ReceiversOfLetters.{dies, staying, HasBoss, receives}

-- the contact of a join has started
abbrev IsAskedOf : Nodes → Call → Type 0
IsAskedOf world (JoinBy m) = world m ≡ true
IsAskedOf world _ = Unit {0}

module _ {n a : ℕ} {world : Nodes} where
  -- what a call does
  numbers : (k : ℕ) (c : NameCall) (u : Turn) → IsWithin n a world u
      → IsWithin n a world (call n a k (AnyCall.OnName c) u)
  numbers k c u W = queues W (u.node.queue ++ AnyOp.Name k c ∷ [])
      (ops-push world u.node.queue (AnyOp.Name k c) W.queue tt)

  calls_for : (k : ℕ) (c : Call) (u : Turn) → IsAskedOf world c → IsWithin n a world u
      → IsWithin n a world (call n a k (call_of c) u)
  calls_for k Spawn u of W = W
  calls_for k (Whereis x) u of W = W
  calls_for k RegisteredNames u of W = W
  calls_for k (Notices p) u of W = W
  calls_for k (JoinBy m) u of W = queues W (u.node.queue ++ AnyOp.Join k m ∷ [])
      (ops-push world u.node.queue (AnyOp.Join k m) W.queue of)
  calls_for k (Register e) u of W = numbers k (NameCall.Register e) u W
  calls_for k (ReRegister e) u of W = numbers k (NameCall.ReRegister e) u W
  calls_for k (Unregister x) u of W = numbers k (NameCall.Unregister x) u W
  calls_for k (SetsLock p id nodes retries) u of W =
      tries (new_call n a k p id.resource id.requester (target_of nodes) (retries_of retries)) (count_call u) W
  calls_for k (DeletesLock p id nodes) u of W =
      deletes (new_call n a k p id.resource id.requester (target_of nodes) (Times 0)) (count_call u) W

  -- what an exit does
  exits : (p : Process) (u : Turn) → IsWithin n a world u → IsWithin n a world (event n a world (AnyEvent.Exiting p) u)
  exits p u W = starts (die n a p (enter (AnyEntry.Exit p) u)) (dies p (enter (AnyEntry.Exit p) u) W)

  -- what a leave does: it is told to the nodes at present
  leaves : (present : Nodes) → AreOf world present → (u : Turn) → IsWithin n a world u
      → IsWithin n a world (event n a present AnyEvent.Leave u)
  leaves present of u W = sends_all W (λ c. present c && not (c == a)) AnyLetter.Down
      (λ c e. let d = both (present c) (c == a) e in (of c d.0, d.1))
    where
      both : (b d : Bool) → (b && not d) ≡ true → (b ≡ true) × (d ≡ false)
      both true false e = (refl, refl)
      both true true e = cc
      both false d e = cc

  retries : (u : Turn) → IsWithin n a world u → IsWithin n a world (event n a world AnyEvent.Retry u)
  retries u W = starts (retry_locks n a v) (retries_calls v.node.calls v (go u.node.current W.current))
    where
      v : Turn
      v = retry_global n a u.node.current u

      go : (cur : Current) → IsCurrentOf world cur → IsWithin n a world (retry_global n a cur u)
      go (Current.Waiting op) of = asks op u of W
      go _ of = W

module _ (h : CoreState) (whole : IsWhole h) (rising : is_rising h.table ≡ true) where
  abbrev n : ℕ
  n = bound_of h.world

  abbrev world : Nodes
  world = with_older h.world

  -- it is one of those
  is_here : set_of h.world h.name ≡ true
  is_here = whole.members h.name whole.self

  -- a node that is whole knows of nodes alone that have started
  opens_within : IsWithin n h.name world (begun (node_of h))
  opens_within = record {
    members = of_world h.world h.members whole.members;
    told = whole.told.started;
    rising = rising;
    boss = of_world h.world h.members whole.members (greatest n (set_of h.members))
        (greatest-within n (set_of h.members) h.name (below_bound h.world h.name is_here) whole.self);
    queue = all_are h.registrar.queue whole.queue;
    current = current h.registrar.current h.phase whole.current whole.phase;
    calls = λ k d l. call_within (get_or (seen h.calls) k d).phase (whole.called k d l);
    sends = All-nil (IsSent h.name world);
  }
    where
      call_within : (p : LockPhase) → IsCallWithin h.world p → IsPhaseOf world p
      call_within (LockPhase.Asking r) within = within
      call_within LockPhase.Waiting within = tt
      call_within (LockPhase.Deleting owing) within = within

      op_is : (op : Op) → IsOpWithin h.world op → IsOpOf world (op_of op)
      op_is (NameOp k c) of = tt
      op_is (Strike p) of = tt
      op_is (JoinOp k m) of = of
      op_is (AdmissionOp j ps) of = of

      all_are : (ops : List Op) → All (IsOpWithin h.world) ops → AreOpsOf world (map op_of ops)
      all_are [] of = tt
      all_are (op ∷ ops) of = (
        op_is op (All-head (IsOpWithin h.world) op ops of),
        all_are ops (All-tail (IsOpWithin h.world) op ops of),
      )

      current : (o : Option Op) (p : Phase) → IsCurrentWithin h.world o → IsPhaseWithin h.world p
          → IsCurrentOf world (current_of o h.registrar.awaited p)
      current None p of within = tt
      current (Some op) (Asking r) of within =
          (op_is op of, λ x e. within x (ap (λ (s : Nodes). s x) (asked-seen r) ∙ e))
      current (Some op) Waiting of within = op_is op of
      current (Some op) (Writing s reply) of within = within
      current (Some op) (Joining k m) of within = tt

  -- the members but another one have a boss
  has_boss : (f : ℕ) (l : Letter) → IsSaidBy h.world h.name f l
      → HasBoss n world f l (begun (node_of h))
  has_boss f Down said = of_world h.world h.members whole.members boss (others (boss == f)
      (greatest-within n (without_node f (set_of h.members)) h.name
      (below_bound h.world h.name is_here) (stays (h.name == f) refl)))
    where
      boss : ℕ
      boss = greatest n (without_node f (set_of h.members))

      others : (b : Bool) → (if b then false else set_of h.members boss) ≡ true → set_of h.members boss ≡ true
      others true e = cc
      others false e = e

      same : (h.name == f) ≡ true → (f == h.name) ≡ true
      same e = eq-eqb f h.name (sym (eqb-true h.name f e))

      never : (h.name == f) ≡ true → ⊥
      never e = true_false (sym (same e) ∙ said.1)
        where
          true_false : true ≡ false → ⊥
          true_false q = cc

      stays : (b : Bool) → (h.name == f) ≡ b → (if b then false else set_of h.members h.name) ≡ true
      stays true e = absurd (never e)
      stays false e = whole.self
  has_boss f (Admit body) said = (
    said,
    of boss (boss == body.joiner) refl
        (greatest-within n (with_node body.joiner (set_of h.members)) h.name
        (below_bound h.world h.name is_here) (stays (h.name == body.joiner))),
  )
    where
      boss : ℕ
      boss = greatest n (with_node body.joiner (set_of h.members))

      stays : (b : Bool) → (if b then true else set_of h.members h.name) ≡ true
      stays true = refl
      stays false = whole.self

      of : (x : ℕ) (b : Bool) → (x == body.joiner) ≡ b → (if b then true else set_of h.members x) ≡ true
          → world x ≡ true
      of x true same e = ap world (eqb-true x body.joiner same) ∙ said
      of x false other e = of_world h.world h.members whole.members x e
  has_boss f (Welcome body) said = (
    said.members,
    said.told,
    said.rising,
    said.members boss (both (set_of body.value.members boss) _
        (greatest-within n (staying (set_of body.value.members) (with_older body.value.told) (begun (node_of h)))
        h.name (below_bound h.world h.name is_here)
        (stays (set_of body.value.members h.name) (with_older h.told h.name) (with_older body.value.told h.name) said.self
        (whole.apart h.name whole.self) said.here))),
  )
    where
      boss : ℕ
      boss = greatest n
          (staying (set_of body.value.members) (with_older body.value.told) (begun (node_of h)))

      both : (b d : Bool) → (b && d) ≡ true → b ≡ true
      both true d e = refl
      both false d e = e

      stays : (b t g : Bool) → b ≡ true → t ≡ false → g ≡ false → (b && not (t || g)) ≡ true
      stays true false false e f q = refl
      stays false t g e f q = cc
      stays true true g e f q = cc
      stays true false true e f q = cc
  has_boss f (JoinAsk pairs) said = tt
  has_boss f JoinRefused said = tt
  has_boss f (SetLock id p) said = tt
  has_boss f (LockAnswer id p g) said = tt
  has_boss f (GiveBack id p ack) said = tt
  has_boss f (GivenBack p) said = tt
  has_boss f (ReleaseOf p) said = tt
  has_boss f (Apply change) said = tt
  has_boss f Applied said = tt

  -- a call's contact has started
  asked_of : (c : Call) → IsAskedWithin h.world c → IsAskedOf world c
  asked_of Spawn of = tt
  asked_of (Whereis x) of = tt
  asked_of RegisteredNames of = tt
  asked_of (Notices p) of = tt
  asked_of (Register e) of = tt
  asked_of (ReRegister e) of = tt
  asked_of (Unregister x) of = tt
  asked_of (SetsLock p id nodes retries) of = tt
  asked_of (DeletesLock p id nodes) of = tt
  asked_of (JoinBy m) of = of

  -- an event's turn sends to nodes that have started
  turn_within : (number : ℕ → ℕ) (e : Event) (u : Turn) → IsHeardWithin h.world h.name e → IsTurn number e h u
      → GoTo h.name world u.sends
  turn_within number (Calls c) u heard is = subst (λ (v : Turn). GoTo h.name world v.sends) (sym (is heard))
      (starts (call n h.name (h.last_call + 1) (call_of c) (begun (node_of h)))
      (calls_for (h.last_call + 1) c (begun (node_of h)) (asked_of c heard) opens_within)).sends
  turn_within number Retry u heard is = subst (λ (v : Turn). GoTo h.name world v.sends) (sym is)
      (retries (begun (node_of h)) opens_within).sends
  turn_within number (Exit p) u heard is = subst (λ (v : Turn). GoTo h.name world v.sends) (sym is)
      (exits p (begun (node_of h)) opens_within).sends
  turn_within number Leave u heard is = subst (λ (v : Turn). GoTo h.name world v.sends) (sym is)
      (leaves (set_of h.world) (held h.world) (begun (node_of h)) opens_within).sends
  turn_within number (FromPeer f l) u heard is = subst (λ (v : Turn). GoTo h.name world v.sends) (sym (is heard.1))
      (receives number f l (begun (node_of h)) heard.0 (has_boss f l heard.1) opens_within).sends

  -- what is sent so may be heard
  said : (t : ℕ) (l : Letter) → IsFit h.name world t (letter_of l) → IsSaidBy h.world t h.name l
  said t (JoinAsk pairs) fit = held h.world h.name is_here
  said t (Admit body) fit = fit
  said t (Welcome body) fit =
      record { members = fit.0; told = fit.1; self = fit.2; here = fit.3; rising = fit.4 }
  said t Down fit = (
    held h.world h.name is_here,
    ne_eqb h.name t (λ same. true_false (sym (eq-eqb t h.name (sym same)) ∙ fit)),
  )
    where
      true_false : true ≡ false → ⊥
      true_false q = cc
  said t (SetLock id p) fit = tt
  said t (LockAnswer id p g) fit = tt
  said t (GiveBack id p ack) fit = tt
  said t (GivenBack p) fit = tt
  said t (ReleaseOf p) fit = tt
  said t (Apply change) fit = tt
  said t Applied fit = tt
  said t JoinRefused fit = tt

  -- so do the letters that it is made of
  pub sends_within : (number : ℕ → ℕ) (e : Event) (k : CoreState) (made : Made) → IsHeardWithin h.world h.name e
      → IsTurn number e h (turn_by number k made) → GoWithin h.world h.name made.letters
  sends_within number e k made heard is = λ i d l.
      let sent : IsSent h.name world (send_of (get_or made.letters i d)) =
      subst (IsSent h.name world) (get_or-map send_of made.letters i d (send_of d) l)
      (turn_within number e (turn_by number k made) heard is i (send_of d)
      (omega (arith, l, length-map made.letters send_of))) in
      (sent.0, said (get_or made.letters i d).0 (get_or made.letters i d).1 sent.1)
