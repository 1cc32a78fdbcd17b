-- Each rule that moves an open lock call on or ends it: what becomes of the call, what is answered, and what is
-- counted.
use Rattle.std.proofs.Common.{ℕ, Bool, true, false, ◌==◌, ◌≡◌, Option, Some, None, [], ◌∷◌, refl, sym, ap, ◌∙◌, subst, inl, inr}
use Rattle.std.specs.Prelude.{not, ◌&&◌, ◌||◌, if◌then◌else◌}
use mathlib.Core.Logic.{◌⊎◌}
use Rattle.registry_model.specs.Process.{Process, is_process, Nodes, at}
use Rattle.registry_model.specs.Call.{True}
use Rattle.protocol_model.specs.Letter.{Id, is_id, Letter}
use Rattle.protocol_model.specs.Round.{Mark, Out, Later, Owes, Round, is_out, is_owes, asked, asked_too, begin, greatest, owes, answer, down, mark_down}
use Rattle.registry_model.proofs.Updates.{by_test}
use Rattle.protocol_model.specs.Node.{LockPhase, LockCall, call_of, put_call}
use Rattle.protocol_model.specs.Event.{is_waiting_call}
use Rattle.protocol_model.specs.Turn.{Turn, begun, keep_call}
use Rattle.protocol_model.specs.Client.{in_phase, close_call, give_lock, is_spent}
use Rattle.protocol_model.specs.World.{Opening, World}
use Rattle.moves.proofs.Rules.{Rule, Taken, May, Ordered, IsOpen, effect, turn_by, takes}
use Rattle.moves.proofs.Rules.Rule.{HearsLock, MarksLockDown, WinsLock, GivesUpLock, CountsGivenBack, EndsDeletion, CountsLockDown, EndsDeletionDown}
use Rattle.client_locks.proofs.RoundNumbers.{is_tried}
use Rattle.client_locks.proofs.Calls.{call_of-drop, home_of_call}
use Rattle.client_locks.proofs.Rounds.{mark_by, Answered, Own, Stays, Opened, mark_answered}
use Rattle.client_locks.proofs.Mail.{turned}
use Rattle.client_locks.proofs.Clients.{Numbers, call_at}
use Rattle.client_locks.proofs.Numbers.{num_by, plus_if}
use Rattle.client_locks.proofs.Calling.{calls_put}
use Rattle.client_locks.proofs.Growing.{Replying, same_ask_rest}
use Rattle.client_locks.proofs.Answering.{any_true, not_true_answers}
use Rattle.client_locks.proofs.Steps.{is_step, call_after}

-- the call, if there is one, is a try of this id at x
abbrev pub call_tries : Id → ℕ → Option LockCall → Bool
call_tries id x None = false
call_tries id x (Some c) = is_tried id x c

-- nothing is tried: there is no call, or it waits for a retry
abbrev pub call_rests : Option LockCall → Bool
call_rests None = true
call_rests (Some c) = is_waiting_call c.phase

-- the call is a deletion
abbrev pub is_deleting : LockPhase → Bool
is_deleting (LockPhase.Deleting owing) = true
is_deleting _ = false

-- d is c, further on: the same call, and a deletion where it was one
abbrev pub GoesOnFrom : LockCall → LockCall → Type 0
GoesOnFrom c d =
    (d.number ≡ c.number) × (d.holder ≡ c.holder) × (d.id ≡ c.id) × (d.target ≡ c.target)
    × (is_deleting d.phase ≡ is_deleting c.phase)

-- a call in another phase is the same call
phase_goes_on : (c : LockCall) (phase : LockPhase) → is_deleting phase ≡ is_deleting c.phase → (d : LockCall)
    → Some (in_phase phase c) ≡ Some d → GoesOnFrom c d
phase_goes_on c phase h d e =
    let one : in_phase phase c ≡ d = cc e in subst (GoesOnFrom c) one (refl, refl, refl, refl, h)

-- what the rule r at node a, which changes num to num2, does to one open call
pub record Step (o : Opening) (a : ℕ) (r : Rule) (w : World) (num : Numbers) : Type 0 where
  pub call : LockCall
  pub home : call.holder.node ≡ a
  pub found : call_at w call.holder ≡ Some call
  pub busy : is_waiting_call call.phase ≡ false
  pub next : Option LockCall
  pub same : (d : LockCall) → next ≡ Some d → GoesOnFrom call d
  pub calls : (p : Process) → call_at (effect o a r w) p ≡ (if is_process call.holder p then next else call_at w p)
  pub ended : Bool
  pub answers : (b m : ℕ) → any_true b m (turn_by o a w r).answers ≡ (ended && ((a == b) && (call.number == m)))
  pub nums : (p : Process) (id : Id) (x : ℕ) → num_by a r w num p id x ≡ plus_if
      (is_process call.holder p && (ended && is_tried id x call)) (num p id x)
  -- it goes on as the same try, or tries nothing any more
  pub goes : (((id : Id) (x : ℕ) → call_tries id x next ≡ is_tried id x call) × (ended ≡ false)) ⊎ (call_rests next ≡ true)

-- whom a round asks doesn't change by answers and departures
out_too : (m : Mark) → is_out (asked_too m) ≡ is_out m
out_too Later = refl
out_too _ = refl

out_down : (m : Mark) → is_out (mark_down m) ≡ is_out m
out_down Out = refl
out_down _ = refl

owes_not_out : (m : Mark) → is_owes m ≡ true → is_out m ≡ false
owes_not_out Owes h = refl
owes_not_out _ h = cc

out_by : (g : Bool) → is_out (mark_by g) ≡ false
out_by true = refl
out_by false = refl

pub asked_answer : (f : ℕ) (g : Bool) (r : Round) → owes r f ≡ true → (x : ℕ) → asked (answer f g r) x ≡ asked r x
asked_answer f g r owed x = ap not (go ((answer f g r).mark x) (mark_answered f g r owed x))
  where
    go : (m : Mark) → Answered f g x (r.mark x) m → is_out m ≡ is_out (r.mark x)
    go m (Own e) = out_by g ∙ sym (ap (λ (y : ℕ). is_out (r.mark y)) e ∙ owes_not_out (r.mark f) owed)
    go m Stays = refl
    go m Opened = out_too (r.mark x)

pub asked_down : (d : ℕ) (r : Round) (x : ℕ) → asked (down d r) x ≡ asked r x
asked_down d r x = ap not (by_test d (λ y t. is_out (if t then mark_down (r.mark d) else r.mark y) ≡ is_out (r.mark y))
    (out_down (r.mark d)) (λ y ne. refl) x)

-- a round that begins asks those that it begins over
pub asked_begin : (n : ℕ) (s : Nodes) (x : ℕ) → asked (begin n s) x ≡ s x
asked_begin n s x = go (s x) (x == greatest n s)
  where
    go : (b e : Bool) → not (is_out (if b then (if e then Owes else Later) else Out)) ≡ b
    go true true = refl
    go true false = refl
    go false e = refl

-- a try, by the phase
abbrev pub tried_in : Id → Id → ℕ → LockPhase → Bool
tried_in j id x f = is_id j id && (elim f [ LockPhase.Asking r ↦ asked r x | _ ↦ false ])

no_plus : (b c : Bool) (k : ℕ) → k ≡ plus_if (b && (false && c)) k
no_plus true c k = refl
no_plus false c k = refl

no_plus_end : (b c : Bool) (k : ℕ) → k ≡ plus_if (b && (true && (c && false))) k
no_plus_end true true k = refl
no_plus_end true false k = refl
no_plus_end false c k = refl

and_true : (b c : Bool) → (((b && c) && true) || false) ≡ (true && (b && c))
and_true true true = refl
and_true true false = refl
and_true false c = refl

module _ (o : Opening) (a : ℕ) (w : World) (num : Numbers) (order : Ordered w) (R : Replying w) where
  module _ (c : LockCall) (now : LockPhase) (open_call : IsOpen (w.node a) c now) where
    home : c.holder.node ≡ a
    home = home_of_call a c.holder (w.node a).calls c (order a) open_call.call

    found : call_at w c.holder ≡ Some c
    found = ap (λ (i : ℕ). call_of c.holder (w.node i).calls) home ∙ open_call.call

    busy_by : is_waiting_call now ≡ false → is_waiting_call c.phase ≡ false
    busy_by h = ap is_waiting_call open_call.phase ∙ h

    tried_by : (id : Id) (x : ℕ) → is_tried id x c ≡ tried_in c.id id x now
    tried_by id x = ap (tried_in c.id id x) open_call.phase

    -- the call goes on in another phase, as the same try
    goes_on : (r : Rule) (t : Option Taken) (u : Turn) (phase : LockPhase) → effect o a r w ≡ turned a t u w
        → is_waiting_call now ≡ false → is_deleting phase ≡ is_deleting now
        → u.node.calls ≡ put_call (in_phase phase c) (w.node a).calls
        → ((b m : ℕ) → any_true b m (turn_by o a w r).answers ≡ false)
        → ((p : Process) (id : Id) (x : ℕ) → num_by a r w num p id x ≡ num p id x)
        → ((id : Id) (x : ℕ) → tried_in c.id id x phase ≡ tried_in c.id id x now) → Step o a r w num
    goes_on r t u phase is busy deleting calls answers nums tried = record {
      call = c;
      home = home;
      found = found;
      busy = busy_by busy;
      next = Some (in_phase phase c);
      same = phase_goes_on c phase (deleting ∙ sym (ap is_deleting open_call.phase));
      calls = λ p. ap (λ (w1 : World). call_at w1 p) is ∙ call_after a t u w c.holder (Some (in_phase phase c)) home
          (λ k. ap (call_of k) calls ∙ calls_put a w order (in_phase phase c) home k) p;
      ended = false;
      answers = answers;
      nums = λ p id x. nums p id x ∙ no_plus (is_process c.holder p) (is_tried id x c) (num p id x);
      goes = inl ((λ id x. tried id x ∙ sym (tried_by id x)), refl);
    }

    -- the call is answered `true`
    ends : (r : Rule) (t : Option Taken) → effect o a r w ≡ turned a t
        (close_call o.bound a c true (begun (w.node a))) w → is_waiting_call now ≡ false
        → (turn_by o a w r).answers ≡ record { node = a; number = c.number; reply = True } ∷ []
        → ((p : Process) (id : Id) (x : ℕ) → num_by a r w num p id x ≡ plus_if
        (is_process c.holder p && (true && is_tried id x c)) (num p id x)) → Step o a r w num
    ends r t is busy answers nums = record {
      call = c;
      home = home;
      found = found;
      busy = busy_by busy;
      next = None;
      same = λ d e. cc;
      calls = λ p. ap (λ (w1 : World). call_at w1 p) is ∙ call_after a t
          (close_call o.bound a c true (begun (w.node a))) w c.holder None home
          (λ k. call_of-drop k c.holder (w.node a).calls) p;
      ended = true;
      answers = λ b m. ap (any_true b m) answers ∙ and_true (a == b) (c.number == m);
      nums = nums;
      goes = inr refl;
    }

  pub call_stepped : (r : Rule) → is_step r ≡ true → May o a w r → Step o a r w num
  call_stepped (HearsLock f id g c r) h m = goes_on c (LockPhase.Asking r) m.tested.2 (HearsLock f id g c r)
      (takes o a (HearsLock f id g c r)) (turn_by o a w (HearsLock f id g c r))
      (LockPhase.Asking (answer f g r)) refl refl refl
      (ap (put_call (in_phase (LockPhase.Asking (answer f g r)) c))
      (same_ask_rest o.bound a f g (Letter.SetLock c.id c.holder) r (w.node a)).calls)
      (λ b i. not_true_answers o a w b i (HearsLock f id g c r) refl m R) (λ p j x. refl)
      (λ j x. ap (λ (b : Bool). is_id c.id j && b) (asked_answer f g r m.tested.3 x))
  call_stepped (MarksLockDown d c r) h m = goes_on c (LockPhase.Asking r) m.tested.1 (MarksLockDown d c r) None
      (turn_by o a w (MarksLockDown d c r)) (LockPhase.Asking (down d r)) refl refl refl refl
      (λ b i. refl) (λ p j x. refl) (λ j x. ap (λ (b : Bool). is_id c.id j && b) (asked_down d r x))
  call_stepped (CountsGivenBack f c owing) h m = goes_on c (LockPhase.Deleting owing) m.tested.1 (CountsGivenBack f c owing)
      (takes o a (CountsGivenBack f c owing)) (turn_by o a w (CountsGivenBack f c owing))
      (LockPhase.Deleting (at owing f false)) refl refl refl refl
      (λ b i. refl) (λ p j x. refl) (λ j x. refl)
  call_stepped (CountsLockDown d c owing) h m = goes_on c (LockPhase.Deleting owing) m.tested.1
      (CountsLockDown d c owing) None (turn_by o a w (CountsLockDown d c owing))
      (LockPhase.Deleting (at owing d false)) refl refl refl refl
      (λ b i. refl) (λ p j x. refl) (λ j x. refl)
  call_stepped (WinsLock c r) h m = ends c (LockPhase.Asking r) m.tested.0 (WinsLock c r) None refl refl refl
      (λ p id x. ap (λ (b : Bool). plus_if (is_process c.holder p && b) (num p id x))
      (sym (tried_by c (LockPhase.Asking r) m.tested.0 id x)))
  call_stepped (EndsDeletion f c owing) h m = ends c (LockPhase.Deleting owing) m.tested.1 (EndsDeletion f c owing)
      (takes o a (EndsDeletion f c owing)) refl refl refl
      (λ p id x. no_plus_end (is_process c.holder p) (is_id c.id id) (num p id x)
      ∙ ap (λ (b : Bool). plus_if (is_process c.holder p && (true && b)) (num p id x))
      (sym (tried_by c (LockPhase.Deleting owing) m.tested.1 id x)))
  call_stepped (EndsDeletionDown d c owing) h m = ends c (LockPhase.Deleting owing) m.tested.1
      (EndsDeletionDown d c owing) None refl refl refl
      (λ p id x. no_plus_end (is_process c.holder p) (is_id c.id id) (num p id x)
      ∙ ap (λ (b : Bool). plus_if (is_process c.holder p && (true && b)) (num p id x))
      (sym (tried_by c (LockPhase.Deleting owing) m.tested.1 id x)))
  call_stepped (GivesUpLock c r s) h m = go (is_spent c.retries) refl
    where
      spent_home : c.holder.node ≡ a
      spent_home = home c (LockPhase.Asking r) m.tested.0

      waiting : LockCall
      waiting = in_phase LockPhase.Waiting c

      u : Bool → Turn
      u b = if b then close_call o.bound a c false (give_lock o.bound a c s (begun (w.node a))) else keep_call
          (in_phase LockPhase.Waiting c) (give_lock o.bound a c s (begun (w.node a)))

      calls : (b : Bool) (k : Process) → call_of k (u b).node.calls ≡
          (if is_process c.holder k then (if b then None else Some waiting) else call_of k (w.node a).calls)
      calls true k = call_of-drop k c.holder (w.node a).calls
      calls false k = calls_put a w order (in_phase LockPhase.Waiting c) spent_home k

      go : (b : Bool) → is_spent c.retries ≡ b → Step o a (GivesUpLock c r s) w num
      go b e = record {
        call = c;
        home = spent_home;
        found = found c (LockPhase.Asking r) m.tested.0;
        busy = busy_by c (LockPhase.Asking r) m.tested.0 refl;
        next = if b then None else Some waiting;
        same = λ d. same b d;
        calls = λ p. ap (λ (t : Bool). call_at (turned a None (u t) w) p) e
            ∙ call_after a None (u b) w c.holder (if b then None else Some waiting) spent_home (calls b) p;
        ended = false;
        answers = λ i j. not_true_answers o a w i j (GivesUpLock c r s) refl m R;
        nums = λ p id x. no_plus (is_process c.holder p) (is_tried id x c) (num p id x);
        goes = inr (resting b);
      }
        where
          same : (b : Bool) (d : LockCall) → (if b then None else Some waiting) ≡ Some d → GoesOnFrom c d
          same true d e = cc
          same false d e = phase_goes_on c LockPhase.Waiting (sym (ap is_deleting m.tested.0.phase)) d e

          resting : (b : Bool) → call_rests (if b then None else Some waiting) ≡ true
          resting true = refl
          resting false = refl
  call_stepped _ h m = cc
