-- What each rule makes of the lock calls of its node, and what is kept of their phases.
use mathlib.Core.Logic.{◌⊎◌}
use Rattle.std.proofs.Common.{ℕ, Bool, true, false, ◌≡◌, Some, None, List, refl, sym, ap, ◌∙◌, subst, inl, inr}
use Rattle.std.specs.Prelude.{◌&&◌, not, if◌then◌else◌}
use Rattle.std.proofs.lemmas.Bool.{eqb-true}
use Rattle.registry_model.specs.Process.{Process, is_process, at}
use Rattle.protocol_model.specs.Round.{answer, opens, rest, begin, down}
use Rattle.protocol_model.specs.Letter.{Letter, Global}
use Rattle.protocol_model.specs.LockTable.{is_free_for, grant}
use Rattle.protocol_model.specs.Watch.{is_live}
use Rattle.protocol_model.specs.Node.{Node, Op, Current, LockPhase, LockCall, call_of, put_call, drop_call, targets}
use Rattle.protocol_model.specs.Turn.{begun, at_work, with_locks, keep_call, send_all, send}
use Rattle.protocol_model.specs.Registrar.{registrar}
use Rattle.protocol_model.specs.Client.{in_phase, close_call, give_lock, is_spent}
use Rattle.protocol_model.specs.World.{Opening, World}
use Rattle.headline.proofs.Rules
use Rattle.headline.proofs.Rules.{Rule, IsNew, IsRetried, IsOpen, is_ordered}
use Rattle.walk.proofs.Events.{live_own}
use Rattle.headline.proofs.Calls.{call_of-put, call_of-drop, home_of_call}

-- one call is put, or one ends
pub data CallStep : Type 0 where
  Same : CallStep
  Puts : (call : LockCall) → CallStep
  Drops : (holder : Process) → CallStep

abbrev pub after_call_step : CallStep → List LockCall → List LockCall
after_call_step Same cs = cs
after_call_step (Puts c) cs = put_call c cs
after_call_step (Drops p) cs = drop_call p cs

abbrev pub step_of : ℕ → Node → Rule → CallStep
step_of n v (Rules.Exits p) = Drops p
step_of n v (Rules.Kills f l p receivers) = Drops p
step_of n v (Rules.AsksLock c) = Puts
    (in_phase (LockPhase.Asking (begin n (targets v.replica.members c.target))) c)
step_of n v (Rules.FailsLock c) = Drops c.holder
step_of n v (Rules.HearsLock f id granted c r) = Puts (in_phase (LockPhase.Asking (answer f granted r)) c)
step_of n v (Rules.MarksLockDown d c r) = Puts (in_phase (LockPhase.Asking (down d r)) c)
step_of n v (Rules.WinsLock c r) = Drops c.holder
step_of n v (Rules.GivesUpLock c r granted) =
    if is_spent c.retries then Drops c.holder else Puts (in_phase LockPhase.Waiting c)
step_of n v (Rules.DeletesLock c) = Puts
    (in_phase (LockPhase.Deleting (targets v.replica.members c.target)) c)
step_of n v (Rules.DeletesNothing c) = Drops c.holder
step_of n v (Rules.CountsGivenBack f c owing) = Puts (in_phase (LockPhase.Deleting (at owing f false)) c)
step_of n v (Rules.EndsDeletion f c owing) = Drops c.holder
step_of n v (Rules.CountsLockDown d c owing) = Puts (in_phase (LockPhase.Deleting (at owing d false)) c)
step_of n v (Rules.EndsDeletionDown d c owing) = Drops c.holder
step_of n v _ = Same

-- what is to be known of a call that is put
abbrev pub StepOk : (LockCall → Type 0) → CallStep → Type 0
StepOk P Same = Unit {0}
StepOk P (Puts c) = P c
StepOk P (Drops p) = Unit {0}

-- all open calls are in such phases
abbrev pub AllPhases : (LockPhase → Type 0) → List LockCall → Type 0
AllPhases P cs = (p : Process) (c : LockCall) → call_of p cs ≡ Some c → P c.phase

-- it stays so where a call that is put is in such a phase
pub phases_stepped : (P : LockPhase → Type 0) (a : ℕ) (cs : List LockCall) → is_ordered a cs ≡ true → (s : CallStep)
    → StepOk (λ c. c.holder.node ≡ a) s → StepOk (λ c. P c.phase) s → AllPhases P cs → AllPhases P (after_call_step s cs)
phases_stepped P a cs sorted Same home ok all = all
phases_stepped P a cs sorted (Puts d) home ok all = λ p c e. go p c (is_process d.holder p)
    (sym (call_of-put a p d cs home sorted) ∙ e)
  where
    go : (p : Process) (c : LockCall) (b : Bool) → (if b then Some d else call_of p cs) ≡ Some c → P c.phase
    go p c true k = let same : d ≡ c = cc k in subst (λ (x : LockCall). P x.phase) same ok
    go p c false k = all p c k
phases_stepped P a cs sorted (Drops q) home ok all = λ p c e. go p c (is_process q p) (sym (call_of-drop p q cs) ∙ e)
  where
    go : (p : Process) (c : LockCall) (b : Bool) → (if b then None else call_of p cs) ≡ Some c → P c.phase
    go p c true k = cc
    go p c false k = all p c k

module _ (o : Opening) (a : ℕ) (w : World) where
  abbrev v : Node
  v = w.node a

  pub calls_turn : (r : Rule) → (Rules.turn_by o a w r).node.calls ≡ after_call_step (step_of o.bound v r) v.calls
  calls_turn (Rules.HearsAnswer f id granted op r) = go (opens f granted r)
    where
      go : (t : Bool) → (at_work (Current.Asking op (answer f granted r))
          (if t then send_all o.bound (λ y. rest r y && not (v.replica.told y)) (Letter.SetLock (Global a) (registrar a))
          (begun v) else begun v)).node.calls ≡ v.calls
      go true = refl
      go false = refl
  calls_turn (Rules.HearsLock f id granted c r) = go (opens f granted r)
    where
      go : (t : Bool) → (keep_call (in_phase (LockPhase.Asking (answer f granted r)) c)
          (if t then send_all o.bound (λ y. rest r y && not (v.replica.told y)) (Letter.SetLock c.id c.holder)
          (begun v) else begun v)).node.calls ≡ put_call (in_phase (LockPhase.Asking (answer f granted r)) c) v.calls
      go true = refl
      go false = refl
  calls_turn (Rules.GivesUpLock c r granted) = go (is_spent c.retries)
    where
      go : (t : Bool) → (if t then close_call o.bound a c false (give_lock o.bound a c granted (begun v))
          else keep_call (in_phase LockPhase.Waiting c) (give_lock o.bound a c granted (begun v))).node.calls
          ≡ after_call_step (if t then Drops c.holder else Puts (in_phase LockPhase.Waiting c)) v.calls
      go true = refl
      go false = refl
  calls_turn (Rules.Judges f id p) = go (is_free_for id p v.locks)
    where
      go : (t : Bool) → (send f (Letter.LockAnswer id p t)
          (if t then with_locks (grant id p) (begun v) else begun v)).node.calls ≡ v.calls
      go true = refl
      go false = refl
  calls_turn (Rules.TakesBack f id p true) = refl
  calls_turn (Rules.TakesBack f id p false) = refl
  calls_turn (Rules.Finishes (Op.Name k call) asked awaited (Some reply)) = refl
  calls_turn _ = refl

  live_home : (p : Process) → is_live a v.watch p ≡ true → p.node ≡ a
  live_home p h = eqb-true p.node a (live_own a v.watch p h).0

  open_home : is_ordered a v.calls ≡ true → (c : LockCall) (now : LockPhase) → IsOpen v c now → c.holder.node ≡ a
  open_home sorted c now e = home_of_call a c.holder v.calls c sorted e.call

  begun_home : is_ordered a v.calls ≡ true → (c : LockCall) → IsNew a v c ⊎ IsRetried v c → c.holder.node ≡ a
  begun_home sorted c (inl e) = live_home c.holder e.live
  begun_home sorted c (inr e) = sym (ap (λ (p : Process). p.node) e.holder)
      ∙ home_of_call a c.holder v.calls e.before sorted e.open_call

  -- a call that is put is of its node
  pub put_home : is_ordered a v.calls ≡ true → (r : Rule) → Rules.Tested o a w v r
      → StepOk (λ c. c.holder.node ≡ a) (step_of o.bound v r)
  put_home sorted (Rules.AsksLock c) m = begun_home sorted c m.0
  put_home sorted (Rules.HearsLock f id granted c r) m = open_home sorted c (LockPhase.Asking r) m.2
  put_home sorted (Rules.MarksLockDown d c r) m = open_home sorted c (LockPhase.Asking r) m.1
  put_home sorted (Rules.GivesUpLock c r granted) m = go (is_spent c.retries)
    where
      go : (b : Bool) → StepOk (λ c. c.holder.node ≡ a)
          (if b then Drops c.holder else Puts (in_phase LockPhase.Waiting c))
      go true = tt
      go false = open_home sorted c (LockPhase.Asking r) m.0
  put_home sorted (Rules.DeletesLock c) m = live_home c.holder m.0.live
  put_home sorted (Rules.CountsGivenBack f c owing) m = open_home sorted c (LockPhase.Deleting owing) m.1
  put_home sorted (Rules.CountsLockDown d c owing) m = open_home sorted c (LockPhase.Deleting owing) m.1
  put_home sorted r m = tt
