-- Why a lock call is refused.
use Rattle.std.proofs.Common.{ℕ, Bool, true, false, ◌==◌, ◌≡◌, Option, Some, None, List, [], ◌∷◌, ◌++◌, refl, sym, ap, ◌∙◌, subst, Bor}
use Rattle.std.specs.Prelude.{not, if◌then◌else◌, is_some}
use Rattle.std.specs.Bool.{then_some}
use Rattle.std.specs.Option.{option_or, option_map, option_copied}
use Rattle.registry_model.specs.Process.{Text, Process}
use Rattle.protocol_model.specs.Event.{Refusal, Cause, first_cause, lock_causes, global_resource}
use Rattle.protocol_model.specs.Event as refused
use Rattle.protocol_model.specs.Node.{call_of}
use Rattle.protocol_model.specs.Watch.{is_live}
use Rattle.term.specs.LockIds.{global_text}
use Rattle.node_events.specs.declared.events.StepFault.{StepFault}
use Rattle.node_events.specs.declared.events.StepFault.TheVariants.{NotLive, Busy, Reserved, UnknownNode, AlreadyJoined, NoSuchProcess, AlreadyExited, SerialsSpent, NothingToRetry, HoldsLock, CallsSpent, Memory}
use Rattle.node_core.specs.CoreState.{CoreState, IsWhole}
use Rattle.node_core.specs.Seen.{node_of}
use Rattle.node_events.specs.Seen.{fault_of}
use Rattle.node_core.specs.Steps.{cause_of}

-- the text `global` is the resource's
pub is_global : global_text ≡ global_resource
unfolding global_text
is_global = refl

-- the causes of a lock call, by what holds of them
abbrev first_of_lock : Process → Bool → Bool → Bool → Option Refusal
first_of_lock p live busy reserved =
    if not live then Some (refused.NotLive p)
    else (if busy then Some (refused.Busy p) else (if reserved then Some refused.Reserved else None))

-- a live process with no call is refused where the resource is `global`
pub reserves : (h k : CoreState) (p : Process) (r g : Text) → IsWhole k → k ≡ h
    → is_live k.watch.node k.watch.watch p ≡ true → is_some (call_of p (node_of k).calls) ≡ false → g ≡ global_text
    → cause_of (then_some (r == g) Reserved) ≡ first_cause (lock_causes h.name (node_of h) p r)
reserves h k p r g whole same live free global =
    subst (λ (x : CoreState). cause_of (then_some (r == g) Reserved) ≡ first_cause (lock_causes x.name (node_of x) p r)) same
    (subst (λ (a : ℕ). cause_of (then_some (r == g) Reserved) ≡ first_cause (lock_causes a (node_of k) p r)) whole.watch
    (ap (λ (t : Text). cause_of (then_some (r == t) Reserved)) (global ∙ is_global) ∙ go (r == global_resource)
    ∙ sym (ap (λ (b : Bool). first_of_lock p b (is_some (call_of p (node_of k).calls)) (r == global_resource)) live
    ∙ ap (λ (b : Bool). first_of_lock p true b (r == global_resource)) free)))
  where
    go : (b : Bool) → cause_of (then_some b Reserved) ≡ (if b then Some refused.Reserved else None)
    go true = refl
    go false = refl

-- a fault that isn't want of memory is a refusal
refusal_is : (f : StepFault) → (Some f ≡ Some Memory → ⊥) → (r : Refusal) × (fault_of f ≡ Some r)
refusal_is (NotLive p) not = (refused.NotLive p, refl)
refusal_is (Busy p) not = (refused.Busy p, refl)
refusal_is Reserved not = (refused.Reserved, refl)
refusal_is UnknownNode not = (refused.UnknownNode, refl)
refusal_is AlreadyJoined not = (refused.AlreadyJoined, refl)
refusal_is NoSuchProcess not = (refused.NoSuchProcess, refl)
refusal_is AlreadyExited not = (refused.AlreadyExited, refl)
refusal_is SerialsSpent not = (refused.SerialsSpent, refl)
refusal_is NothingToRetry not = (refused.NothingToRetry, refl)
refusal_is HoldsLock not = (refused.HoldsLock, refl)
refusal_is CallsSpent not = (refused.CallsSpent, refl)
refusal_is Memory not = absurd (not refl)

-- the first of these causes and of others is the first of these, if there is one
first_with : (cs ds : List Cause) (r : Refusal) → Some r ≡ first_cause cs → Some r ≡ first_cause (cs ++ ds)
first_with [] ds r is = cc
first_with (c ∷ cs) ds r is = go c.stands (first_with cs ds r) is
  where
    go : (b : Bool) → (Some r ≡ first_cause cs → Some r ≡ first_cause (cs ++ ds))
        → Some r ≡ (if b then Some c.refusal else first_cause cs)
        → Some r ≡ (if b then Some c.refusal else first_cause (cs ++ ds))
    go true rest e = e
    go false rest e = rest e

-- where there is none of these, it is the first of the others
first_without : (cs ds : List Cause) → None ≡ first_cause cs → first_cause ds ≡ first_cause (cs ++ ds)
first_without [] ds is = refl
first_without (c ∷ cs) ds is = go c.stands (first_without cs ds) is
  where
    go : (b : Bool) → (None ≡ first_cause cs → first_cause ds ≡ first_cause (cs ++ ds))
        → None ≡ (if b then Some c.refusal else first_cause cs)
        → first_cause ds ≡ (if b then Some c.refusal else first_cause (cs ++ ds))
    go true rest e = cc
    go false rest e = rest e

-- a fault for one of these causes is the first of these and of others
pub faults_first : (cs ds : List Cause) (f : StepFault) → (Some f ≡ Some Memory → ⊥) → fault_of f ≡ first_cause cs
    → fault_of f ≡ first_cause (cs ++ ds)
faults_first cs ds f not is =
    let r = refusal_is f not in r.1 ∙ first_with cs ds r.0 (sym r.1 ∙ is)

-- so it is where a fault is looked for among the others next
pub faults_next : (cs ds : List Cause) (o p : Option StepFault) → (o ≡ Some Memory → ⊥) → cause_of o ≡ first_cause cs
    → cause_of p ≡ first_cause ds → cause_of (option_or o p) ≡ first_cause (cs ++ ds)
faults_next cs ds None p not first next = next ∙ first_without cs ds first
faults_next cs ds (Some f) p not first next = faults_first cs ds f not first

-- whether a call was found
pub is_found : {X Y : Type 0} (f : X → Y) (o : Option (Bor X)) → is_some (option_map f (option_copied o)) ≡ is_some o
is_found f None = refl
is_found f (Some x) = refl
