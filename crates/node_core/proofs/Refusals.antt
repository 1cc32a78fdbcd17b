-- Why a watch refuses an event, and why its node does.
use Rattle.std.proofs.Common.{ℕ, Bool, false, ◌≡◌, Option, Some, None, List, [], ◌∷◌, map, refl, sym, ap, ◌∙◌, subst}
use Rattle.std.specs.Prelude.{◌||◌, is_some}
use Rattle.std.specs.List.{list_any}
use Rattle.std.specs.Option.{MatchOption, IsSomeAnd}
use Rattle.protocol_model.specs.Event.{Event as AnyEvent, Refusal, causes, first_cause, is_join, is_joining, has_joined}
use Rattle.exit_watch.specs.declared.faults.WatchFault.{WatchFault}
use Rattle.exit_watch.specs.declared.faults.WatchFault.TheVariants as fault
use Rattle.exit_watch.specs.Faults.{Refuses, fault_of, cause_of as watch_cause_of}
use Rattle.transaction.specs.declared.op.Op.{Op}
use Rattle.transaction.specs.Ops.{op_of}
use Rattle.node_events.specs.declared.events.StepFault.{StepFault}
use Rattle.node_events.specs.declared.events.StepFault.TheVariants.{Memory}
use Rattle.node_core.specs.declared.node.Phase.{Phase}
use Rattle.node_core.specs.declared.node.Phase.TheVariants.{Asking, Waiting, Writing, Joining}
use Rattle.node_core.specs.CoreState.{CoreState, IsWhole}
use Rattle.node_core.specs.Seen.{node_of, current_of}
use Rattle.node_events.specs.Seen.{step_fault_of, fault_of as fault_of_step}
use Rattle.node_core.specs.Steps.{cause_of}

-- a node refuses an event as its watch does
pub refuses : (h k : CoreState) (e : AnyEvent) (refusal : Option Refusal) → IsWhole k → k ≡ h → Refuses e k.watch refusal
    → first_cause (causes h.name (node_of h) e) ≡ refusal
refuses h k e refusal whole same why =
    subst (λ (x : CoreState). first_cause (causes x.name (node_of x) e) ≡ refusal) same
    (subst (λ (a : ℕ). first_cause (causes a (node_of k) e) ≡ refusal) whole.watch (why (node_of k) refl))

-- a fault of the watch that is no refusal is want of memory
no_refusal : (f : WatchFault) → fault_of f ≡ None → step_fault_of f ≡ Memory
no_refusal fault.SerialsSpent e = cc
no_refusal fault.NoSuchProcess e = cc
no_refusal fault.AlreadyExited e = cc
no_refusal fault.Memory e = refl

-- so it is where the node doesn't refuse the event
pub wants_memory : (h k : CoreState) (e : AnyEvent) (f : WatchFault) → IsWhole k → k ≡ h → Refuses e k.watch (fault_of f)
    → first_cause (causes h.name (node_of h) e) ≡ None → step_fault_of f ≡ Memory
wants_memory h k e f whole same why accepted =
    no_refusal f (sym (refuses h k e (fault_of f) whole same why) ∙ accepted)

-- the fault of a step for the watch's, if there is one, stands for the same refusal
pub same_cause : (o : Option WatchFault) (r : Option StepFault)
    → MatchOption o (r ≡ None) (λ x. IsSomeAnd r (λ y. y ≡ step_fault_of x)) → watch_cause_of o ≡ cause_of r
same_cause None r is = ap cause_of (sym is)
same_cause (Some fault.SerialsSpent) (Some f) is = ap fault_of_step (sym is)
same_cause (Some fault.NoSuchProcess) (Some f) is = ap fault_of_step (sym is)
same_cause (Some fault.AlreadyExited) (Some f) is = ap fault_of_step (sym is)
same_cause (Some fault.Memory) (Some f) is = ap fault_of_step (sym is)
same_cause (Some x) None is = absurd is

-- want of memory isn't told, where the watch tells none
pub never_memory : (o : Option WatchFault) (r : Option StepFault)
    → MatchOption o (r ≡ None) (λ x. IsSomeAnd r (λ y. y ≡ step_fault_of x)) → (o ≡ Some fault.Memory → ⊥) → r ≡ Some Memory → ⊥
never_memory None r is none told = cc
never_memory (Some fault.SerialsSpent) (Some f) is none told = cc
never_memory (Some fault.NoSuchProcess) (Some f) is none told = cc
never_memory (Some fault.AlreadyExited) (Some f) is none told = cc
never_memory (Some fault.Memory) (Some f) is none told = none refl
never_memory (Some x) None is none told = absurd is

-- no join is current, where the phase is none
pub no_join_stands : (o : Option Op) (awaited : List ℕ) (p : Phase) → ((k m : ℕ) → p ≡ Joining k m → ⊥)
    → is_joining (current_of o awaited p) ≡ false
no_join_stands None awaited p none = refl
no_join_stands (Some op) awaited (Asking r) none = refl
no_join_stands (Some op) awaited Waiting none = refl
no_join_stands (Some op) awaited (Writing asked reply) none = refl
no_join_stands (Some op) awaited (Joining k m) none = absurd (none k m refl)

-- nothing is current
pub none_is_current : (o : Option Op) (awaited : List ℕ) (p : Phase) → is_some o ≡ false
    → is_joining (current_of o awaited p) ≡ false
none_is_current None awaited p none = refl
none_is_current (Some op) awaited p none = cc

-- a lone node with no current join has one where one waits
pub joins_where_waiting : (h0 h : CoreState) (waits : Bool) → h0 ≡ h → h0.joined ≡ false
    → is_joining (node_of h0).current ≡ false → waits ≡ list_any (λ op. is_join (op_of op)) h0.registrar.queue
    → waits ≡ has_joined (node_of h)
joins_where_waiting h0 h waits same lone none is =
    subst (λ (x : CoreState). waits ≡ has_joined (node_of x)) same (is ∙ all h0.registrar.queue
    ∙ ap (λ (b : Bool). b || list_any is_join (map op_of h0.registrar.queue)) (sym none)
    ∙ ap (λ (b : Bool). b || is_joining (node_of h0).current || list_any is_join (map op_of h0.registrar.queue))
    (sym lone))
  where
    all : (ops : List Op) → list_any (λ op. is_join (op_of op)) ops ≡ list_any is_join (map op_of ops)
    all [] = refl
    all (op ∷ ops) = ap (λ (b : Bool). is_join (op_of op) || b) (all ops)
