-- A call that there is no memory to make, by what the world has against it.
use Rattle.std.proofs.Common.{ℕ, true, ◌≡◌, ◌∙◌, Option, Some, None, refl, sym, ap, subst, inl}
use Rattle.std.specs.Prelude.{Result, Ok, Err, IfOk, IfErr}
use Rattle.std.specs.Result.{result_err}
use Rattle.registry_model.specs.Process.{Process}
use Rattle.getting_through.specs.NamedWorld.{named_refusal}
use Rattle.term.specs.declared.lock_id.LockId.{LockId}
use Rattle.transaction.specs.declared.nodes.Nodes.{Nodes}
use Rattle.transaction.specs.declared.nodes.Nodes.TheVariants.{All}
use Rattle.node_core.specs.declared.Call.{Call}
use Rattle.node_core.specs.declared.Call.TheVariants.{DelLock}
use Rattle.world_events.specs.declared.events.LocalEvent.TheVariants.{Call as Calls}
use Rattle.world_events.specs.declared.events.WorldEvent.TheVariants.{At}
use Rattle.world_events.specs.declared.refusal.Refusal.{Refusal}
use Rattle.world_events.specs.Events.{named_event}
use Rattle.cluster_world.specs.WorldState.{WorldState}
use Rattle.cluster_world.specs.Playing.{RefusedWith}
use Rattle.cluster_world.specs.Seats.{IsWhyRefused, Unanswered, names_nodes, unmade}
use Rattle.cluster_world.specs.Seen.{names_of, named}
use Rattle.cluster_world.specs.declared.admission.Admission.{Admission}
use Rattle.cluster_world.specs.Admissions.{event_by, IsFound}
use Rattle.cluster_world.proofs.Admissions.{found_admitted}

-- its own cause comes first
pub unmade_call : (a : ℕ) (c : Call) (old : WorldState) (why : Option Refusal) → IsWhyRefused why (At a (Calls c)) old
    → names_nodes c ≡ true → Unanswered a c old old (unmade why)
unmade_call a c old None free named = (refl, named, free)
unmade_call a c old (Some r) refused named = (refused, λ kept. refl, λ out. inl refl)

-- a deletion is refused so whichever nodes it asks
module _ (b : ℕ) (p q : Process) (i j : LockId) (old : WorldState) (node : b ≡ p.node) (holder : q ≡ p) (id : j ≡ i) (ns : Nodes) where
  same : named_refusal (names_of old) (named old) (named_event (At b (Calls (DelLock q j All))))
      ≡ named_refusal (names_of old) (named old) (named_event (At p.node (Calls (DelLock p i ns))))
  same = ap (λ (n : ℕ). named_refusal (names_of old) (named old) (named_event (At n (Calls (DelLock q j All))))) node
      ∙ ap (λ (r : Process). named_refusal (names_of old) (named old) (named_event (At p.node (Calls (DelLock r j All))))) holder
      ∙ ap (λ (k : LockId). named_refusal (names_of old) (named old) (named_event (At p.node (Calls (DelLock p k All))))) id

  pub deletion_asked : (r : Result Admission Refusal) (why : Option Refusal) → why ≡ result_err r
      → IfOk r (λ admission. IsFound admission old) → IfOk r (λ admission. event_by admission ≡ At b (Calls (DelLock q j All)))
      → IfErr r (λ refusal. RefusedWith refusal (At b (Calls (DelLock q j All))) old)
      → IsWhyRefused why (At p.node (Calls (DelLock p i ns))) old
  deletion_asked (Ok k) why is found event refused =
      subst (λ (w : Option Refusal). IsWhyRefused w (At p.node (Calls (DelLock p i ns))) old) (sym is)
      (sym same ∙ (found_admitted k old (At b (Calls (DelLock q j All))) found event).accepted)
  deletion_asked (Err r) why is found event refused =
      subst (λ (w : Option Refusal). IsWhyRefused w (At p.node (Calls (DelLock p i ns))) old) (sym is)
      (sym same ∙ refused)
