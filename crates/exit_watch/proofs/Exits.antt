-- Whose exit isn't refused.
use Rattle.std.proofs.Common.{Bool, true, false, ◌≡◌, None, refl}
use Rattle.std.specs.Prelude.{not, [], ◌∷◌}
use Rattle.registry_model.specs.Process.{Process}
use Rattle.protocol_model.specs.Node.{Node, opening_node}
use Rattle.protocol_model.specs.Watch.{is_dead, is_issued}
use Rattle.protocol_model.specs.Event.{Exiting, NoSuchProcess, AlreadyExited, cause, first_cause}
use Rattle.exit_watch.specs.Faults.{Refuses}
use Rattle.exit_watch.specs.WatchState.{WatchState}

-- it isn't dead
pub alive : (h : WatchState) (p : Process) → Refuses (Exiting p) h None → is_dead h.watch p.serial ≡ false
alive h p accepted = go (is_issued h.node h.watch p) (is_dead h.watch p.serial) (accepted v refl)
  where
    v : Node
    v = record (opening_node (λ c. false) h.node) { watch = h.watch }

    go : (issued dead : Bool)
        → first_cause (cause (not issued) NoSuchProcess ∷ cause dead AlreadyExited ∷ []) ≡ None → dead ≡ false
    go true true e = cc
    go true false e = refl
    go false dead e = cc
