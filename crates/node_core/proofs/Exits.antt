-- What the exit of a process comes to.
use Rattle.std.proofs.Common.{◌≡◌, List, refl, ap, ◌∙◌, subst}
use Rattle.registry_model.specs.Process.{Process}
use Rattle.registry_model.specs.History.{Entry as AnyEntry}
use Rattle.protocol_model.specs.Letter.{Letter as AnyLetter}
use Rattle.protocol_model.specs.Node.{LockCall, drop_call}
use Rattle.protocol_model.specs.Watch.{Watch as AnyWatch, with_dead}
use Rattle.protocol_model.specs.Turn.{Turn, send_all, enter}
use Rattle.protocol_model.specs.Calling.{die}
use Rattle.term.specs.NodeSets.{IsNodeSet, set_of}
use Rattle.exit_watch.specs.WatchState.{WatchState, KeepsSuspects}
use Rattle.lock_calls.specs.LockCallsState.{LockCallsState, seen}
use Rattle.node_events.specs.declared.events.Entry.TheVariants.{Exit}
use Rattle.node_events.specs.declared.events.Letter.TheVariants.{ReleaseOf}
use Rattle.node_events.specs.Made.{Made, SendsAll, entered}
use Rattle.node_core.specs.CoreState.{CoreState, IsWhole, bound_of}
use Rattle.node_core.specs.Seen.{turn_of}
use Rattle.node_core.specs.Steps.{Makes}
use Rattle.node_core.proofs.Bounds.{of_world}
use Rattle.node_core.proofs.Sends.{sent_all_is}
use Rattle.node_core.proofs.Rules.{entered_is}
use Rattle.node_core.proofs.Whole.{whole_watching}
use Rattle.node_core.proofs.Locking.{whole_taken}

-- the process is dead, and its call is taken out
pub whole_exited : (h : CoreState) (w : WatchState) (cs : LockCallsState) (p : Process) → IsWhole h → w.node ≡ h.watch.node
    → KeepsSuspects h.watch w → cs.node ≡ h.calls.node → seen cs ≡ drop_call p (seen h.calls)
    → IsWhole (record h { watch = w; calls = cs })
whole_exited h w cs p whole node kept own dropped = whole_taken (record h { watch = w }) cs p
    (whole_watching h w whole node (kept h.table whole.suspected)) own dropped

-- the process is dead, and every member is to release its locks
pub exits : (h k : CoreState) (w : WatchState) (cs : LockCallsState) (t u v : Made) (p q r : Process) → IsWhole k → k ≡ h
    → IsNodeSet k.members → w.watch ≡ with_dead p.serial k.watch.watch → seen cs ≡ drop_call p (seen k.calls)
    → q ≡ p → r ≡ p → v ≡ entered (Exit q) t → SendsAll k.members (ReleaseOf r) v u
    → Makes (λ n a x. die n a p (enter (AnyEntry.Exit p) x)) h t (record k { watch = w; calls = cs }) u
exits h k w cs t u v p q r whole same set dead dropped entering releasing put sends =
    subst (λ (x : CoreState). Makes (λ n a y. die n a p (enter (AnyEntry.Exit p) y)) x t after u) same (record {
      name = refl;
      world = refl;
      turn = sent_all_is after (entered (Exit p) t) u k.members (ReleaseOf p) made set (of_world k.world k.members whole.members)
          ∙ ap (λ (x : Turn). send_all (bound_of k.world) (set_of k.members) (AnyLetter.ReleaseOf p) x)
          (entered_is after t (Exit p) ∙ ap (λ (x : AnyWatch). known x (seen cs)) dead
          ∙ ap (known (with_dead p.serial k.watch.watch)) dropped);
    })
  where
    after : CoreState
    after = record k { watch = w; calls = cs }

    known : AnyWatch → List LockCall → Turn
    known x ds = record (enter (AnyEntry.Exit p) (turn_of k t))
        { node = record (turn_of k t).node { watch = x; calls = ds } }

    made : SendsAll k.members (ReleaseOf p) (entered (Exit p) t) u
    made = subst (λ (x : Process). SendsAll k.members (ReleaseOf x) (entered (Exit p) t) u) releasing
        (subst (λ (x : Made). SendsAll k.members (ReleaseOf r) x u)
        (put ∙ ap (λ (x : Process). entered (Exit x) t) entering) sends)
