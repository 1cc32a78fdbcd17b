-- A whole node stays whole with other parts of which the same holds.
use Rattle.std.proofs.Common.{ℕ, ◌≡◌, List, Option, refl, sym, ◌∙◌, subst}
use Rattle.std.specs.Prelude.{All}
use Rattle.locker.specs.RoundState.{RoundState}
use Rattle.transaction.specs.Work.{Work}
use Rattle.exit_watch.specs.WatchState.{WatchState, AreSuspected}
use Rattle.lock_calls.specs.LockCallsState.{LockCallsState, seen}
use Rattle.node_events.specs.declared.events.Reply.{Reply}
use Rattle.node_core.specs.declared.node.Phase.TheVariants.{Asking, Writing}
use Rattle.node_core.specs.CoreState.{CoreState, IsWhole, IsWithin, IsOpWithin, IsCurrentWithin, IsCallWithin}
use Rattle.node_core.proofs.Bounds.{of_world}

-- the other nodes of a registrar's operations and whom it awaits have started
pub record IsWorkWithin (world : List ℕ) (w : Work) : Type 0 where
  pub queue : All (IsOpWithin world) w.queue
  pub current : IsCurrentWithin world w.current
  pub awaited : IsWithin world w.awaited

-- with another registrar, watch and calls
pub whole_of : (h : CoreState) (r : Work) (w : WatchState) (cs : LockCallsState) → IsWhole h → IsWorkWithin h.world r
    → w.node ≡ h.watch.node → AreSuspected w h.table → cs.node ≡ h.calls.node
    → All (λ c. IsCallWithin h.world c.phase) (seen cs) → IsWhole (record h { registrar = r; watch = w; calls = cs })
whole_of h r w cs whole work watch suspected calls called = record {
  self = whole.self;
  members = whole.members;
  told = whole.told;
  apart = whole.apart;
  queue = work.queue;
  current = work.current;
  awaited = work.awaited;
  phase = whole.phase;
  watch = watch ∙ whole.watch;
  suspected = suspected;
  calls = calls ∙ whole.calls;
  called = called;
}

work_within : (h : CoreState) → IsWhole h → IsWorkWithin h.world h.registrar
work_within h whole = record { queue = whole.queue; current = whole.current; awaited = whole.awaited }

-- with another registrar
pub whole_at : (h : CoreState) (r : Work) → IsWhole h → IsWorkWithin h.world r → IsWhole (record h { registrar = r })
whole_at h r whole work = whole_of h r h.watch h.calls whole work refl whole.suspected refl whole.called

-- with another watch
pub whole_watching : (h : CoreState) (w : WatchState) → IsWhole h → w.node ≡ h.watch.node → AreSuspected w h.table
    → IsWhole (record h { watch = w })
whole_watching h w whole watch suspected =
    whole_of h h.registrar w h.calls whole (work_within h whole) watch suspected refl whole.called

-- with other calls of its processes
pub whole_with : (h : CoreState) (cs : LockCallsState) → IsWhole h → cs.node ≡ h.calls.node
    → All (λ c. IsCallWithin h.world c.phase) (seen cs) → IsWhole (record h { calls = cs })
whole_with h cs whole calls called =
    whole_of h h.registrar h.watch cs whole (work_within h whole) refl whole.suspected calls called

-- once it writes, and awaits these nodes
pub whole_writing : (h : CoreState) (w : Work) (all asked : List ℕ) (reply : Option Reply) → IsWhole h
    → w ≡ record h.registrar { awaited = all } → IsWithin h.world all → IsWithin h.world asked
    → IsWhole (record h { registrar = w; phase = Writing asked reply })
whole_writing h w all asked reply whole is within asked_within =
    subst (λ (x : Work). IsWhole (record h { registrar = x; phase = Writing asked reply })) (sym is) (record {
      self = whole.self;
      members = whole.members;
      told = whole.told;
      apart = whole.apart;
      queue = whole.queue;
      current = whole.current;
      awaited = within;
      phase = asked_within;
      watch = whole.watch;
      suspected = whole.suspected;
      calls = whole.calls;
      called = whole.called;
    })

-- once it asks its members
pub whole_asking : (h : CoreState) (r : RoundState) → IsWhole h → r.nodes ≡ h.members → IsWhole (record h { phase = Asking r })
whole_asking h r whole is = record {
  self = whole.self;
  members = whole.members;
  told = whole.told;
  apart = whole.apart;
  queue = whole.queue;
  current = whole.current;
  awaited = whole.awaited;
  phase = subst (IsWithin h.world) (sym is) (of_world h.world h.members whole.members);
  watch = whole.watch;
  suspected = whole.suspected;
  calls = whole.calls;
  called = whole.called;
}
