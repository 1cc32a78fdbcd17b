use Rattle.std.proofs.Common.{ℕ, ◌≡◌, ap, subst, ◌∙◌}
use Rattle.std.specs.Prelude.{IfOk}
use Rattle.node_seats.specs.Addresses.{Inbox}
use Rattle.node_threads.specs.Wires.{Wired}
use Rattle.node_threads.proofs.running.Running.status.Goals as goal

pub returns-clause-node : goal.returns-clause-node
returns-clause-node g c = subst (λ (n : ℕ). IfOk c.status.result (λ status. status.node ≡ n))
    (ap (λ (i : Inbox). i.node) c.self.invariant.1 ∙ ap (λ (w : Wired). w.inbox.node) c.self.view_is) c.status.ensures.node
