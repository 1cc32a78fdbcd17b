use Rattle.std.proofs.Common.{ℕ, ap, subst, ◌∙◌}
use Rattle.std.specs.Prelude.{IfSome}
use Rattle.node_seats.specs.Addresses.{inbox_at}
use Rattle.node_seats.specs.Pages.{Book}
use Rattle.replay.specs.Ends.{end_by}
use Rattle.node_threads.specs.Ended.{IsPastOf}
use Rattle.node_threads.specs.Wires.{Wired}
use Rattle.node_threads.proofs.Starting.{returns_so}
use Rattle.node_threads.proofs.running.Running.join.Goals as goal

pub returns-clause-end : goal.returns-clause-end
returns-clause-end g c = returns_so (inbox_at c.self.inside.address) c.self.inside.handle.promise.0.value
    c.self.inside.handle.promise.1.value.items c.self.inside.handle.promise.2.value c.self.invariant.0
    (end_by g.N.Names.contents g.L.Record.logged c.join-end.result.end) c.join-end.result.lines.items c.join-end.result.mailbox c.join-end.ensures.end
    c.args.self c.new.result c.self.view_is c.new.ensures

pub returns-clause-past : goal.returns-clause-past
returns-clause-past g c = subst
    (λ (x : ℕ × Book). IfSome c.join-end.result.past (IsPastOf x.0 x.1 (end_by g.N.Names.contents g.L.Record.logged c.join-end.result.end)))
    (λ j. (
      (c.self.invariant.0.node ∙ ap (λ (w : Wired). w.inbox.node) c.self.view_is) j,
      (c.self.invariant.2 ∙ ap (λ (w : Wired). w.inbox.book) c.self.view_is) j,
    )) c.join-end.ensures.past_is
