use Rattle.std.proofs.Common.{ap, subst, ◌∙◌}
use Rattle.node_loop.specs.Held.{Looping}
use Rattle.node_loop.proofs.Moving.{turn_of}
use Rattle.node_loop.proofs.Owing.{turns_keep}
use Rattle.node_loop.proofs.node_loop.NodeLoop.turn.Goals as goal

pub returns-clause-turned : goal.returns-clause-turned
returns-clause-turned g c =
    let t = c.go.ensures.turned in record {
      asked = subst (g.G.Gate.held c.args.gate.now)
          (c.copy.ensures ∙ (c.node.ensures.name ∙ ap (λ (l : Looping). l.core.name) c.self.view_is)) c.ask-permit.ensures.held;
      tray = t.tray;
      between = t.between;
      drained = t.drained;
      turned = t.turned;
    }

pub returns-clause-owing : goal.returns-clause-owing
returns-clause-owing g c = turns_keep _ _ (turn_of g.E.Post.posts g.E.Post.refuses g.E.Inbox.takes g.E.Inbox.misses _ _ _ _ _ _ (returns-clause-turned g c))
