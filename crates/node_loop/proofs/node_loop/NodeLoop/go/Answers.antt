use Rattle.std.proofs.Common.{inl, inr, subst}
use Rattle.node_loop.specs.Held.{Looping}
use Rattle.node_loop.specs.Turned.{Turned}
use Rattle.node_loop.proofs.Keeping.{keeps}
use Rattle.node_loop.proofs.KeepingFrom.{keeps as keeps_from}
use Rattle.node_loop.proofs.Turning.{held_at}
use Rattle.node_loop.proofs.node_loop.NodeLoop.go.Goals as goal

pub returns-in_default-clause-turned : goal.returns-in_default-clause-turned
returns-in_default-clause-turned g c =
    subst
    (λ (x : Looping). Turned g.E.Post.posts g.E.Post.refuses g.E.Inbox.takes g.E.Inbox.misses (λ n. ∥ g.G.Gate.held c.args.permit.gate.now n ∥₁) x (g.E.Station.state c.args.end.now) c.idle.result c.idle.new.self (g.E.Station.state c.take.new.self))
    c.self.view_is (record {
      asked = held_at (λ n. ∥ g.G.Gate.held c.args.permit.gate.now n ∥₁) _ _ _ c.requires c.self.view_is c.args.permit.held;
      tray = c.drain.new.self;
      between = g.E.Station.state c.drain.new.post;
      drained = c.drain.ensures;
      turned = inr (record { missed = c.in_default.ensures.1; still = c.in_default.ensures.0; idles = c.idle.ensures });
    })

pub returns-in_default-clause-sound : goal.returns-in_default-clause-sound
returns-in_default-clause-sound g c = keeps g.E.Post.posts g.E.Post.refuses g.E.Inbox.takes g.E.Inbox.misses _ _ _ _ _ _ (returns-in_default-clause-turned g c)

pub returns-in_default-found-clause-turned : goal.returns-in_default-found-clause-turned
returns-in_default-found-clause-turned g c =
    let h = rw c.in_default-found.is at c.in-Ok.ensures in
    subst
    (λ (x : Looping). Turned g.E.Post.posts g.E.Post.refuses g.E.Inbox.takes g.E.Inbox.misses (λ n. ∥ g.G.Gate.held c.args.permit.gate.now n ∥₁) x (g.E.Station.state c.args.end.now) c.idle-in_default-found.result c.idle-in_default-found.new.self (g.E.Station.state c.take.new.self))
    c.self.view_is (record {
      asked = held_at (λ n. ∥ g.G.Gate.held c.args.permit.gate.now n ∥₁) _ _ _ c.requires c.self.view_is c.args.permit.held;
      tray = c.drain.new.self;
      between = g.E.Station.state c.drain.new.post;
      drained = c.drain.ensures;
      turned = inr (record { missed = h.1; still = h.0; idles = c.idle-in_default-found.ensures });
    })

pub returns-in_default-found-clause-sound : goal.returns-in_default-found-clause-sound
returns-in_default-found-clause-sound g c = keeps g.E.Post.posts g.E.Post.refuses g.E.Inbox.takes g.E.Inbox.misses _ _ _ _ _ _ (returns-in_default-found-clause-turned g c)

pub returns-clause-turned : goal.returns-clause-turned
returns-clause-turned g c =
    let h = rw c.in-Some.is at c.in-Ok.ensures in
    subst
    (λ (x : Looping). Turned g.E.Post.posts g.E.Post.refuses g.E.Inbox.takes g.E.Inbox.misses (λ n. ∥ g.G.Gate.held c.args.permit.gate.now n ∥₁) x (g.E.Station.state c.args.end.now) c.work.result c.work.new.self (g.E.Station.state c.take.new.self))
    c.self.view_is (record {
      asked = held_at (λ n. ∥ g.G.Gate.held c.args.permit.gate.now n ∥₁) _ _ _ c.requires c.self.view_is c.args.permit.held;
      tray = c.drain.new.self;
      between = g.E.Station.state c.drain.new.post;
      drained = c.drain.ensures;
      turned = inl (record {
        from = c.in-Some.from;
        item = c.in-Some.item;
        taken = h;
        works = c.work.ensures;
      });
    })

pub returns-clause-sound : goal.returns-clause-sound
returns-clause-sound g c = keeps g.E.Post.posts g.E.Post.refuses g.E.Inbox.takes g.E.Inbox.misses _ _ _ _ _ _ (returns-clause-turned g c)

pub returns-in_default-clause-sound_from : goal.returns-in_default-clause-sound_from
returns-in_default-clause-sound_from g c = keeps_from g.E.Post.posts g.E.Post.refuses g.E.Inbox.takes g.E.Inbox.misses _ _ _ _ _ _ (returns-in_default-clause-turned g c)

pub returns-in_default-found-clause-sound_from : goal.returns-in_default-found-clause-sound_from
returns-in_default-found-clause-sound_from g c = keeps_from g.E.Post.posts g.E.Post.refuses g.E.Inbox.takes g.E.Inbox.misses _ _ _ _ _ _ (returns-in_default-found-clause-turned g c)

pub returns-clause-sound_from : goal.returns-clause-sound_from
returns-clause-sound_from g c = keeps_from g.E.Post.posts g.E.Post.refuses g.E.Inbox.takes g.E.Inbox.misses _ _ _ _ _ _ (returns-clause-turned g c)
