use Rattle.std.proofs.Common.{ℕ, ◌≡◌, true, inr, refl, sym, ap, subst, ◌∙◌}
use Rattle.node_log.specs.Events.{knows_contact}
use Rattle.node_log.specs.declared.WorldEvent.TheVariants.{At}
use Rattle.node_loop.specs.declared.fault.TurnFault.TheVariants.{Memory}
use Rattle.node_loop.specs.Held.{Looping, written}
use Rattle.node_loop.specs.Steps.{by_event, desk_of, Makes, Ends}
use Rattle.node_loop.proofs.Owing.{owing_by_event}
use Rattle.node_loop.proofs.Concluding.{makes, begins, unspent, stepped, begun}
use Rattle.node_loop.proofs.node_loop.NodeLoop.attempt.Goals as goal

pub returns-in-Ok-conclude : goal.returns-in-Ok-conclude
returns-in-Ok-conclude g c =
    let a : Looping = record {
      core = c.self.inside.core;
      world = c.self.inside.world;
      log = written (g.L.Record.logged c.self.inside.log);
      tray = c.self.inside.tray;
      desk = c.self.inside.desk;
      wait = c.self.inside.courtesy;
      stamp = c.self.inside.stamp;
      owed = c.self.inside.owed;
      left = c.self.inside.left;
      worked = c.self.inside.worked;
    } in
    subst (λ (x : Looping). Makes (by_event c.args.own c.args.event x) x c.conclude.new.self × (c.conclude.new.self.owed ≡ x.owed)) c.self.view_is (
      makes (by_event c.args.own c.args.event a) a c.step.new.core (written (g.L.Record.logged c.put.new.self)) c.self.inside.owed c.in-Some.stamp c.args.own
          c.of-course.result c.in-Ok.turn c.conclude.new.self
          (stepped _ _ _ _ _ c.cause-cause.ensures c.in-Ok.ensures.made)
          (begun _ _ _ _ _ _ _ _ _ c.step.ensures.log c.put.ensures.node c.put.ensures.entries c.in-Some.ensures.0
          c.seat_of.ensures
          (ap (λ (n : ℕ). At n c.args.event) (c.copy.ensures ∙ c.node.ensures.name ∙ c.in-Ok.ensures.made.name)))
          c.in-Some.ensures.0 refl c.of-course.ensures (owing_by_event c.args.own c.args.event a c.conclude.new.self
          c.in-Ok.turn (subst (λ (x : Looping). knows_contact x.world c.args.event ≡ true) (sym c.self.view_is) c.requires)) c.in-Some.ensures.1 tt c.in-Ok-conclude.ensures,
      c.in-Ok-conclude.ensures.owed,
    )

pub returns-in-Err : goal.returns-in-Err
returns-in-Err g c =
    let a : Looping = record {
      core = c.self.inside.core;
      world = c.self.inside.world;
      log = written (g.L.Record.logged c.self.inside.log);
      tray = c.self.inside.tray;
      desk = c.self.inside.desk;
      wait = c.self.inside.courtesy;
      stamp = c.self.inside.stamp;
      owed = c.self.inside.owed;
      left = c.self.inside.left;
      worked = c.self.inside.worked;
    } in
    subst (λ (x : Looping). Ends Memory (by_event c.args.own c.args.event x) (desk_of (by_event c.args.own c.args.event x) x) x c.conclude.new.self) c.self.view_is (
      unspent (by_event c.args.own c.args.event a) a c.in-Some.stamp c.in-Some.ensures.0 c.in-Some.ensures.1,
      inr (begins (by_event c.args.own c.args.event a) a c.step.new.core (written (g.L.Record.logged c.put.new.self)) c.self.inside.owed c.in-Some.stamp c.args.own
          c.of-course.result c.in-Ok.turn c.conclude.new.self
          (stepped _ _ _ _ _ c.cause-cause.ensures c.in-Ok.ensures.made)
          (begun _ _ _ _ _ _ _ _ _ c.step.ensures.log c.put.ensures.node c.put.ensures.entries c.in-Some.ensures.0
          c.seat_of.ensures
          (ap (λ (n : ℕ). At n c.args.event) (c.copy.ensures ∙ c.node.ensures.name ∙ c.in-Ok.ensures.made.name)))
          c.in-Some.ensures.0 refl c.of-course.ensures (owing_by_event c.args.own c.args.event a c.conclude.new.self
          c.in-Ok.turn (subst (λ (x : Looping). knows_contact x.world c.args.event ≡ true) (sym c.self.view_is) c.requires)) _ c.in-Err.ensures),
    )
