use Rattle.std.proofs.Common.{ℕ, ◌≡◌, ◌+◌, ◌∙◌, length, None, Ok, Err, inr, refl, ap, subst}
use Rattle.std.proofs.lemmas.Result.{err_from_is_err_and}
use Rattle.node_log.specs.declared.WorldEvent.TheVariants.{Deliver}
use Rattle.node_loop.specs.declared.fault.TurnFault.TheVariants.{Memory}
use Rattle.node_loop.specs.declared.waiting.Course.TheVariants.{AtOnce}
use Rattle.node_loop.specs.Held.{Looping, Written, written}
use Rattle.node_loop.specs.Steps.{by_letter}
use Rattle.node_loop.specs.Items.{Reads}
use Rattle.node_loop.specs.Owing.{with_note}
use Rattle.node_loop.proofs.Owing.{owing_by_letter, one_more}
use Rattle.node_loop.proofs.Concluding.{makes, begins, unspent, begun, at_false}
use Rattle.node_loop.proofs.node_loop.NodeLoop.read.Goals as goal

pub returns : goal.returns
returns g c =
    let a : Looping = record {
      core = c.self.inside.core;
      world = c.self.inside.world;
      log = written (g.L.Record.logged c.self.inside.log);
      tray = c.self.inside.tray;
      desk = c.self.inside.desk;
      wait = c.self.inside.courtesy;
      stamp = c.self.inside.stamp;
      owed = c.self.inside.owed;
      left = c.self.inside.left;
      worked = c.self.inside.worked;
    } in
    let noted : c.add.new.self ≡ with_note c.note_of-note.result (length (g.L.Record.logged c.self.inside.log).entries + 1) c.self.inside.owed =
    c.add.ensures ∙ ap (λ (n : ℕ). with_note c.note_of-note.result n c.self.inside.owed)
    (one_more c.count.result (g.L.Record.logged c.self.inside.log).entries (g.L.Record.logged c.step.new.log).entries (g.L.Record.logged c.put_delivery.new.self).entries _ c.count.ensures
    c.put_delivery.ensures.entries (ap (λ (w : Written). w.entries) c.step.ensures.log)) in
    subst (λ (x : Looping). Reads c.args.from c.args.stamped x (Ok tt) c.conclude.new.self) c.self.view_is
    (at_false _ _ c.self.inside.left c.if-self.false
    (makes (by_letter c.args.from c.args.stamped a) a c.step.new.core (written (g.L.Record.logged c.put_delivery.new.self)) c.add.new.self c.in-Some.stamp None
    AtOnce c.in-Ok.turn c.conclude.new.self c.in-Ok.ensures.made
    (begun _ _ _ _ _ _ _ _ _ c.step.ensures.log c.put_delivery.ensures.node c.put_delivery.ensures.entries
    c.in-Some.ensures.0 refl
    (ap (λ (l : Written). Deliver c.args.from l.node) c.step.ensures.log))
    c.in-Some.ensures.0 refl refl (λ step log world left owed. owing_by_letter c.note_of-note.result c.args.from c.args.stamped a c.conclude.new.self
    c.in-Ok.turn c.note_of-note.ensures step log world left (owed ∙ noted)) c.in-Some.ensures.1 c.in_ok-conclude.field-0 c.in_ok-conclude.ensures))

pub returns-in_err-conclude : goal.returns-in_err-conclude
returns-in_err-conclude g c =
    let a : Looping = record {
      core = c.self.inside.core;
      world = c.self.inside.world;
      log = written (g.L.Record.logged c.self.inside.log);
      tray = c.self.inside.tray;
      desk = c.self.inside.desk;
      wait = c.self.inside.courtesy;
      stamp = c.self.inside.stamp;
      owed = c.self.inside.owed;
      left = c.self.inside.left;
      worked = c.self.inside.worked;
    } in
    let noted : c.add.new.self ≡ with_note c.note_of-note.result (length (g.L.Record.logged c.self.inside.log).entries + 1) c.self.inside.owed =
    c.add.ensures ∙ ap (λ (n : ℕ). with_note c.note_of-note.result n c.self.inside.owed)
    (one_more c.count.result (g.L.Record.logged c.self.inside.log).entries (g.L.Record.logged c.step.new.log).entries (g.L.Record.logged c.put_delivery.new.self).entries _ c.count.ensures
    c.put_delivery.ensures.entries (ap (λ (w : Written). w.entries) c.step.ensures.log)) in
    let p = err_from_is_err_and c.from_residual.result c.from_residual.ensures.1 in
    rw (p.1, p.2)
    (subst (λ (x : Looping). Reads c.args.from c.args.stamped x (Err Memory) c.conclude.new.self) c.self.view_is
    (at_false _ _ c.self.inside.left c.if-self.false (
      unspent (by_letter c.args.from c.args.stamped a) a c.in-Some.stamp c.in-Some.ensures.0 c.in-Some.ensures.1,
      inr (begins (by_letter c.args.from c.args.stamped a) a c.step.new.core (written (g.L.Record.logged c.put_delivery.new.self)) c.add.new.self c.in-Some.stamp None
          AtOnce c.in-Ok.turn c.conclude.new.self c.in-Ok.ensures.made
          (begun _ _ _ _ _ _ _ _ _ c.step.ensures.log c.put_delivery.ensures.node c.put_delivery.ensures.entries
          c.in-Some.ensures.0 refl
          (ap (λ (l : Written). Deliver c.args.from l.node) c.step.ensures.log))
          c.in-Some.ensures.0 refl refl (λ step log world left owed. owing_by_letter c.note_of-note.result c.args.from c.args.stamped a c.conclude.new.self
          c.in-Ok.turn c.note_of-note.ensures step log world left (owed ∙ noted)) _ c.in_err-conclude.ensures),
    )))
