use Rattle.std.proofs.Common.{inr, sym, ap, subst, ◌∙◌}
use Rattle.node_log.specs.Events.{is_leave, knows_contact}
use Rattle.node_loop.specs.declared.replies.TaskFault.TheVariants.{Step}
use Rattle.node_loop.specs.Held.{Looping}
use Rattle.node_loop.specs.Items.{Refuses}
use Rattle.node_loop.proofs.Concluding.{at_true, at_false}
use Rattle.node_loop.proofs.node_loop.NodeLoop.accept.Goals as goal

pub returns-in-Refused : goal.returns-in-Refused
returns-in-Refused g c =
    at_true _ _ (knows_contact c.args.self.now.world c.args.task.event)
    (ap (λ (l : Looping). knows_contact l.world c.args.task.event) (sym c.self.view_is) ∙ sym c.knows_contact.ensures
    ∙ c.if-not-knows_contact.false)
    (at_false _ _ c.args.self.now.left (ap (λ (l : Looping). l.left) (sym c.self.view_is) ∙ c.if-self.false)
    (at_false _ _ (is_leave c.args.task.event) (sym c.is_leave.ensures ∙ c.if-is_leave.false)
    (inr (
      c.in-Refused.fault,
      c.in-Refused.ensures.1,
      c.in-Refused.ensures.2,
      subst
          (λ (x : Looping). Refuses c.args.task.ticket (Step c.in-Refused.fault) x c.refuse-in-Refused.result c.refuse-in-Refused.new.self)
          c.in-Refused.ensures.0 c.refuse-in-Refused.ensures,
    ))))
