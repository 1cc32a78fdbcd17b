use Rattle.std.proofs.Common.{◌≡◌, true, Option, length, sym, ap, subst, ◌∙◌}
use Rattle.std.specs.Option.{option_flatten}
use Rattle.std.proofs.lemmas.Result.{err_from_is_err_and}
use Rattle.node_log.specs.declared.LocalEvent.TheVariants.{Leave}
use Rattle.node_loop.specs.declared.item.Ticket.{Ticket}
use Rattle.node_loop.specs.Desks.{Begins, left_by}
use Rattle.node_loop.specs.Held.{Looping, is_free_to_leave}
use Rattle.node_loop.specs.Steps.{by_event, desk_of, Makes, Ends}
use Rattle.node_loop.specs.Items.{by_leave, leaver, with_leave}
use Rattle.node_loop.specs.Owing.{with_note}
use Rattle.node_loop.specs.declared.edit.Edit.TheVariants as edit
use Rattle.node_loop.specs.declared.edit.Note.TheVariants.{One}
use Rattle.node_loop.proofs.Owing.{owing_by_leave}
use Rattle.node_loop.proofs.Concluding.{at_true, ends_leaving, ends_left}
use Rattle.node_loop.proofs.Turning.{first_is}
use Rattle.node_loop.proofs.node_loop.NodeLoop.leave_if_free.Goals as goal

pub returns-in-Ended : goal.returns-in-Ended
returns-in-Ended g c =
    at_true _ _ (is_free_to_leave c.args.self.now) (sym c.is_free_to_leave.ensures ∙ c.if-not-is_free_to_leave.false)
    (ends_leaving c.in-Ended.fault (by_leave c.args.self.now) c.args.self.now c.attempt.new.self
    (subst
    (λ (t : Option Ticket). Ends c.in-Ended.fault (by_event t Leave c.args.self.now)
    (desk_of (by_event t Leave c.args.self.now) c.args.self.now) c.args.self.now c.attempt.new.self)
    (c.flatten-ticket.ensures
    ∙ (ap (λ (o : Option (Option Ticket)). option_flatten o) c.first_leave.ensures ∙ (first_is c.self.inside.desk.leaves
    ∙ ap (λ (l : Looping). leaver l.desk.leaves) c.self.view_is)))
    c.in-Ended.ensures))

pub returns-in_err-leave-in-Made : goal.returns-in_err-leave-in-Made
returns-in_err-leave-in-Made g c =
    let p = err_from_is_err_and c.from_residual.result c.from_residual.ensures.1 in
    let made : Makes (by_leave c.args.self.now) c.args.self.now c.attempt.new.self =
    subst (λ (t : Option Ticket). Makes (by_event t Leave c.args.self.now) c.args.self.now c.attempt.new.self)
    (c.flatten-ticket.ensures
    ∙ (ap (λ (o : Option (Option Ticket)). option_flatten o) c.first_leave.ensures ∙ (first_is c.self.inside.desk.leaves
    ∙ ap (λ (l : Looping). leaver l.desk.leaves) c.self.view_is)))
    c.in-Made.ensures.0 in
    let noted : c.add.new.self ≡ with_leave c.attempt.new.self =
    c.add.ensures ∙ λ j. with_note (One edit.Leave) ((c.count.ensures ∙ ap (λ (l : Looping). length l.log.entries) c.self-2.view_is) j) (c.self-2.view_is j).owed in
    rw (p.1, p.2)
    (at_true _ _ (is_free_to_leave c.args.self.now) (sym c.is_free_to_leave.ensures ∙ c.if-not-is_free_to_leave.false)
    (ends_left (by_leave c.args.self.now) c.args.self.now c.attempt.new.self _ made
    (λ j. record (c.self-2.view_is j) { left = true; desk = c.leave.new.self; owed = c.add.new.self })
    (owing_by_leave c.args.self.now c.attempt.new.self _ made c.in-Made.ensures.1
    (λ j. record (c.self-2.view_is j) { left = true; desk = c.leave.new.self; owed = noted j }))
    (subst (λ (l : Looping). Begins c.leave.new.self.replies (left_by l.desk).replies) c.self-2.view_is
    c.in_err-leave-in-Made.ensures.begun)))
