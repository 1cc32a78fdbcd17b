use Rattle.std.proofs.Common.{Ok, Err, refl, sym, ◌∙◌}
use Rattle.node_loop.proofs.Faults.{retry_stands}
use Rattle.node_loop.proofs.Turning.{retries, due_waits}
use Rattle.node_loop.proofs.node_loop.NodeLoop.pass_turn.Goals as goal

pub returns-in-Ended : goal.returns-in-Ended
returns-in-Ended g c =
    retries c.args.self.now c.miss.new.self c.miss.ensures (Err c.in-Ended.fault)
    c.attempt.new.self (sym c.is_due-is_due.ensures ∙ c.if-not-is_due.false)
    (record { between = c.attempt.new.self; went = Err c.in-Ended.fault; comes = c.in-Ended.ensures; behind = (refl, refl) })

pub returns-in-Made : goal.returns-in-Made
returns-in-Made g c =
    retries c.args.self.now c.miss.new.self c.miss.ensures
    c.leave_if_free-in-Made.result c.leave_if_free-in-Made.new.self (sym c.is_due-is_due.ensures ∙ c.if-not-is_due.false)
    (record {
      between = c.attempt.new.self;
      went = Ok tt;
      comes = c.in-Made.ensures.0;
      behind = c.leave_if_free-in-Made.ensures;
    })

pub returns-in-Refused : goal.returns-in-Refused
returns-in-Refused g c =
    absurd (retry_stands c.miss.new.self c.in-Refused.field-0
    (due_waits c.args.self.now c.miss.new.self c.miss.ensures
    (sym c.is_due-is_due.ensures ∙ c.if-not-is_due.false))
    c.in-Refused.ensures.2 c.in-Refused.ensures.1)
