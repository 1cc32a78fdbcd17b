use Rattle.std.proofs.Common.{subst}
use Rattle.std.specs.Prelude.{Ok}
use Rattle.shared_table.specs.declared.Effect.{Effect}
use Rattle.node_seats.specs.Callers.{ticket_of, seen_of}
use Rattle.node_seats.specs.Replies.{IsToldTo}
use Rattle.node_seats.proofs.Granting.{logged_where_told}
use Rattle.node_seats.proofs.caller.Caller.call.Goals as goal

pub returns-in-Answered-clause-logged : goal.returns-in-Answered-clause-logged
returns-in-Answered-clause-logged g c =
    logged_where_told c.args.self.now.node (ticket_of c.args.self.now) c.in-Answered.stamp c.in-Answered.answer (seen_of c.ask.new.self)
    (subst (λ (e : Effect). IsToldTo c.args.self.now.node (ticket_of c.args.self.now) (Ok e) (seen_of c.ask.new.self)) c.in-Answered.is
    c.in_ok-stamp.ensures.told)
