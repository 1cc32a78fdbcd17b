use Rattle.std.specs.Prelude.{Ok}
use Rattle.node_seats.specs.Callers.{name_of, ticket_of, seen_of}
use Rattle.node_seats.specs.Replies.{IsToldTo}
use Rattle.node_seats.proofs.Sittings.{told_on}
use Rattle.node_seats.proofs.caller.Caller.ask.Goals as goal

pub returns-clause-told : goal.returns-clause-told
returns-clause-told g c =
    told_on (λ effect. IsToldTo (name_of c.args.self.now) (ticket_of c.args.self.now) (Ok effect) (seen_of c.ask_node.new.self)) c.ask_node.result
    c.known_outcome.result c.known_outcome.ensures.told c.ask_node.ensures.told
