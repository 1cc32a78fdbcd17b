use Rattle.std.proofs.Common.{sym, subst}
use Rattle.std.specs.Prelude.{Result, Ok, OnOk}
use Rattle.shared_table.specs.declared.Effect.{Effect}
use Rattle.node_seats.specs.declared.fault.SeatFault.{SeatFault}
use Rattle.node_seats.specs.Callers.{ticket_of, seen_of}
use Rattle.node_seats.specs.Replies.{IsToldTo, HasLeft}
use Rattle.node_seats.proofs.Leaving.{left_where_told}
use Rattle.node_seats.proofs.caller.Caller.leave.Goals.{in-Left, in_default}
use Rattle.node_seats.proofs.caller.Caller.leave.Goals as goal

pub returns-clause-left : goal.returns-clause-left
returns-clause-left g c = elim c.match-branch-2.branch [
  | in-Left w ↦ subst (λ (r : Result (Unit {0}) SeatFault). OnOk r (HasLeft c.args.self.now.node)) (sym w.result-is)
      (left_where_told c.args.self.now.node (ticket_of c.args.self.now) (seen_of c.ask.new.self)
      (subst (λ (e : Effect). IsToldTo c.args.self.now.node (ticket_of c.args.self.now) (Ok e) (seen_of c.ask.new.self)) w.in-Left.is
      c.in_ok-ask.ensures.told))
  | in_default w ↦ subst (λ (r : Result (Unit {0}) SeatFault). OnOk r (HasLeft c.args.self.now.node)) (sym w.result-is) tt
]
