use Rattle.std.proofs.Common.{sym, ◌∙◌}
use Rattle.node_port.specs.Working.{stand_of}
use Rattle.node_port.proofs.Starting.{next_is, first_alone, no_place, place_is}
use Rattle.node_port.proofs.port.Port.place_for.Goals as goal

pub returns-in_err-older : goal.returns-in_err-older
returns-in_err-older c = rw c.from_residual.ensures (first_alone c.args.next.now (stand_of c.args.self.now) c.in_err-older.ensures)

pub returns-then-may_be_followed : goal.returns-then-may_be_followed
returns-then-may_be_followed c =
    let older = c.in_ok-older.older in
    let next = c.in_ok-older.ensures in
    let is = next_is older c.args.next.now next.1 next.2 in
    let at = place_is older (stand_of c.args.self.now) (sym c.may_be_followed.ensures.follows ∙ c.if-may_be_followed.true) in
    (is, at.0, at.1, c.may_be_followed.ensures.last c.if-may_be_followed.true c.args.next.now is, at.2)

pub returns-else-may_be_followed : goal.returns-else-may_be_followed
returns-else-may_be_followed c =
    no_place c.in_ok-older.older c.args.next.now (stand_of c.args.self.now) c.in_ok-older.ensures.1
    (sym c.may_be_followed.ensures.follows ∙ c.if-may_be_followed.false)
