use Rattle.std.proofs.lemmas.Result.{IfOk-weaker}
use Rattle.node_port.specs.Working.{Concludes, Settles}
use Rattle.node_port.specs.declared.port.Standing.{Standing}
use Rattle.node_port.proofs.Working.{settles}
use Rattle.node_port.proofs.port.Port.settled.Goals as goal

pub returns : goal.returns
returns c =
    let a = c.args.self.now in
    let m = c.settle-outcome.new.self in
    let b = c.conclude.new.self in
    let r = c.settle-outcome.result in
    IfOk-weaker c.conclude.result (λ (s : Standing). Concludes r s m b) (λ (s : Standing). Settles s a b)
    (λ s k. settles r s a m b c.settle-outcome.ensures k) c.conclude.ensures
