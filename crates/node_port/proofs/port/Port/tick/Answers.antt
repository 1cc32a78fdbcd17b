use Rattle.std.proofs.Common.{refl}
use Rattle.std.proofs.lemmas.Result.{IfOk-weaker}
use Rattle.node_port.specs.Commands.{Follows}
use Rattle.node_port.specs.Playing.{spent}
use Rattle.node_port.specs.Working.{Concludes, PlaysAt}
use Rattle.node_port.specs.declared.commands.Command.TheVariants.{Tick}
use Rattle.node_port.specs.declared.port.Standing.{Standing}
use Rattle.node_port.proofs.Working.{settles, plays}
use Rattle.node_port.proofs.port.Port.tick.Goals as goal

pub returns : goal.returns
returns c =
    let a = c.args.self.now in
    let m = c.pass_time-outcome.new.self in
    let b = c.conclude.new.self in
    let r = c.pass_time-outcome.result in
    IfOk-weaker c.conclude.result (λ (s : Standing). Concludes r s m b) (λ (s : Standing). PlaysAt (Follows Tick) s (spent s) a b)
    (λ s k. plays (Follows Tick) s a a b refl refl refl refl refl (settles r s a m b c.pass_time-outcome.ensures k)) c.conclude.ensures
