use Rattle.std.proofs.Common.{refl}
use Rattle.std.proofs.lemmas.Result.{IfOk-weaker}
use Rattle.node_port.specs.Commands.{Taken, TakenAs, Follows}
use Rattle.node_port.specs.Playing.{spent}
use Rattle.node_port.specs.Working.{Settles, RefusesFor, PlaysAt}
use Rattle.node_port.specs.declared.commands.Command.TheVariants.{Down}
use Rattle.node_port.specs.declared.port.Standing.{Standing}
use Rattle.node_port.proofs.Working.{plays, not_lost}
use Rattle.node_port.proofs.port.Port.lose.Goals as goal

pub returns-in-Ok : goal.returns-in-Ok
returns-in-Ok c =
    let a = c.args.self.now in
    let m = record a { end = c.lose.new.self } in
    let b = c.settled.new.self in
    let t = Follows (Down c.args.node.now) in
    IfOk-weaker c.settled.result (λ (s : Standing). Settles s m b)
    (λ (s : Standing). (taken : Taken) × TakenAs (Down c.args.node.now) taken × PlaysAt taken s (spent s) a b)
    (λ s S. (t, refl, plays t s a m b (refl, c.in-Ok.ensures) refl refl refl refl S)) c.settled.ensures

pub returns-in-Err : goal.returns-in-Err
returns-in-Err c =
    let a = c.args.self.now in
    let m = record a { end = c.lose.new.self } in
    let b = c.refuse_heard.new.self in
    let node = c.args.node.now in
    IfOk-weaker c.refuse_heard.result (λ (s : Standing). RefusesFor c.in-Err.fault node 0 s m b)
    (λ (s : Standing). (taken : Taken) × TakenAs (Down node) taken × PlaysAt taken s (spent s) a b)
    (λ s R. not_lost a m b refl refl c.refuse_heard.ensures.stand c.in-Err.fault node s c.in-Err.ensures R)
    c.refuse_heard.ensures.refused
