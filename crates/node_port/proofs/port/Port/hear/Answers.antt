use Rattle.std.proofs.Common.{refl}
use Rattle.std.proofs.lemmas.Result.{IfOk-weaker}
use Rattle.node_port.specs.Commands.{Taken, TakenAs, Follows}
use Rattle.node_port.specs.Playing.{spent}
use Rattle.node_port.specs.Working.{Settles, RefusesFor, PlaysAt}
use Rattle.node_port.specs.declared.commands.Command.TheVariants.{Letter}
use Rattle.node_port.specs.declared.port.Standing.{Standing}
use Rattle.node_port.proofs.Working.{plays, not_heard}
use Rattle.node_port.proofs.port.Port.hear.Goals as goal

pub returns-in-Ok : goal.returns-in-Ok
returns-in-Ok c =
    let a = c.args.self.now in
    let m = record a { end = c.hear.new.self } in
    let b = c.settled.new.self in
    let t = Follows (Letter c.args.from.now c.args.line) in
    IfOk-weaker c.settled.result (λ (s : Standing). Settles s m b)
    (λ (s : Standing). (taken : Taken) × TakenAs (Letter c.args.from.now c.args.line) taken × PlaysAt taken s (spent s) a b)
    (λ s S. (t, refl, plays t s a m b (refl, c.in-Ok.ensures) refl refl refl refl S)) c.settled.ensures

pub returns-in-Err : goal.returns-in-Err
returns-in-Err c =
    let a = c.args.self.now in
    let m = record a { end = c.hear.new.self } in
    let b = c.refuse_heard.new.self in
    let from = c.args.from.now in
    IfOk-weaker c.refuse_heard.result (λ (s : Standing). RefusesFor c.in-Err.fault from c.args.line.number s m b)
    (λ (s : Standing). (taken : Taken) × TakenAs (Letter from c.args.line) taken × PlaysAt taken s (spent s) a b)
    (λ s R. not_heard a m b refl refl c.refuse_heard.ensures.stand c.in-Err.fault from c.args.line s c.in-Err.ensures R)
    c.refuse_heard.ensures.refused
