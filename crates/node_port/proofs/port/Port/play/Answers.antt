use Rattle.std.proofs.Common.{sym, subst}
use Rattle.std.proofs.lemmas.Result.{IfOk-weaker}
use Rattle.node_port.specs.Commands.{Taken, TakenAs, Follows}
use Rattle.node_port.specs.Playing.{spent}
use Rattle.node_port.specs.Working.{PlaysAt}
use Rattle.node_port.specs.declared.commands.Command.{Command}
use Rattle.node_port.specs.declared.commands.Command.TheVariants.{Ask, Steps, Letter, Down, Started, Tick}
use Rattle.node_port.specs.declared.port.Port.{Port}
use Rattle.node_port.specs.declared.port.Standing.{Standing}
use Rattle.node_port.proofs.port.Port.play.Goals as goal

-- how what a command says may come about
abbrev Played : Command → Port → Port → Standing → Type 0
Played command a b s = (taken : Taken) × TakenAs command taken × PlaysAt taken s (spent s) a b

pub returns-in-Ask : goal.returns-in-Ask
returns-in-Ask c =
    let a = c.args.self.now in
    let b = c.ask.new.self in
    let t = Follows (Ask c.in-Ask.tag c.in-Ask.event) in
    IfOk-weaker c.ask.result (λ (s : Standing). PlaysAt t s (spent s) a b) (Played c.args.command a b) (λ s P. (t, sym c.in-Ask.is, P)) c.ask.ensures

pub returns-in-Tick : goal.returns-in-Tick
returns-in-Tick c =
    let a = c.args.self.now in
    let b = c.tick.new.self in
    IfOk-weaker c.tick.result (λ (s : Standing). PlaysAt (Follows Tick) s (spent s) a b) (Played c.args.command a b)
    (λ s P. (Follows Tick, sym c.in-Tick.is, P)) c.tick.ensures

pub returns-in-Letter : goal.returns-in-Letter
returns-in-Letter c =
    let a = c.args.self.now in
    let b = c.hear.new.self in
    IfOk-weaker c.hear.result (Played (Letter c.in-Letter.from c.in-Letter.line) a b) (Played c.args.command a b)
    (λ s P. subst (λ (x : Command). Played x a b s) (sym c.in-Letter.is) P) c.hear.ensures

pub returns-in-Down : goal.returns-in-Down
returns-in-Down c =
    let a = c.args.self.now in
    let b = c.lose.new.self in
    IfOk-weaker c.lose.result (Played (Down c.in-Down.node) a b) (Played c.args.command a b)
    (λ s P. subst (λ (x : Command). Played x a b s) (sym c.in-Down.is) P) c.lose.ensures

pub returns-in-Started : goal.returns-in-Started
returns-in-Started c =
    let a = c.args.self.now in
    let b = c.start.new.self in
    IfOk-weaker c.start.result (Played (Started c.in-Started.node) a b) (Played c.args.command a b)
    (λ s P. subst (λ (x : Command). Played x a b s) (sym c.in-Started.is) P) c.start.ensures

pub returns-in-Steps : goal.returns-in-Steps
returns-in-Steps c =
    let a = c.args.self.now in
    let b = c.count.new.self in
    let t = Follows (Steps c.in-Steps.tag) in
    IfOk-weaker c.count.result (λ (s : Standing). PlaysAt t s (spent s) a b) (Played c.args.command a b) (λ s P. (t, sym c.in-Steps.is, P)) c.count.ensures
