use Rattle.std.proofs.Common.{◌≡◌, [], ◌∷◌, ◌++◌, ap, refl, ◌∙◌}
use Rattle.std.proofs.lemmas.Result.{IfOk-weaker}
use Rattle.node_loop.specs.declared.item.Task.{Task}
use Rattle.node_port.specs.Commands.{Follows}
use Rattle.node_port.specs.Playing.{asked, spent}
use Rattle.node_port.specs.Working.{Settles, PlaysAt}
use Rattle.node_port.specs.declared.commands.Command.TheVariants.{Ask}
use Rattle.node_port.specs.declared.port.Standing.{Standing}
use Rattle.node_port.proofs.Working.{plays}
use Rattle.node_port.proofs.port.Port.ask.Goals as goal

pub returns : goal.returns
returns c =
    let a = c.args.self.now in
    let m = record a { end = c.ask.new.self } in
    let b = c.settled.new.self in
    let t = Follows (Ask c.args.tag c.args.event) in
    let given : m.end ≡ record a.end { tasks = a.end.tasks ++ asked c.args.tag c.args.event ∷ [] }
    = c.in_ok-ask.ensures.ok ∙ ap (λ (k : Task). record a.end { tasks = a.end.tasks ++ k ∷ [] }) c.task_of.ensures in
    IfOk-weaker c.settled.result (λ (s : Standing). Settles s m b) (λ (s : Standing). PlaysAt t s (spent s) a b)
    (λ s S. plays t s a m b (refl, given) refl refl refl refl S) c.settled.ensures
