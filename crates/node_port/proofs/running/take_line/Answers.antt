use Rattle.std.proofs.Common.{◌≡◌, ◌∙◌, option_copied, subst}
use Rattle.term.specs.Nodes.{name_of}
use Rattle.node_port.specs.Asking.{Reader, last_process, reads_as}
use Rattle.node_port.specs.Commands.{Says}
use Rattle.node_port.proofs.Playing.{line_done}
use Rattle.node_port.proofs.running.take_line.Goals as goal

pub returns-in-Ok : goal.returns-in-Ok
returns-in-Ok c = λ bytes k.
    let a = c.args.port.now in
    let name : c.name-node.result ≡ name_of a.node.log.node = c.name-node.ensures in
    let own : option_copied c.as_ref.result ≡ last_process a.node.log.node a.node.core.watch.watch.last_serial =
    c.as_ref.ensures.value ∙ c.last_process-own.ensures in
    line_done bytes a c.play.new.self c.in-Ok.command c.play.result
    (subst (λ (r : Reader). Says r bytes c.in-Ok.command) (λ j. reads_as (name j) (own j)) (c.in-Ok.ensures bytes k)) c.play.ensures
