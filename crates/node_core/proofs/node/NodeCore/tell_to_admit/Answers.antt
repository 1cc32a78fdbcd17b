use Rattle.std.proofs.lemmas.Result.{on_ok_weaker}
use Rattle.node_core.proofs.Joining.{admits_by}
use Rattle.node_core.proofs.node.NodeCore.tell_to_admit.Goals as goal

pub returns-clause-told : goal.returns-clause-told
returns-clause-told g c =
    on_ok_weaker c.send_copies.result
    (λ sends. admits_by _ c.args.self.now c.args.joiner.now c.args.settled.now c.args.turn.now c.send_copies.new.self _
    c.self.view_is c.in_ok-admission.ensures sends)
    c.send_copies.ensures.letters
