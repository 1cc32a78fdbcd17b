use Rattle.std.proofs.Math.Path.{ap₂}
use Rattle.std.proofs.lemmas.Result.{on_ok_weaker}
use Rattle.protocol_model.specs.Node.{Op as AnyOp}
use Rattle.node_core.proofs.Writing.{queues_admission}
use Rattle.node_core.proofs.node.NodeCore.asked_to_admit.Goals as goal

pub returns-clause-turn : goal.returns-clause-turn
returns-clause-turn g c = λ known.
    on_ok_weaker c.enqueue.result
    (λ ok. queues_admission _ c.args.self.now c.args.turn.now c.enqueue.new.self _ c.args.from.now c.args.pairs.now.items
    c.self.view_is c.if-not-self.false ok (ap₂ (λ j ps. AnyOp.Admission j ps) c.copy-2.ensures c.in_ok-copied_pairs.ensures))
    c.enqueue.ensures.ok
