use Rattle.std.proofs.lemmas.Result.{on_ok_weaker}
use Rattle.node_core.proofs.Joining.{notes}
use Rattle.node_core.proofs.node.NodeCore.note.Goals as goal

pub returns-clause-turn : goal.returns-clause-turn
returns-clause-turn g c = λ made fate is.
    on_ok_weaker c.add.result
    (λ more. notes _ c.args.self.now made c.add.new.self fate c.args.notices.now c.self.view_is more is) c.add.ensures
