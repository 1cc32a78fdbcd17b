use Rattle.node_events.specs.Seen.{unnumbered}
use Rattle.node_core.proofs.Judging.{judges}
use Rattle.node_core.proofs.node.NodeCore.judge.Goals as goal

pub returns-clause-turn : goal.returns-clause-turn
returns-clause-turn g c =
    let id = c.copy.ensures in let holder = c.copy-2.ensures in let to = c.copy-3.ensures in let id2 =
    c.copy-4.ensures in let holder2 = c.copy-5.ensures in
    let made = c.send.ensures.made in
    judges c.args.self.now _ c.args.turn.now c.send.new.self c.args.from.now c.args.id.now c.args.holder.now
    c.in_ok-verdict.verdict
    c.is_grant-granted.result c.ask.new.self c.self.view_is (cc c.in_ok-verdict.ensures.verdict)
    c.is_grant-granted.ensures (cc c.in_ok-verdict.ensures.table) (cc made) unnumbered
