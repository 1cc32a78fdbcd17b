use Rattle.node_log.specs.Logs.{entry_of}
use Rattle.replay.proofs.Parts.{answered_at_once, unanswered_at_once}
use Rattle.replay.proofs.transcripts.answer_at.Goals as goal

pub returns-in-Some : goal.returns-in-Some
returns-in-Some c =
    answered_at_once c.args.log.now.node c.node.result.now c.args.number c.args.kind c.args.log.now.entries c.args.at
    (entry_of c.args.log.now.node c.in-Some.entry) c.in-AtOnce.is c.in-Some.ensures c.node.ensures _ c.find_answer.ensures

pub returns-in-None : goal.returns-in-None
returns-in-None c =
    unanswered_at_once c.args.log.now.node c.args.number c.args.kind c.args.log.now.entries c.args.at c.in-AtOnce.is
    c.in-None.ensures
