use Rattle.std.proofs.Common.{sym, ◌∙◌}
use Rattle.node_log.specs.NodeEventsSeen.{answer_of}
use Rattle.node_log.specs.Logs.{entry_of}
use Rattle.replay.proofs.Parts.{answered_here, answered_later}
use Rattle.replay.proofs.transcripts.later_answer.Goals as goal

pub returns-in-Some-find_answer : goal.returns-in-Some-find_answer
returns-in-Some-find_answer c =
    answered_here c.args.log.now.node c.node.result.now c.args.number c.args.log.now.entries c.loop-place.place
    (entry_of c.args.log.now.node c.in-Some.entry) c.in-Some.ensures c.node.ensures
    (answer_of c.in-Some-find_answer.answer.now) c.in-Some-find_answer.ensures
    ∙ sym c.loop-place.invariant

pub loop-place-preserved : goal.loop-place-preserved
loop-place-preserved c =
    c.loop-place.invariant
    ∙ answered_later c.args.log.now.node c.node.result.now c.args.number c.args.log.now.entries c.loop-place.place
    (entry_of c.args.log.now.node c.in-Some.entry) c.in-Some.ensures c.node.ensures c.in_default-find_answer.ensures
