use Rattle.std.proofs.Common.{◌≡◌, drop, map}
use Rattle.std.specs.Prelude.{find}
use Rattle.node_log.specs.NodeEventsSeen.{answer_of}
use Rattle.replay.specs.Transcripts.{answers_call}
use Rattle.replay.proofs.transcripts.find_answer.Given as goal

abbrev pub invariant-loop-answer : goal.invariant-loop-answer
invariant-loop-answer l = find (answers_call l.node l.number) (map answer_of l.answers)
    ≡ find (answers_call l.node l.number) (map answer_of (drop l.answer-index l.answers))
