use Rattle.std.proofs.Common.{map, take}
use Rattle.std.specs.Io.KnownBytes.{Appends}
use Rattle.command_lines.specs.NodeEventsSeen.{answer_of}
use Rattle.command_lines.specs.Printing.{answers_text}
use Rattle.cluster_script.proofs.script.write_answers.Given as goal

-- the lines of the answers so far were written
abbrev pub invariant-loop-answer : goal.invariant-loop-answer
invariant-loop-answer g l =
    Appends (g.W.Write.contents l.fn.writer) (g.W.Write.contents l.writer)
    (answers_text (map answer_of (take l.answer-index l.answers)))
