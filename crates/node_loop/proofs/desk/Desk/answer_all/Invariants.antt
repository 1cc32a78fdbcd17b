use Rattle.std.proofs.Common.{◌≡◌, drop, map}
use Rattle.node_log.specs.NodeEventsSeen.{answer_of}
use Rattle.node_loop.specs.Desks.{all_answered}
use Rattle.node_loop.proofs.desk.Desk.answer_all.Given as goal

abbrev pub invariant-loop-answer : goal.invariant-loop-answer
invariant-loop-answer l =
    all_answered l.stamp l.own (map answer_of (drop l.answer-index l.answers)) l.self
    ≡ all_answered l.stamp l.own (map answer_of l.answers) l.fn.self
