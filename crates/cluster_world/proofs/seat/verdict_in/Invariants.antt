use Rattle.std.proofs.Common.{◌≡◌, drop, map}
use Rattle.node_core.specs.NodeEventsSeen.{answer_of}
use Rattle.cluster_world.specs.Seats.{verdict_in}
use Rattle.cluster_world.proofs.seat.verdict_in.Given as goal

abbrev pub invariant-loop-answer : goal.invariant-loop-answer
invariant-loop-answer l = verdict_in l.node l.number (map answer_of l.answers)
    ≡ verdict_in l.node l.number (map answer_of (drop l.answer-index l.answers))
