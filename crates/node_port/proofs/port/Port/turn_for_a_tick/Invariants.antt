use Rattle.node_port.specs.Working.{GoesOn}
use Rattle.node_port.proofs.port.Port.turn_for_a_tick.Given as goal

-- each turn so far was made
abbrev pub invariant-loop : goal.invariant-loop
invariant-loop l = GoesOn l.fn.self l.self
