use Rattle.node_port.proofs.Beginnings.{AreApart}
use Rattle.node_port.proofs.port.is_one_of_each.Given as goal

-- no two that stand side by side so far have one name
abbrev pub invariant-loop-place : goal.invariant-loop-place
invariant-loop-place l = AreApart l.nodes l.place
