use Rattle.std.proofs.Common.{◌≡◌, ◌==◌, not, map, filter, take}
use Rattle.wire_end.specs.Wirings.{new_wire}
use Rattle.wire_end.proofs.wire_end.new_wires.Given as goal

-- there is a link with each other node so far
abbrev pub invariant-loop-other : goal.invariant-loop-other
invariant-loop-other l =
    l.wires.items ≡ map new_wire (filter (λ n. not (n == l.node)) (take l.other-index l.other-items))
