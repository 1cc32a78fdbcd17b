use Rattle.std.proofs.Common.{◌≡◌, ◌+◌, take}
use Rattle.wire_end.specs.Returning.{count_left}
use Rattle.node_port.proofs.port.stamp_behind.Given as goal

-- the stamp behind as many so far
abbrev pub invariant-loop-gone : goal.invariant-loop-gone
invariant-loop-gone l = l.behind ≡ l.stamp + count_left (take l.gone-index l.gone-items)
