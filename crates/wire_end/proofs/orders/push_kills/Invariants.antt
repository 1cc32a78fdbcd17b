use Rattle.std.proofs.Common.{◌≡◌, ◌++◌, string_bytes, take}
use Rattle.std.specs.Prelude.{flat_map}
use Rattle.wire_end.specs.Orders.{kill_line}
use Rattle.wire_end.proofs.orders.push_kills.Given as goal

-- the text has the lines of the processes so far behind it
abbrev pub invariant-loop-process : goal.invariant-loop-process
invariant-loop-process l =
    string_bytes l.text ≡ string_bytes l.fn.text ++ flat_map (kill_line l.node) (take l.process-index l.kills)
