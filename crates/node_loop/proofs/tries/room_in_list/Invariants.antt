use Rattle.std.proofs.Common.{◌≡◌}
use Rattle.node_loop.proofs.tries.room_in_list.Given as goal

abbrev pub invariant-loop : goal.invariant-loop
invariant-loop g l = l.list.items ≡ l.fn.list.items
