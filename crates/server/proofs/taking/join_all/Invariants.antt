use Rattle.std.proofs.Common.{◌≡◌, true}
use Rattle.server.specs.Served.{AllLeave}
use Rattle.server.specs.Taking.{starts_of}
use Rattle.server.proofs.taking.join_all.Given as goal

abbrev pub invariant-loop-thread : goal.invariant-loop-thread
invariant-loop-thread g l = l.whole ≡ true → AllLeave (starts_of l.yielded) l.lefts.items
