use Rattle.node_loop.proofs.Letters.{Puts}
use Rattle.node_loop.proofs.outgoing.put_all.Given as goal

abbrev pub invariant-loop-to : goal.invariant-loop-to
invariant-loop-to l = Puts l.stamp l.fn.letters.items l.to-iterator.rest.items l.fn.tray l.tray
