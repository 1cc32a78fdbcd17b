use Rattle.std.proofs.Common.{◌≡◌}
use Rattle.node_loop.specs.declared.item.Item.TheVariants.{Letter}
use Rattle.node_loop.proofs.outgoing.put_one.Given as goal

abbrev pub invariant-loop : goal.invariant-loop
invariant-loop l = record {
  tray : l.tray ≡ l.fn.tray;
  item : l.item ≡ Letter (record { stamp = l.stamp; letter = l.fn.letter });
}
