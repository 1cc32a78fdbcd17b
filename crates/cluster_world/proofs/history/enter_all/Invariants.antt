use Rattle.std.proofs.Common.{◌≡◌, ◌≤◌, ◌+◌, ◌++◌, map, length, take, drop}
use Rattle.node_core.specs.NodeEventsSeen.{entry_by}
use Rattle.world_history.specs.Histories.{entries_of}
use Rattle.cluster_world.specs.Histories.{number_at}
use Rattle.cluster_world.proofs.history.enter_all.Given as goal

abbrev pub invariant-loop-entry : goal.invariant-loop-entry
invariant-loop-entry g l = record {
  entries : entries_of l.history.entries ≡ entries_of l.initial.history.entries
      ++ map (entry_by (number_at l.cores l.stepped l.own)) (take l.entry-index l.initial.entry-items);
  left : drop l.entry-index l.entry-items ≡ drop l.entry-index l.initial.entry-items;
  room : length l.initial.entry-items ≤ l.entry-index + l.history.room;
}
