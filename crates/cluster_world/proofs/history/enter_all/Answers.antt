use Rattle.std.proofs.Common.{◌<◌, length, arith}
use Rattle.node_core.specs.NodeEventsSeen.{entry_by}
use Rattle.cluster_world.specs.Histories.{number_at}
use Rattle.cluster_world.proofs.Entered.{same_behind, entered_more}
use Rattle.cluster_world.proofs.history.enter_all.Goals as goal

pub loop-entry-preserved : goal.loop-entry-preserved
loop-entry-preserved g c =
    let i = c.loop-entry.entry-index in
    let all = c.deref_mut-entry-items.result.now in
    let within : i < length all = omega (arith, c.loop-entry-test.true, c.loop-entry.auto.entry-items) in
    record {
      entries = entered_more c.loop-entry.entry-items all i c.loop-entry.invariant.left
          (entry_by (number_at c.args.cores.now c.args.stepped.now c.args.own)) _ _ _ _ _ within c.loop-entry.invariant.entries
          c.enter.ensures.entries c.number_for-number.ensures;
      left = same_behind c.loop-entry.entry-items all i c.loop-entry.invariant.left c.enter.new.entry;
      room = omega (arith, c.loop-entry.invariant.room, c.enter.ensures.room);
    }
