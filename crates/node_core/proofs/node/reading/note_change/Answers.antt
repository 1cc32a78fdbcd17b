use Rattle.std.proofs.Common.{refl}
use Rattle.exit_watch.specs.WatchState.{process_of}
use Rattle.exit_watch.proofs.Owners.{owns-changed}
use Rattle.name_table.specs.Changes.{change_of}
use Rattle.node_core.proofs.Noting.{not_put}
use Rattle.node_core.proofs.node.reading.note_change.Goals as goal

pub returns-in_default : goal.returns-in_default
returns-in_default c = record {
  node = refl;
  watch = refl;
  ok = λ t sus s dead o. sus s dead (owns-changed (process_of c.args.watch.now s) (change_of c.args.change.now) t
      (not_put c.args.change.now c.in_default.not-Put) o);
  suspected = λ t sus. sus;
}
