use Rattle.std.proofs.Common.{◌≡◌, ◌++◌, map}
use Rattle.replay.specs.Ends.{end_by}
use Rattle.node_threads.specs.Ending.{TellsOf}
use Rattle.node_threads.proofs.ending.tell_of.Given as goal

abbrev pub invariant-loop-end : goal.invariant-loop-end
invariant-loop-end g l = record {
  parts : l.fn.ends.items ≡ l.yielded ++ l.end-iterator.rest.items;
  told : TellsOf g.N.Names.contents (map (end_by g.N.Names.contents g.L.Record.logged) l.yielded) l.ended;
}
