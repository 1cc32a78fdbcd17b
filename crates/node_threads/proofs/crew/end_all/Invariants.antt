use Rattle.std.proofs.Common.{◌≡◌, true, map}
use Rattle.replay.specs.Ends.{end_by}
use Rattle.node_threads.specs.Ended.{AllReturn, AllPast}
use Rattle.node_threads.proofs.crew.end_all.Given as goal

abbrev pub invariant-loop-one-2 : goal.invariant-loop-one-2
invariant-loop-one-2 g l = record {
  back : l.whole ≡ true
      → AllReturn l.yielded (map (end_by g.N.Names.contents g.L.Record.logged) l.gathered.ends.items) (map (λ row. row.items) l.gathered.rows.items) l.gathered.intakes.items;
  pasts : l.whole ≡ true → AllPast l.yielded (map (end_by g.N.Names.contents g.L.Record.logged) l.gathered.ends.items) l.gathered.pasts.items;
}
