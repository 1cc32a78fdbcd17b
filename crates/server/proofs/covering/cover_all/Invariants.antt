use Rattle.std.proofs.Common.{◌++◌, take}
use Rattle.std.specs.Prelude.{All}
use Rattle.server.specs.Covering.{IsCovered}
use Rattle.server.proofs.covering.cover_all.Given as goal

abbrev pub invariant-loop-witness : goal.invariant-loop-witness
invariant-loop-witness l = All (IsCovered l.pasts (l.cluster ++ l.lone)) (take l.witness-index l.witnesses)
