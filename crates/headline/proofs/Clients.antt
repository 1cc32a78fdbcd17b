-- Clients' locks: at a running node no resource is held under two requesters.
use Rattle.headline.specs.Worlds.{OfNodes, Excludes}
use Rattle.protocol_model.specs.World.{Opening}
use Rattle.client_locks.proofs.Walking.{Grounds}
use Rattle.client_locks.proofs.Tallies.{exclusion_from}
use Rattle.headline.proofs.Together.{All, all_opens, all_keeps, widens}

-- what clients' locks rest on
pub grounds : (o : Opening) → Grounds o (All o)
grounds o = record {
  opens = all_opens o;
  keeps = λ a w r I sorted m. all_keeps o a w r I sorted m;
  proper = λ w I. I.proper;
  wide = λ w I once. widens o w I once;
}

pub exclusion : OfNodes Excludes
exclusion = exclusion_from All grounds
