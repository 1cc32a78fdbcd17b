-- Consistent ends have a run, and play to their end.
use Rattle.std.specs.Prelude.{ℕ, zero, suc, ◌≡◌, ◌+◌, ◌≤◌, length, map, List, []}
use Rattle.registry_model.specs.Table.{Table}
use Rattle.protocol_model.specs.Node.{opening_node}
use Rattle.protocol_model.specs.World.{Opening, in_cluster, opening_world}
use Rattle.closings.specs.Alone.{LogEntry, Made, node_behind, AreConsistent}
use Rattle.closings.specs.Merging.{Step, IsMerged, Rises, IsNext, AreNext, RisesBehind, world_behind, Takes, TakesAll}

-- the ends of nodes, their logs and their last tables, are consistent: the logs are those of consistent steps, behind which each node
-- has the table of its end
pub record ConsistentEnds (o : Opening) (logs : ℕ → List LogEntry) (tables : ℕ → Table) : Type 0 where
  pub course : ℕ → List Made
  pub logged : (a : ℕ) → map (λ d. d.entry) (course a) ≡ logs a
  pub alone : AreConsistent o course
  pub last : (a : ℕ) → (node_behind (opening_node (in_cluster o) a) (course a)).replica.table ≡ tables a

-- the world takes all of these steps, and has these tables behind them
pub record PlaysToEnd (o : Opening) (tables : ℕ → Table) (ss : List Step) : Type 0 where
  pub takes : TakesAll o (opening_world o) ss
  pub last : (a : ℕ) → ((world_behind o ss).node a).replica.table ≡ tables a

-- consistent ends, merged into one run, are played to their end, and the world's tables are then theirs
abbrev pub ConsistentEndsPlay : Type 0
ConsistentEndsPlay = (o : Opening) (logs : ℕ → List LogEntry) (tables : ℕ → Table) (ss : List Step)
    → ConsistentEnds o logs tables → IsMerged logs ss → PlaysToEnd o tables ss

-- behind any beginning of that run the stamp of what comes next rises in its log, and the world takes it
abbrev pub ConsistentEndsGoOn : Type 0
ConsistentEndsGoOn = (o : Opening) (logs : ℕ → List LogEntry) (tables : ℕ → Table) (before : List Step) (s : Step)
    → ConsistentEnds o logs tables → AreNext logs [] before → IsNext logs before s
    → RisesBehind logs before s × Takes o (world_behind o before) s

-- how many steps the nodes below n have in their logs
abbrev pub steps_below : (ℕ → List LogEntry) → ℕ → ℕ
steps_below logs zero = 0
steps_below logs (suc n) = steps_below logs n + length (logs n)

-- a run that these logs are merged into, with all steps of the nodes below n and no others
pub record AreMerged (logs : ℕ → List LogEntry) (n : ℕ) : Type 0 where
  pub steps : List Step
  pub merged : IsMerged logs steps
  pub count : length steps ≡ steps_below logs n

-- logs in which stamps rise are merged, where only nodes below n have entries
abbrev pub LogsMerge : Type 0
LogsMerge = (logs : ℕ → List LogEntry) (n : ℕ)
    → ((a k : ℕ) → Rises (logs a) k) → ((a : ℕ) → n ≤ a → logs a ≡ [])
    → AreMerged logs n

-- a run of all that these logs tell of, which a world that opened so plays to its end, with these tables
pub record HasARun (o : Opening) (logs : ℕ → List LogEntry) (tables : ℕ → Table) : Type 0 where
  pub steps : List Step
  pub merged : IsMerged logs steps
  pub plays : PlaysToEnd o tables steps
  pub count : length steps ≡ steps_below logs o.bound

-- consistent ends have a run
abbrev pub ConsistentEndsHaveARun : Type 0
ConsistentEndsHaveARun = (o : Opening) (logs : ℕ → List LogEntry) (tables : ℕ → Table)
    → ConsistentEnds o logs tables → HasARun o logs tables
