-- What ending a cluster comes to, whether its steps were kept or not.
use Rattle.std.specs.Prelude.{ℕ, true, All, ◌≡◌, ◌+◌, ◌++◌, List, [], ◌∷◌, map, length, Vec, Result, Ok, Err}
use Rattle.std.specs.declared.alloc.Global.{Global}
use Rattle.registry_model.specs.Table.{Table}
use Rattle.protocol_model.specs.World.{Opening}
use Rattle.closings.specs.Merging.{Step, events_in, world_behind}
use Rattle.closings.specs.Laws.{HasARun}
use Rattle.node_loop.specs.Openings.{opening_with}
use Rattle.replay.specs.Agreeing.{HeadlineAfter}
use Rattle.replay.specs.Locks.{LocksAfter}
use Rattle.replay.specs.Ends.{End, logs_of, EndedWell}
use Rattle.replay.specs.Consistent.{seen_logs}
use Rattle.replay.specs.Replaying.{AreAll}
use Rattle.node_threads.specs.declared.ending.EndedCluster.{EndedCluster}
use Rattle.node_threads.specs.declared.ending.EndFault.{EndFault}
use Rattle.node_threads.specs.declared.ending.EndFault.TheVariants.{LeftInHold, Memory}
use Rattle.node_seats.specs.Books.{Known}
use Rattle.node_threads.specs.Wires.{Wired}
use Rattle.node_threads.specs.Ended.{owner, FailsAlone, EndsInOrder, AllPast}
use Rattle.node_threads.specs.Closing.{GivesBack}
use Rattle.replay.specs.Worlds.{of_nodes}
use Rattle.replay.specs.LeftoversOfWorlds.{NothingIsLeft}

-- how many steps these ends tell of
abbrev pub steps_in : List End → ℕ
steps_in [] = 0
steps_in (e ∷ es) = length e.log.entries + steps_in es

-- Behind these steps of a world that opened so the headline and the laws of clients' locks hold, and nothing is left over
pub record HoldsBehind (o : Opening) (ss : List Step) : Type 0 where
  pub headline : HeadlineAfter o (events_in ss) (world_behind o ss)
  pub locks : LocksAfter o (events_in ss) (world_behind o ss)
  pub leaves_nothing : NothingIsLeft (of_nodes o) (events_in ss) (world_behind o ss)

-- A world that opens with these lists has a run of so many steps, those of these ends' logs, merged, and behind it the tables of the ends
pub record RanOut (cluster lone : List ℕ) (ends : List End) (events : ℕ) : Type 0 where
  pub tables : ℕ → Table
  pub theirs : AreAll (λ e. e.table ≡ tables (owner e)) ends
  pub run : HasARun (opening_with (cluster ++ lone) cluster) (seen_logs (logs_of ends)) tables
  pub count : events ≡ length run.steps
  pub holds : HoldsBehind (opening_with (cluster ++ lone) cluster) run.steps

-- all of these ended as they should
abbrev pub AreWell : List End → Type 0
AreWell [] = Unit {0}
AreWell (e ∷ es) = EndedWell e × AreWell es

-- the node and the last table of an end, and what is told of them
abbrev pub last_table : End → ℕ × Table
last_table e = (owner e, e.table)

abbrev pub table_told : {N : Type 0} → (N → Table) → ℕ × N → ℕ × Table
table_told contents t = (t.0, contents t.1)

-- the number of their steps is told, and the table of each, and all ended as they should
pub record TellsOf {N M : Type 0} (contents : N → Table) (ends : List End) (ended : EndedCluster N M) : Type 0 where
  pub count : ended.events ≡ steps_in ends
  pub tables : map (table_told contents) ended.tables.items ≡ map last_table ends
  pub well : AreWell ends

-- this end more is told of
pub record Adds {N M : Type 0} (contents : N → Table) (e : End) (old new : EndedCluster N M) : Type 0 where
  pub count : new.events ≡ old.events + length e.log.entries
  pub table : N
  pub contents_are : contents table ≡ e.table
  pub tables : new.tables.items ≡ old.tables.items ++ (owner e, table) ∷ []
  pub well : EndedWell e

-- the end isn't told of where its thread ended alone; of want of memory nothing is said
abbrev pub IsUntold : EndFault → End → Type 0
IsUntold (LeftInHold a) e = (owner e ≡ a) × (e.ended_alone ≡ true)
IsUntold Memory e = Unit {0}

-- of these the first that ended alone is this node's
pub record EndsAlone (ends : List End) (a : ℕ) : Type 0 where
  pub before : List End
  pub end : End
  pub rest : List End
  pub parts : ends ≡ before ++ end ∷ rest
  pub well : AreWell before
  pub whose : owner end ≡ a
  pub alone : end.ended_alone ≡ true

-- why they aren't told of
abbrev pub IsWhy : EndFault → List End → Type 0
IsWhy (LeftInHold a) ends = EndsAlone ends a
IsWhy Memory ends = Unit {0}

module _ {N M : Type 0} (contents : N → Table) (cluster lone : List ℕ) (crew : List Wired) where
  -- The threads of these nodes gave back these ends, which are told of; none ended alone, and the world has a run of them
  pub record Ends (ended : EndedCluster N M) : Type 0 where
    pub ends : List End
    pub back : GivesBack cluster lone crew ends
    pub told : TellsOf contents ends ended
    pub order : All EndsInOrder ends
    pub run : RanOut cluster lone ends ended.events

  -- so, or the first that ended alone is this node's, and the last turn of its thread failed, or memory was refused
  abbrev pub EndIs : Result (EndedCluster N M) EndFault → Type 0
  EndIs (Ok ended) = Ends ended
  EndIs (Err (LeftInHold a)) = (ends : List End) × GivesBack cluster lone crew ends × EndsAlone ends a × FailsAlone ends a
  EndIs (Err Memory) = Unit {0}

  -- so, and these are the pasts of their books, up to those ends
  abbrev pub EndTells : Result (EndedCluster N M × Vec Known Global) EndFault → Type 0
  EndTells (Ok told) = (ends : Ends told.0) × AllPast crew ends.ends told.1.items
  EndTells (Err fault) = EndIs (Err fault)
