-- Ends that are consistent: each node's is such as the node has it that is played alone.
use Rattle.std.specs.Prelude.{ℕ, Bool, true, false, ◌≡◌, ◌++◌, List, map}
use Rattle.registry_model.specs.Table.{Table}
use Rattle.closings.specs.Alone.{LogEntry as Alone}
use Rattle.closings.specs.Laws.{ConsistentEnds}
use Rattle.node_log.specs.Openings.{opening_with}
use Rattle.node_log.specs.Entries.{Logged}
use Rattle.node_log.specs.Seen.{seen_entry}
use Rattle.replay.specs.declared.faults.CloseFault.{CloseFault}
use Rattle.replay.specs.declared.faults.CloseFault.TheVariants.{Torn}
use Rattle.replay.specs.Ends.{End, logs_of}
use Rattle.replay.specs.Replaying.{AreAll}
use Rattle.replay.specs.Steps.{log_of}

-- the log of each node
abbrev pub seen_logs : List Logged → ℕ → List Alone
seen_logs logs a = map seen_entry (log_of a logs)

-- From the opening of these lists on each node, played alone by its own log and by the letters that the others' logs send it, does
-- what its log says, and has the table of its end behind it
pub record AreConsistent (cluster lone : List ℕ) (ends : List End) : Type 0 where
  pub tables : ℕ → Table
  pub theirs : AreAll (λ e. e.table ≡ tables e.log.node) ends
  pub consistent : ConsistentEnds (opening_with (cluster ++ lone) cluster) (seen_logs (logs_of ends)) tables

-- the run is torn
abbrev pub is_torn : CloseFault → Bool
is_torn (Torn a k) = true
is_torn _ = false
