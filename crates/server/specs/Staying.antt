-- What serving a cluster comes to that stays until a console asks for its end.
use Rattle.std.specs.Prelude.{ℕ, zero, suc, Bool, ◌≡◌, ◌==◌, ◌+◌, ◌/◌, ◌⊎◌, if◌then◌else◌, min, is_ok, All, length, List, ◌++◌, codes, Option, Result, Ok, Err}
use Rattle.std.specs.Global.{Global}
use Rattle.std.specs.declared.thread.PromisedHandle.{PromisedHandle}
use Rattle.std.specs.Io.KnownBytes.{Appends, Keeps}
use Rattle.registry_model.specs.Table.{Table}
use Rattle.term.specs.declared.limits.TheConstants.{ENTRANCES, MOST_SEATS}
use Rattle.term.specs.NodeSets.{set_of}
use Rattle.term.specs.Spelling.{node_bytes}
use Rattle.console.specs.Printing.{error_line}
use Rattle.node_threads.specs.declared.ending.EndedCluster.{EndedCluster}
use Rattle.node_threads.specs.declared.ending.EndFault.{EndFault}
use Rattle.node_threads.specs.declared.ending.EndFault.TheVariants as untold
use Rattle.node_threads.specs.Wires.{IsCrew}
use Rattle.node_threads.specs.Seating.{no_seats}
use Rattle.node_threads.specs.Clusters.{Crewed, nodes_in, seats_more}
use Rattle.node_threads.specs.Seats.{Sitting}
use Rattle.node_threads.specs.Ending.{EndIs}
use Rattle.text_lines.specs.Writing.{AppendsPart}
use Rattle.server.specs.declared.faults.StayFault.{StayFault}
use Rattle.server.specs.declared.faults.StayFault.TheVariants.{Start, Write, Memory}
use Rattle.server.specs.declared.staying.staff.Posted.{Posted}
use Rattle.server.specs.Ending.{closed_line}

-- the words for which it isn't told what a cluster came to
abbrev pub end_text : EndFault → List ℕ
end_text (untold.LeftInHold a) = codes "left_in_hold " ++ node_bytes a
end_text untold.Memory = codes "memory"

-- the line that tells what ending a cluster came to
abbrev pub end_line : {N M : Type 0} → Result (EndedCluster N M) EndFault → List ℕ
end_line (Ok ended) = closed_line ended.events
end_line (Err fault) = error_line (end_text fault)

-- what ending a cluster comes to
abbrev pub Ending : Type 0
Ending = Result (EndedCluster Table Global) EndFault

-- what a cluster is after it gave out so many seats
abbrev pub seated : ℕ → Crewed → Crewed
seated zero c = c
seated (suc n) c = seats_more (seated n c)

-- seats of a cluster were given out, and nothing else of it changed
pub record GivesOut (c d : Crewed) : Type 0 where
  pub many : ℕ
  pub is : d ≡ seated many c

-- how many seats each of so many nodes has that a server lends: all that there are at once, parted evenly
abbrev pub share : ℕ → ℕ
share nodes = if nodes == 0 then 0 else MOST_SEATS / nodes

-- these are so many seats of this node
pub record AreSeatsOf (node many : ℕ) (seats : List Sitting) : Type 0 where
  pub at : All (λ s. s.node ≡ node) seats
  pub counted : length seats ≡ many

-- these are the nodes of the cluster: those that are joined with each other, and those that stand for themselves
abbrev pub AreAll : List ℕ → Crewed → Type 0
AreAll nodes c = (n : ℕ) → set_of nodes n ≡ set_of (nodes_in c) n

-- how many workers a server has that has places for so many consoles: some more, as far as they can be counted
abbrev pub workers_for : ℕ → ℕ
workers_for consoles = min (consoles + ENTRANCES) 4294967295

-- the threads of a server, by the nodes that each was started for
abbrev pub Crew : Type 0
Crew = List (PromisedHandle (List ℕ) Posted)

-- each of them was started for just these nodes
abbrev pub Serve : List ℕ → Crew → Type 0
Serve nodes threads = All (λ t. t.promise.0.value ≡ nodes) threads

-- so many more were started, for just these
pub record Starts (nodes : List ℕ) (many : ℕ) (old new : Crew) : Type 0 where
  pub served : Serve nodes old → Serve nodes new
  pub counted : length new ≡ length old + many

-- so this cluster ended
abbrev pub Ends : Crewed → Ending → Type 0
Ends c ending = EndIs (λ t. t) c.cluster c.lone c.crew ending

-- the writer got the line that tells so, all of it, or a part where it failed; or memory was refused for the line
abbrev pub TellsEnd : Crewed → Option (List ℕ) → Option (List ℕ) → Result Bool StayFault → Type 0
TellsEnd c old new (Ok good) = (ending : Ending) × Ends c ending × (good ≡ is_ok ending) × Appends old new (end_line ending)
TellsEnd c old new (Err Write) = (ending : Ending) × Ends c ending × AppendsPart old new (end_line ending)
TellsEnd c old new (Err Memory) = Keeps old new
TellsEnd c old new (Err Start) = ⊥

-- the writer got this first line from a cluster whose threads are all there, and then the line that tells how it ended. Where it failed it
-- got a part, of the first line or behind it; for the last one memory may be refused
abbrev pub StaysRunning : Crewed → List ℕ → Option (List ℕ) → Option (List ℕ) → Result Bool StayFault → Type 0
StaysRunning c first old new (Ok good) = (ending : Ending) × Ends c ending × (good ≡ is_ok ending) × Appends old new (first ++ end_line ending)
StaysRunning c first old new (Err Write) = AppendsPart old new first
    ⊎ ((ending : Ending) × Ends c ending × AppendsPart old new (first ++ end_line ending))
StaysRunning c first old new (Err Memory) = Appends old new first
StaysRunning c first old new (Err Start) = ⊥

-- A cluster of these nodes gave out seats, from the first on, and ended so
pub record EndsAfter (cluster lone : List ℕ) (ending : Ending) : Type 0 where
  pub first : Crewed
  pub crew : IsCrew cluster lone first.crew
  pub unused : first.seating ≡ no_seats
  pub last : Crewed
  pub seats : GivesOut first last
  pub of : (last.cluster ≡ cluster) × (last.lone ≡ lone) × (last.crew ≡ first.crew)
  pub ends : Ends last ending

-- the writer got this first line, once all was there to serve with, and then the line that tells what the cluster came to: all of them, or
-- a part where it failed, or the first alone where memory was refused for the last. Where not all could be had it got nothing. The
-- result is true where the run of the threads was one of the world's
abbrev pub StaysCluster : List ℕ → List ℕ → List ℕ → Option (List ℕ) → Option (List ℕ) → Result Bool StayFault → Type 0
StaysCluster cluster lone first old new (Ok good) =
    (ending : Ending) × EndsAfter cluster lone ending × (good ≡ is_ok ending) × Appends old new (first ++ end_line ending)
StaysCluster cluster lone first old new (Err Write) = AppendsPart old new first
    ⊎ ((ending : Ending) × EndsAfter cluster lone ending × AppendsPart old new (first ++ end_line ending))
StaysCluster cluster lone first old new (Err Memory) = Appends old new first
StaysCluster cluster lone first old new (Err Start) = Keeps old new
