-- What serving a cluster comes to.
use Rattle.std.specs.Prelude.{ℕ, Bool, false, ◌≡◌, is_ok, IfErr, List, ◌++◌, Option, Result, Ok, Err}
use Rattle.std.specs.Global.{Global}
use Rattle.std.specs.Io.KnownBytes.{Appends, Keeps}
use Rattle.registry_model.specs.Table.{Table}
use Rattle.term.specs.NodeSets.{set_of}
use Rattle.node_threads.specs.declared.Transcript.{Transcript}
use Rattle.node_threads.specs.declared.Closed.{Closed}
use Rattle.node_threads.specs.declared.CloseFault.{CloseFault}
use Rattle.node_threads.specs.Consistent.{is_torn}
use Rattle.node_threads.specs.Wires.{IsCrew}
use Rattle.node_threads.specs.Seating.{no_seats}
use Rattle.node_threads.specs.Clusters.{Crewed}
use Rattle.text_lines.specs.Writing.{AppendsPart}
use Rattle.server.specs.declared.faults.ServeFault.{ServeFault}
use Rattle.server.specs.declared.faults.ServeFault.TheVariants.{Accept, Write, Memory}
use Rattle.server.specs.declared.served.Left.{Left}
use Rattle.server.specs.declared.served.Witness.{Witness}
use Rattle.server.specs.Ending.{ending_line}
use Rattle.server.specs.Served.{IsServed, transcripts_in, witnesses_in}
use Rattle.server.specs.Covering.{ClosesOver}

-- what closing a cluster comes to
abbrev pub Ending : Type 0
Ending = Result (Closed Table Global) CloseFault

-- so this cluster closed, with these transcripts, and with what their seats knew of their nodes; its run isn't torn
pub record Ends (c : Crewed) (transcripts : List Transcript) (witnesses : List Witness) (ending : Ending) : Type 0 where
  pub closes : ClosesOver c transcripts witnesses ending
  pub whole : IfErr ending (λ fault. is_torn fault ≡ false)

-- the writer got the line that tells so, all of it, or a part where it failed; or memory was refused for the line
abbrev pub Tells : Crewed → List Transcript → List Witness → Option (List ℕ) → Option (List ℕ) → Result Bool ServeFault → Type 0
Tells c ts ws old new (Ok good) = (ending : Ending) × Ends c ts ws ending × (good ≡ is_ok ending) × Appends old new (ending_line ending)
Tells c ts ws old new (Err Write) = (ending : Ending) × Ends c ts ws ending × AppendsPart old new (ending_line ending)
Tells c ts ws old new (Err _) = Keeps old new

-- it got nothing
abbrev pub Fails : Option (List ℕ) → Option (List ℕ) → Result Bool ServeFault → Type 0
Fails old new (Ok good) = ⊥
Fails old new (Err Write) = ⊥
Fails old new (Err _) = Keeps old new

-- A cluster of these nodes served so many consoles at most, for just these nodes, each with the next of its seats, from the first on. It
-- closed so, with the transcripts among what they left; and what their seats knew are moments of its loops
pub record EndsWith (cluster lone : List ℕ) (consoles : ℕ) (ending : Ending) : Type 0 where
  pub nodes : List ℕ
  pub all : (n : ℕ) → set_of nodes n ≡ set_of (cluster ++ lone) n
  pub first : Crewed
  pub crew : IsCrew cluster lone first.crew
  pub unused : first.seating ≡ no_seats
  pub last : Crewed
  pub lefts : List Left
  pub served : IsServed nodes consoles first last lefts
  pub of : (last.cluster ≡ cluster) × (last.lone ≡ lone) × (last.crew ≡ first.crew)
  pub ends : Ends last (transcripts_in lefts) (witnesses_in lefts) ending

-- the writer got the line that tells what the cluster came to: all of it, or a part where it failed. After another fault it
-- got nothing. The result is true where the run of the threads was one of the world's
abbrev pub ServesCluster : List ℕ → List ℕ → ℕ → Option (List ℕ) → Option (List ℕ) → Result Bool ServeFault → Type 0
ServesCluster cluster lone consoles old new (Ok good) =
    (ending : Ending) × EndsWith cluster lone consoles ending × (good ≡ is_ok ending) × Appends old new (ending_line ending)
ServesCluster cluster lone consoles old new (Err Write) =
    (ending : Ending) × EndsWith cluster lone consoles ending × AppendsPart old new (ending_line ending)
ServesCluster cluster lone consoles old new (Err Accept) = Keeps old new
ServesCluster cluster lone consoles old new (Err Memory) = Keeps old new
