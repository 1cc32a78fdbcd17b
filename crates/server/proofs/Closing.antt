-- A cluster that was served is closed.
use Rattle.std.proofs.Common.{ℕ, Bool, ◌≡◌, List, ◌++◌, Option, Result, Ok, Err, MatchResult, ap, ◌∙◌}
use Rattle.std.specs.Prelude.{IfOk}
use Rattle.term.specs.NodeSets.{set_of}
use Rattle.node_threads.specs.Wires.{IsCrew}
use Rattle.node_threads.specs.Clusters.{Crewed}
use Rattle.node_threads.specs.Seating.{no_seats}
use Rattle.server.specs.declared.faults.ServeFault.{ServeFault}
use Rattle.server.specs.declared.faults.ServeFault.TheVariants.{Accept, Write, Memory}
use Rattle.server.specs.declared.faults.TakeFault.{TakeFault}
use Rattle.server.specs.declared.served.Left.{Left}
use Rattle.server.specs.Served.{IsServed, transcripts_in, witnesses_in}
use Rattle.server.specs.Serving.{Ending, Ends, Tells, Fails, EndsWith, ServesCluster}
use Rattle.server.proofs.Doors.{seats_keep}

module _ (cluster lone nodes : List ℕ) (consoles : ℕ) (all : (n : ℕ) → set_of nodes n ≡ set_of (cluster ++ lone) n) (first last : Crewed) (joined : first.cluster ≡ cluster) (others : first.lone ≡ lone) (crew : IsCrew cluster lone first.crew) (unused : first.seating ≡ no_seats) where
  ends_with : (ls : List Left) → IsServed nodes consoles first last ls → (ending : Ending)
      → Ends last (transcripts_in ls) (witnesses_in ls) ending
      → EndsWith cluster lone consoles ending
  ends_with ls served ending ends = record {
    nodes = nodes;
    all = all;
    first = first;
    crew = crew;
    unused = unused;
    last = last;
    lefts = ls;
    served = served;
    of = (ap (λ (k : Crewed). k.cluster) kept ∙ joined, ap (λ (k : Crewed). k.lone) kept ∙ others, ap (λ (k : Crewed). k.crew) kept);
    ends = ends;
  }
    where
      kept : last ≡ record first { seating = last.seating }
      kept = seats_keep nodes first last served.starts served.seated

  module _ (old new : Option (List ℕ)) where
    where_served : (ls : List Left) → IsServed nodes consoles first last ls → (r : Result Bool ServeFault)
        → Tells last (transcripts_in ls) (witnesses_in ls) old new r → ServesCluster cluster lone consoles old new r
    where_served ls served (Ok good) t = (t.0, ends_with ls served t.0 t.1, t.2, t.3)
    where_served ls served (Err Write) t = (t.0, ends_with ls served t.0 t.1, t.2)
    where_served ls served (Err Accept) t = t
    where_served ls served (Err Memory) t = t

    where_failed : (r : Result Bool ServeFault) → Fails old new r → ServesCluster cluster lone consoles old new r
    where_failed (Ok good) t = absurd t
    where_failed (Err Write) t = absurd t
    where_failed (Err Accept) t = t
    where_failed (Err Memory) t = t

    pub serves : {V : Type 0} (items : V → List Left) (served : Result V TakeFault)
        → IfOk served (λ v. IsServed nodes consoles first last (items v)) → (r : Result Bool ServeFault)
        → MatchResult served (λ v. Tells last (transcripts_in (items v)) (witnesses_in (items v)) old new r) (λ _. Fails old new r)
        → ServesCluster cluster lone consoles old new r
    serves items (Ok v) is r t = where_served (items v) is r t
    serves items (Err fault) is r t = where_failed r t
