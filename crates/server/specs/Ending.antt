-- The last line of a cluster that was served.
use Rattle.std.specs.Prelude.{ℕ, List, ◌∷◌, ◌++◌, codes, Result, Ok, Err}
use Rattle.std.specs.Fmt.{decimal}
use Rattle.term.specs.Spelling.{node_bytes}
use Rattle.console.specs.Printing.{ended, error_line}
use Rattle.node_threads.specs.declared.Closed.{Closed}
use Rattle.node_threads.specs.declared.CloseFault.{CloseFault}
use Rattle.node_threads.specs.declared.CloseFault.TheVariants.{Torn, LeftInHold, Stranger, Memory}

-- the words for which a run isn't one of the world's
abbrev pub fault_text : CloseFault → List ℕ
fault_text (Torn a k) = codes "torn " ++ node_bytes a ++ 32 ∷ decimal k
fault_text (LeftInHold a) = codes "left_in_hold " ++ node_bytes a
fault_text (Stranger seat) = codes "stranger " ++ decimal seat
fault_text Memory = codes "memory"

-- the line of so many events
abbrev pub closed_line : ℕ → List ℕ
closed_line events = ended (codes "closed " ++ decimal events)

-- the line that tells what closing a cluster came to
abbrev pub ending_line : {N M : Type 0} → Result (Closed N M) CloseFault → List ℕ
ending_line (Ok closed) = closed_line closed.events
ending_line (Err fault) = error_line (fault_text fault)
