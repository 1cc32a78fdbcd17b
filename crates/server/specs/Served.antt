-- What consoles begin with, and what they leave behind.
use Rattle.std.specs.Prelude.{ℕ, true, ◌≡◌, ◌≤◌, List, [], ◌∷◌, Option, Ok, Err, length}
use Rattle.node_threads.specs.declared.Transcript.{Transcript}
use Rattle.node_threads.specs.Faults.{IsSeatRefused}
use Rattle.node_threads.specs.Seating.{are_spent}
use Rattle.node_threads.specs.Clusters.{Crewed, next_seats, seats_more}
use Rattle.server.specs.declared.served.Start.{Start}
use Rattle.server.specs.declared.served.Left.{Left}
use Rattle.server.specs.declared.served.Witness.{Witness}
use Rattle.server.specs.declared.served.Left.TheVariants as left
use Rattle.server.specs.Attending.{Place, Attends}

-- some console of a cluster of these nodes got such a seat and left this of it
pub record IsAttended (nodes : List ℕ) (place : Place) (left : Left) : Type 0 where
  pub input : Option (List ℕ)
  pub rest : Option (List ℕ)
  pub old : Option (List ℕ)
  pub new : Option (List ℕ)
  pub attends : Attends nodes input rest old new place left

-- what a console leaves behind that began so: what is left of its seat, or that itself, where it asked for nothing
abbrev pub LeavesBehind : Start → Left → Type 0
LeavesBehind s (left.Served transcript witness) = IsAttended s.nodes s.place (left.Served transcript witness)
LeavesBehind s (left.Unserved place) = place ≡ s.place

-- so do all of these, in their order
abbrev pub AllLeave : List Start → List Left → Type 0
AllLeave [] [] = Unit {0}
AllLeave (s ∷ ss) (l ∷ ls) = LeavesBehind s l × AllLeave ss ls
AllLeave _ _ = ⊥

-- the transcripts among these
abbrev pub transcripts_in : List Left → List Transcript
transcripts_in [] = []
transcripts_in (left.Served transcript witness ∷ ls) = transcript ∷ transcripts_in ls
transcripts_in (left.Unserved place ∷ ls) = transcripts_in ls

-- what the seats of those that had one knew of their nodes
abbrev pub witnesses_in : List Left → List Witness
witnesses_in [] = []
witnesses_in (left.Served transcript witness ∷ ls) = witness ∷ witnesses_in ls
witnesses_in (left.Unserved place ∷ ls) = witnesses_in ls

-- a cluster gave out a seat, the next one, or it had none to give, for this cause
abbrev pub Seats : Crewed → Place → Crewed → Type 0
Seats c (Ok free) d = (free ≡ next_seats c) × (d ≡ seats_more c)
Seats c (Err fault) d = (d ≡ c) × IsSeatRefused fault true (are_spent c.seating)

-- it did so for each of these consoles, one after another, which are served for these nodes
abbrev pub SeatsAll : List ℕ → Crewed → List Start → Crewed → Type 0
SeatsAll nodes c [] d = d ≡ c
SeatsAll nodes c (s ∷ ss) d = (s.nodes ≡ nodes) × (m : Crewed) × Seats c s.place m × SeatsAll nodes m ss d

-- so many consoles at most were taken, each with a seat of this cluster, and this is what they left behind, each in its turn
pub record IsServed (nodes : List ℕ) (consoles : ℕ) (c d : Crewed) (lefts : List Left) : Type 0 where
  pub starts : List Start
  pub few : length starts ≤ consoles
  pub seated : SeatsAll nodes c starts d
  pub left : AllLeave starts lefts
