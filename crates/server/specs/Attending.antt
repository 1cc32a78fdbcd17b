-- One console, from its greeting to its end.
use Rattle.std.specs.Prelude.{ℕ, true, false, ◌≡◌, ◌⊎◌, is_some, IfOk, List, Option, Some, None, Result, Ok, Err}
use Rattle.term.specs.NodeSets.{set_of}
use Rattle.node_threads.specs.Seats.{Sitting, first_at}
use Rattle.node_threads.specs.declared.SeatFault.{SeatFault}
use Rattle.console.specs.Printing.{error_line}
use Rattle.term.specs.declared.limits.TheConstants.{MOST_LINES}
use Rattle.text_lines.specs.Writing.{AppendsPart}
use Rattle.text_lines.specs.declared.faults.StreamFault.{StreamFault}
use Rattle.console.specs.Consoles.{Serves, Stops}
use Rattle.console.specs.Greetings.{Greets, GreetStops}
use Rattle.console.specs.Outcomes.{seat_word}
use Rattle.console.specs.Seats.{GoesOn, SeatAnswers, SeatStands, IsTranscript}
use Rattle.server.specs.declared.served.Left.{Left}
use Rattle.server.specs.declared.served.Left.TheVariants.{Served, Unserved}

-- the seat that a console has, by those that it may become, or why it has none
abbrev pub Place : Type 0
Place = Result (List Sitting) SeatFault

-- the seat can be at each of these nodes
abbrev pub Reaches : List ℕ → Place → Type 0
Reaches nodes place = IfOk place (λ free. (n : ℕ) → set_of nodes n ≡ true → is_some (first_at n free) ≡ true)

-- the console read its lines and wrote their answers so, until it ended well or with a fault
abbrev pub Talks : Option (List ℕ) → Option (List ℕ) → Option (List ℕ) → Option (List ℕ) → Sitting → Sitting → Type 0
Talks input rest old new s t =
    Serves SeatAnswers SeatStands false MOST_LINES input rest old new s t ⊎ ((f : StreamFault) × Stops SeatAnswers SeatStands false MOST_LINES input rest old new s t f)

-- this is left of the seat: its transcript, and the moments of its node that it knew
abbrev pub IsLeftOf : Sitting → Left → Type 0
IsLeftOf s (Served transcript witness) = IsTranscript s transcript × (witness.node ≡ s.node)
    × (witness.token.book ≡ s.seen.known.book) × (witness.token.log ≡ s.seen.known.log)
IsLeftOf s (Unserved place) = ⊥

-- a console was served from this seat, and this is left of that
pub record LeavesSeat (input rest old new : Option (List ℕ)) (seat : Sitting) (left : Left) : Type 0 where
  pub last : Sitting
  pub talks : Talks input rest old new seat last
  pub own : GoesOn seat last
  pub kept : IsLeftOf last left

-- it was served from its seat at this node
pub record IsSeated (node : ℕ) (input rest old new : Option (List ℕ)) (free : List Sitting) (left : Left) : Type 0 where
  pub seat : Sitting
  pub at : first_at node free ≡ Some seat
  pub leaves : LeavesSeat input rest old new seat left

-- it has no seat, and was told why, or a part of that; nothing more was read
pub record IsUnseated (input rest old new : Option (List ℕ)) (fault : SeatFault) : Type 0 where
  pub same : rest ≡ input
  pub wrote : AppendsPart old new (error_line (seat_word fault))

-- it was attached to this node, and this is left of it: a console that has a seat is served there
abbrev pub Sits : ℕ → Option (List ℕ) → Option (List ℕ) → Option (List ℕ) → Option (List ℕ) → Place → Left → Type 0
Sits node input rest old new (Ok free) (Served transcript witness) = IsSeated node input rest old new free (Served transcript witness)
Sits node input rest old new (Err fault) (Unserved place) = (place ≡ Err fault) × IsUnseated input rest old new fault
Sits node input rest old new _ _ = ⊥

-- it was greeted and attached to one of these nodes
pub record IsAttached (nodes : List ℕ) (input rest old new : Option (List ℕ)) (place : Place) (left : Left) : Type 0 where
  pub node : ℕ
  pub unread : Option (List ℕ)
  pub written : Option (List ℕ)
  pub greeted : Greets None nodes input unread old written (Some node)
  pub sits : Sits node unread rest written new place left

-- it was attached to none, and gave its seat back: its first line is refused, or it has none, or that line wasn't read or answered
pub record IsUnattached (nodes : List ℕ) (input rest old new : Option (List ℕ)) (place : Place) (left : Left) : Type 0 where
  pub back : left ≡ Unserved place
  pub greeted : Greets None nodes input rest old new None ⊎ ((f : StreamFault) × GreetStops None nodes input rest old new f)

-- a console of a cluster of these nodes ended that had this place, and this is left of it
abbrev pub Attends : List ℕ → Option (List ℕ) → Option (List ℕ) → Option (List ℕ) → Option (List ℕ) → Place → Left → Type 0
Attends nodes input rest old new place left =
    IsAttached nodes input rest old new place left ⊎ IsUnattached nodes input rest old new place left
