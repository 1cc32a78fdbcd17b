-- What is put on lines.
use Rattle.std.specs.Prelude.{ℕ, Bool, ◌==◌, Option, is_some, List, [], ◌∷◌, ◌++◌, if◌then◌else◌}
use Rattle.std.specs.List.{flat_map, position}
use Rattle.link.specs.Mailboxes.{Room}
use Rattle.shared_table.specs.declared.LocalEvent.{LocalEvent}
use Rattle.shared_table.specs.declared.Item.{Item}
use Rattle.shared_table.specs.declared.Item.TheVariants.{Letter, Task}
use Rattle.node_seats.specs.declared.parcel.Parcel.{Parcel}

-- a line: the node that it leads to, the sender's number there, the inbox that it leads into, and what was put on it, the oldest first
pub record Sent (L : Type 0) : Type 0 where
  pub receiver : ℕ
  pub number : ℕ
  pub room : Room (Parcel L)
  pub parcels : List (Parcel L)

module _ {L : Type 0} where
  -- an item more on a line, under its number
  abbrev pub with_parcel : L → Sent L → Sent L
  with_parcel item line = record line { parcels = line.parcels ++ record { number = line.number; item = item } ∷ [] }

  -- the place of the line to a node among these
  abbrev pub place : ℕ → List (Sent L) → Option ℕ
  place to lines = position (λ line. line.receiver == to) lines

  -- one of them leads to this node
  abbrev pub has : ℕ → List (Sent L) → Bool
  has to lines = is_some (place to lines)

  -- an item more on the line to this node, the first such
  abbrev pub with_parcel_to : ℕ → L → List (Sent L) → List (Sent L)
  with_parcel_to to item [] = []
  with_parcel_to to item (line ∷ lines) =
      if line.receiver == to then with_parcel item line ∷ lines else line ∷ with_parcel_to to item lines

-- the event that an item asks for, if it is a task
abbrev pub event_in : Item → List LocalEvent
event_in (Letter l) = []
event_in (Task t) = t.event ∷ []

-- the events that were asked for on a line, the oldest first
abbrev pub events_on : Sent Item → List LocalEvent
events_on line = flat_map (λ p. event_in p.item) line.parcels
