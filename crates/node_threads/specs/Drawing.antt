-- What was taken from inboxes, held against what was put on the lines into them.
use Rattle.std.specs.Prelude.{ℕ, ◌<◌, List, length, slice_index_or}
use Rattle.link.specs.Rule.{Begins, of}
use Rattle.node_loop.specs.declared.item.Item.{Item}
use Rattle.node_seats.specs.declared.parcel.Parcel.{Parcel}
use Rattle.node_seats.specs.Lines.{Sent}
use Rattle.node_seats.specs.Addresses.{Inbox}

-- an inbox whose thread has ended, and what was taken from it
pub record Drawn : Type 0 where
  pub inbox : Inbox
  pub taken : List (Parcel Item)

-- what was taken under the number of a line is a beginning of what was put on it
abbrev pub Compares : Sent Item → Drawn → Type 0
Compares line d = Begins (of (λ parcel. parcel.number) line.number d.taken) line.parcels

-- so with each of these lines and the inbox at its place
abbrev pub CompareAll : List (Sent Item) → List Drawn → Type 0
CompareAll row drawn = (j : ℕ) (line : Sent Item) (d : Drawn) → j < length row
    → Compares (slice_index_or row j line) (slice_index_or drawn j d)

-- so with the lines of each of these nodes
abbrev pub AllCompared : List (List (Sent Item)) → List Drawn → Type 0
AllCompared rows drawn = (i : ℕ) (r : List (Sent Item)) → i < length rows → CompareAll (slice_index_or rows i r) drawn
