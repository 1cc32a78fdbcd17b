-- Where an inbox is reached.
use Rattle.std.specs.Prelude.{ℕ}
use Rattle.shared_table.specs.Pages.{Book}
use Rattle.link.specs.Mailboxes.{Room}
use Rattle.shared_table.specs.declared.Item.{Item}
use Rattle.node_seats.specs.declared.parcel.Parcel.{Parcel}

-- whose inbox it is, how many lines to it were made, the inbox itself, and the book of the node
pub record Reached (L : Type 0) : Type 0 where
  pub node : ℕ
  pub lines : ℕ
  pub room : Room (Parcel L)
  pub book : Book

-- an inbox, whose it is, and the book of that node's moments
pub record Inbox : Type 0 where
  pub node : ℕ
  pub room : Room (Parcel Item)
  pub book : Book

-- the inbox that is reached there
abbrev pub inbox_at : Reached Item → Inbox
inbox_at a = record { node = a.node; room = a.room; book = a.book }
