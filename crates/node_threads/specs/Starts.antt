-- A node before its first turn.
use Rattle.std.specs.Prelude.{◌≡◌, List, [], map}
use Rattle.link.specs.declared.mailbox.Mailbox.{Mailbox}
use Rattle.link.specs.Mailboxes.{taken, mailbox_room}
use Rattle.node_loop.specs.declared.item.Item.{Item}
use Rattle.node_loop.specs.Held.{Looping}
use Rattle.node_loop.specs.Coming.{IsLoopOf}
use Rattle.node_loop.specs.Sound.{BeginsSound}
use Rattle.node_seats.specs.declared.parcel.Parcel.{Parcel}
use Rattle.node_seats.specs.Lines.{Sent}
use Rattle.node_seats.specs.Addresses.{Inbox}
use Rattle.node_threads.specs.Wires.{unused}

-- its loop, its lines, on which nothing was put, and its end of this inbox, from which nothing was taken
pub record IsAtStart (inbox : Inbox) (a : Looping) (lines : List (Sent Item)) (mailbox : Mailbox (Parcel Item)) : Type 0 where
  pub node : a.log.node ≡ inbox.node
  pub room : mailbox_room mailbox ≡ inbox.room
  pub came : IsLoopOf a.log.node a
  pub sound : BeginsSound a.core a
  pub empty : taken mailbox ≡ []
  pub fresh : map unused lines ≡ lines
