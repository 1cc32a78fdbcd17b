-- What threads give back.
use Rattle.std.specs.Prelude.{ℕ, true, false, ◌≡◌, ◌<◌, ◌⊎◌, Option, List, map, length, slice_index_or, Contains, IfSome}
use Rattle.protocol_model.specs.World.{Opening}
use Rattle.link.specs.declared.mailbox.Mailbox.{Mailbox}
use Rattle.link.specs.Mailboxes.{taken, mailbox_room}
use Rattle.node_loop.specs.NodeCoreSeen.{node_of}
use Rattle.node_loop.specs.declared.item.Item.{Item}
use Rattle.node_loop.specs.Held.{Looping, written}
use Rattle.node_loop.specs.Coming.{IsLoopOf}
use Rattle.node_loop.specs.Sound.{IsNodeOf, opened, IsSound, Tells}
use Rattle.node_seats.specs.declared.parcel.Parcel.{Parcel}
use Rattle.node_seats.specs.Lines.{Sent}
use Rattle.node_seats.specs.Pages.{Book}
use Rattle.node_seats.specs.Books.{Known}
use Rattle.node_seats.specs.declared.Moment.{Moment}
use Rattle.node_seats.specs.Moments.{EndsAt, ArePast}
use Rattle.node_seats.specs.declared.host.Stop.{Stop}
use Rattle.node_seats.specs.declared.host.Stop.TheVariants.{Asked, Failed}
use Rattle.node_seats.specs.Stops.{ends_alone}
pub use Rattle.replay.specs.Ends.{End}
use Rattle.node_threads.specs.Givers.{receivers}
use Rattle.node_threads.specs.Wires.{Wired, name_of, unused}
use Rattle.node_threads.specs.Ends.{are_inside}
use Rattle.node_threads.specs.Dealings.{dealt_by}
use Rattle.node_threads.specs.Drawing.{Drawn}
use Rattle.node_threads.specs.Stops.{StopsSo}

-- whose end it is
abbrev pub owner : End → ℕ
owner e = e.log.node

-- The end is what the loop of this node left behind: its log, and its table. Its thread began with such a loop. It ended alone exactly where
-- its last turn failed, behind turns that all went on, and the node hadn't left
pub record IsLeftBy (name : ℕ) (e : End) : Type 0 where
  pub loop : Looping
  pub came : IsLoopOf name loop
  pub node : owner e ≡ name
  pub log : written e.log ≡ loop.log
  pub table : e.table ≡ loop.core.table
  pub first : Looping
  pub began : IsLoopOf name first
  pub stop : Stop
  pub stopped : StopsSo stop first loop
  pub alone : e.ended_alone ≡ ends_alone stop loop.left

-- these are the moments of this book, up to the loop of this node that left this end behind
pub record IsPastOf (name : ℕ) (book : Book) (e : End) (past : Known) : Type 0 where
  pub book_is : past.book ≡ book
  pub left : IsLeftBy name e
  pub ends : EndsAt past.log left.loop

-- so the pasts of all these nodes, in their order
pub record AllPast (ws : List Wired) (ends : List End) (pasts : List Known) : Type 0 where
  pub as_many : length pasts ≡ length ws
  pub each : (i : ℕ) (w : Wired) (e : End) (p : Known) → i < length ws
      → IsPastOf (name_of (slice_index_or ws i w)) (slice_index_or ws i w).inbox.book (slice_index_or ends i e) (slice_index_or pasts i p)

-- these are moments of the loop of this node that left one of these ends
pub record AreOfAnEnd (name : ℕ) (ends : List End) (moments : List Moment) : Type 0 where
  pub end : End
  pub among : Contains ends end
  pub left : IsLeftBy name end
  pub past : ArePast moments left.loop

-- of these ends one is this node's, the last turn of whose thread failed where the node hadn't left
pub record FailsAlone (ends : List End) (a : ℕ) : Type 0 where
  pub end : End
  pub among : Contains ends end
  pub left : IsLeftBy a end
  pub failed : left.stop ≡ Failed
  pub stays : left.loop.left ≡ false

-- the thread didn't end alone: each of its turns went on until it was asked to end, or the node had left
pub record EndsInOrder (e : End) : Type 0 where
  pub left : IsLeftBy (owner e) e
  pub order : (left.stop ≡ Asked) ⊎ (left.loop.left ≡ true)

-- The thread of this loop, with these lines and this end of an inbox, gives back what the loop left behind, and both. The lines and
-- the inbox are those that it began with; and in each world in which it began sound, its log and its table tell of its node
pub record IsEndOf (a : Looping) (lines : List (Sent Item)) (mailbox : Mailbox (Parcel Item)) (e : End) (rows : List (Sent Item)) (box : Mailbox (Parcel Item)) : Type 0 where
  pub left : IsLeftBy a.log.node e
  pub first : left.first ≡ a
  pub kept : map unused rows ≡ map unused lines
  pub room : mailbox_room box ≡ mailbox_room mailbox
  pub tells : (o : Opening) → are_inside o a.log.node (receivers lines) ≡ true
      → IsSound o a (dealt_by lines (taken mailbox))
      → Tells o (written e.log) e.table (dealt_by rows (taken box))

-- so, and its book is given back where it could be sealed
pub record IsOver (a : Looping) (lines : List (Sent Item)) (mailbox : Mailbox (Parcel Item)) (book : Book) (e : End) (rows : List (Sent Item)) (box : Mailbox (Parcel Item)) (past : Option Known) : Type 0 where
  pub end : IsEndOf a lines mailbox e rows box
  pub past_is : IfSome past (IsPastOf a.log.node book e)

-- so the thread of a node, which started so
pub record Returns (w : Wired) (end : End) (lines : List (Sent Item)) (d : Drawn) : Type 0 where
  pub left : IsLeftBy (name_of w) end
  pub first : left.first.core ≡ w.core
  pub kept : map unused lines ≡ w.lines
  pub inbox : d.inbox ≡ w.inbox
  pub tells : (o : Opening) → IsNodeOf o w.core → node_of w.core ≡ opened o w.core
      → are_inside o (name_of w) (receivers w.lines) ≡ true
      → Tells o (written end.log) end.table (dealt_by lines d.taken)

-- so all of these, in their order
pub record AllReturn (ws : List Wired) (ends : List End) (rows : List (List (Sent Item))) (drawn : List Drawn) : Type 0 where
  pub as_many_ends : length ends ≡ length ws
  pub as_many_rows : length rows ≡ length ws
  pub as_many_drawn : length drawn ≡ length ws
  pub each : (i : ℕ) (w : Wired) (e : End) (r : List (Sent Item)) (d : Drawn) → i < length ws
      → Returns (slice_index_or ws i w) (slice_index_or ends i e) (slice_index_or rows i r) (slice_index_or drawn i d)
