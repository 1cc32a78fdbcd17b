-- How the nodes of a cluster are wired: the inbox of each, and its lines into the inboxes of all.
use Rattle.std.specs.Prelude.{ℕ, ◌≡◌, ◌==◌, ◌<◌, ◌+◌, Option, List, [], ◌++◌, map, length, slice_index_or, All}
use Rattle.std.specs.List.{find}
use Rattle.node_loop.specs.NodeCoreState.{CoreState}
use Rattle.node_loop.specs.NodeCoreSeen.{node_of}
use Rattle.node_loop.specs.Openings.{opening_with}
use Rattle.node_loop.specs.Sound.{IsNodeOf, opened}
use Rattle.node_loop.specs.declared.item.Item.{Item}
use Rattle.node_seats.specs.Addresses.{Inbox}
use Rattle.node_seats.specs.Lines.{Sent}

-- a line into this inbox, of the sender that has this number there; nothing was put on it
abbrev pub line_to : ℕ → Inbox → Sent Item
line_to number inbox = record { receiver = inbox.node; number = number; room = inbox.room; parcels = [] }

-- the line as it was before anything was put on it
abbrev pub unused : Sent Item → Sent Item
unused line = record line { parcels = [] }

-- a node as its thread starts: its inbox, the core that it opens with, and its lines
pub record Wired : Type 0 where
  pub inbox : Inbox
  pub core : CoreState
  pub lines : List (Sent Item)

abbrev pub name_of : Wired → ℕ
name_of w = w.inbox.node

abbrev pub inboxes : List Wired → List Inbox
inboxes ws = map (λ w. w.inbox) ws

-- the inbox of this node
abbrev pub inbox_to : ℕ → List Wired → Option Inbox
inbox_to n ws = find (λ inbox. inbox.node == n) (inboxes ws)

-- each of these nodes has a line to each of them, in their order, under the number of its own place: from 1 on
abbrev pub AreWired : List Wired → Type 0
AreWired ws = (i : ℕ) (d : Wired) → i < length ws → (slice_index_or ws i d).lines ≡ map (line_to (i + 1)) (inboxes ws)

-- its core is the one with which its node opens in a world of these lists
pub record Opens (cluster lone : List ℕ) (w : Wired) : Type 0 where
  pub name : w.core.name ≡ name_of w
  pub of : IsNodeOf (opening_with (cluster ++ lone) cluster) w.core
  pub node : node_of w.core ≡ opened (opening_with (cluster ++ lone) cluster) w.core

-- these are all nodes of the lists, wired with one another, each as it opens
pub record IsCrew (cluster lone : List ℕ) (ws : List Wired) : Type 0 where
  pub names : map name_of ws ≡ cluster ++ lone
  pub wired : AreWired ws
  pub opens : All (Opens cluster lone) ws
