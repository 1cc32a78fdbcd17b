-- Editions of a node's table, with the moments of the node.
use Rattle.std.specs.Prelude.{◌≡◌, ◌<◌, length}
use Rattle.node_books.specs.declared.Edition.{Edition}
use Rattle.node_books.specs.Editions.{updated}
use Rattle.node_books.specs.Moments.{shown_at}
use Rattle.shared_table.specs.declared.shown.Shown.{Shown}
use Rattle.shared_table.specs.declared.shown.Front.{Front}
use Rattle.shared_table.specs.declared.shown.Stamp.{Stamp}

-- what is shown
abbrev pub edition_of : Shown → Edition
edition_of s = record { node = s.node; table = s.table; length = s.length; left = s.left }

abbrev pub front_of : Shown → Front
front_of s = record { edition = edition_of s; seen = s.seen; count = s.count }

-- behind an update
abbrev pub stamped : Front → Stamp → Front
stamped f s = record { edition = updated f.edition s.update; seen = s.seen; count = s.count }

-- it is what the last of its moments shows
abbrev pub IsSo : Front → Type 0
IsSo f = (f.edition ≡ shown_at f.seen.log) × (f.count ≡ length f.seen.log) × (0 < f.count)
