-- What a reader has seen, and what it finds.
use Rattle.std.specs.Prelude.{◌≡◌, ◌<◌, ◌≤◌, ℕ, max, true, false, List, [], Option, Some, None, length}
use mathlib.Core.List.{IsPrefix}
use Rattle.registry_model.specs.Process.{Text}
use Rattle.registry_model.specs.Table.{get}
use Rattle.left_right.specs.Sides.{view}
use Rattle.left_right.specs.declared.reader.Reader.{Reader}
use Rattle.logbook.specs.Pages.{Book}
use Rattle.node_books.specs.declared.moment.Moment.{Moment}
use Rattle.node_books.specs.Books.{Known}
use Rattle.node_books.specs.Moments.{AreMoments, shown_at}
use Rattle.shared_table.specs.declared.shown.Shown.{Shown}
use Rattle.shared_table.specs.declared.reader.Entry.{Entry}
use Rattle.shared_table.specs.declared.reader.Lookup.{Lookup}
use Rattle.shared_table.specs.declared.reader.Lookup.TheVariants.{Owner, Left, Behind, Gone}
use Rattle.shared_table.specs.Rule.{Token, IsOf}

pub record Seen : Type 0 where
  pub known : Known  -- the book of its node, and the moments of it that it has read
  pub told : ℕ  -- the length of the log that it was told of, or has read

-- nothing of this book was read, and nothing told
abbrev pub unseen : Book → Seen
unseen b = record { known = record { book = b; log = [] }; told = 0 }

-- a reader of a node's table
pub record Placed : Type 0 where
  pub node : ℕ
  pub seen : Seen

-- the place of this reader is known to be at the table of this book
abbrev pub IsReaderOf : {P A : Type 0} → Book → Option (Reader Shown (Option Token) P A) → Type 0
IsReaderOf b None = Unit {0}
IsReaderOf b (Some r) = IsOf b (view r.place)

-- an entry finds this name in what the last of its moments shows
pub record IsFound (entry : Entry) (x : Text) : Type 0 where
  pub owner : entry.owner ≡ get x (shown_at entry.seen.log).table
  pub long : entry.length ≡ (shown_at entry.seen.log).length
  pub left : entry.left ≡ (shown_at entry.seen.log).left
  pub count : entry.count ≡ length entry.seen.log
  pub some : 0 < entry.count

-- The moments that are then known are of the same book, and begin with those before. They are moments of this node's loop, and the last of
-- them shows no shorter a log than was told
pub record Reads (node : ℕ) (old new : Seen) : Type 0 where
  pub book : new.known.book ≡ old.known.book
  pub later : IsPrefix old.known.log new.known.log
  pub some : 0 < length new.known.log
  pub moments : AreMoments new.known.log
  pub own : (shown_at new.known.log).node ≡ node
  pub rises : old.told ≤ new.told
  pub told : new.told ≡ (shown_at new.known.log).length

-- It was told of these moments. They, and those that it knew before, begin the moments that are then known, which are of the same book and of
-- this node's loop; and it was told how long a log the last of them shows
pub record Hears (node : ℕ) (told : List Moment) (old new : Seen) : Type 0 where
  pub book : new.known.book ≡ old.known.book
  pub later : IsPrefix old.known.log new.known.log
  pub begins : IsPrefix told new.known.log
  pub moments : AreMoments new.known.log
  pub own : (shown_at new.known.log).node ≡ node
  pub length_is : new.told ≡ max old.told (shown_at told).length

-- a moment of this node's loop was read that shows a shorter log than was told: nothing is answered from it
pub record IsBehind (node : ℕ) (old new : Seen) : Type 0 where
  pub same : new ≡ old
  pub read : List Moment
  pub some : 0 < length read
  pub moments : AreMoments read
  pub own : (shown_at read).node ≡ node
  pub shorter : (shown_at read).length < old.told

-- What a look-up of the name x in the table of this node comes to: it is answered by what the last of the moments shows that are then known
abbrev pub Finds : Lookup → ℕ → Text → Seen → Seen → Type 0
Finds (Owner owner) node x old new =
    Reads node old new × ((shown_at new.known.log).left ≡ false) × (owner ≡ get x (shown_at new.known.log).table)
Finds Left node x old new = Reads node old new × ((shown_at new.known.log).left ≡ true)
Finds Behind node x old new = IsBehind node old new
Finds Gone node x old new = new ≡ old
