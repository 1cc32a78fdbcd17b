-- What was published, and what waits.
use Rattle.std.specs.Prelude.{◌≡◌, ◌++◌, false, List, [], ◌∷◌, fold, Option, Some, None}
use Rattle.logbook.specs.Pages.{Book}
use Rattle.node_books.specs.declared.Edition.{Edition}
use Rattle.node_books.specs.Held.{Looping}
use Rattle.node_books.specs.Owing.{Owes}
use Rattle.node_books.specs.declared.moment.Moment.{Moment}
use Rattle.node_books.specs.Books.{Known}
use Rattle.node_books.specs.Moments.{moment, Follows, shown_at}
use Rattle.shared_table.specs.declared.shown.Shown.{Shown}
use Rattle.shared_table.specs.declared.shown.Front.{Front}
use Rattle.shared_table.specs.declared.shown.Stamp.{Stamp}
use Rattle.shared_table.specs.Editions.{front_of, stamped, IsSo}
use Rattle.shared_table.specs.Rule.{Token, IsOf}

pub record Progress : Type 0 where
  pub known : Known  -- the book of the node, and the moments that were written there
  pub shown : Edition  -- what readers are shown

-- the stamp that found no place, if one did
abbrev pub held_back : Option Stamp → List Stamp
held_back None = []
held_back (Some s) = s ∷ []

-- behind each of these in turn what is shown is what the last of its moments shows, and all are of this book
abbrev pub AreSo : Book → Front → List Stamp → Type 0
AreSo b f [] = IsSo f × (f.seen.book ≡ b)
AreSo b f (s ∷ ss) = IsSo f × (f.seen.book ≡ b) × AreSo b (stamped f s) ss

-- What a publisher holds: what waits leads from what is shown to what the last moment shows that was written
pub record IsSound (known : Known) (shown : Shown) (waiting : List Stamp) (mark : Option Token) : Type 0 where
  pub so : AreSo known.book (front_of shown) waiting
  pub last : (fold stamped (front_of shown) waiting).edition ≡ shown_at known.log
  pub knows : IsOf known.book mark

-- the loop came from the last moment that was written to where it stands, and owes its readers what it has done since
abbrev pub Publishes : Looping → Progress → Type 0
Publishes a p = Follows p.known.log a × Owes a (shown_at p.known.log)

-- all that was written is shown
abbrev pub IsAllShown : Progress → Type 0
IsAllShown p = p.shown ≡ shown_at p.known.log

-- the last moment that was written is that at which the loop stands
abbrev pub IsWritten : Looping → Progress → Type 0
IsWritten a p = (before : List Moment) × (p.known.log ≡ before ++ moment false a ∷ [])
