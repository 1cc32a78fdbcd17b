-- What the publisher and all readers of a shared table keep.
use Rattle.std.specs.Prelude.{◌≡◌, ℕ, List, Option, Some}
use mathlib.Core.Option.{some}
use lib.ListN.{get_elem?}
use Rattle.left_right.specs.Sides.{view}
use Rattle.left_right.specs.declared.board.Doing.{Doing}
use Rattle.left_right.specs.declared.part.Part.{Part}
use Rattle.atomic_table.specs.declared.shared.Seat.{Seat}
use Rattle.logbook.specs.Pages.{Book}
use Rattle.logbook.specs.declared.tokens.Seen.{Seen}
use Rattle.node_books.specs.declared.moment.Moment.{Moment}
use Rattle.node_books.specs.declared.rule.Law.{Law}
use Rattle.shared_table.specs.declared.shown.Shown.{Shown}
use Rattle.shared_table.specs.Editions.{front_of, IsSo}

abbrev pub Token : Type 0
Token = Seen Moment ℕ Law

-- it is known to be of this book
abbrev pub IsOf : Book → Option Token → Type 0
IsOf b v = (s : Token) × (v ≡ Some s) × (s.book ≡ b)

-- what is shown is so; who knows of a book knows the one that is shown
abbrev pub Keeps : Shown → List (Option Token) → Type 0
Keeps x views = IsSo (front_of x) × ((seat : ℕ) (s : Token) → get_elem? views seat ≡ some (Some s) → s.book ≡ x.seen.book)

-- an entry: the book is the one that was known
abbrev pub Sees : Option Token → Shown → Shown → Option Token → Type 0
Sees v x y w = (w ≡ v) × IsSo (front_of x) × ((s : Token) → v ≡ Some s → x.seen.book ≡ s.book)

-- from now on the book is known
abbrev pub Marks : Option Token → Shown → Shown → Option Token → Type 0
Marks v x y w = w ≡ Some y.seen

-- what is known at this place of the table
abbrev pub mark_at : Seat (Option (Part Shown)) (Doing Shown (Option Token)) → Option Token
mark_at s = view s
