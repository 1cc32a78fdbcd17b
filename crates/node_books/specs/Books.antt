-- The book of a node.
use Rattle.std.specs.Prelude.{ℕ, ◌≡◌, ◌==◌, true, List, [], ◌∷◌, ◌++◌, length, MatchBool}
use Rattle.logbook.specs.Pages.{Cell, Step, View, Book, Named}
use Rattle.node_books.specs.declared.moment.Moment.{Moment}
use Rattle.node_books.specs.Moments.{AreMoments}

-- which book, and a beginning of it
pub record Known : Type 0 where
  pub book : Book
  pub log : List Moment

-- The first word is the number of moments. A book has two words, of which this one leaves the second at 0
pub record IsKept (cells : List Cell) (log : List Moment) : Type 0 where
  pub words : cells ≡ (length log, true) ∷ (0, true) ∷ []
  pub moments : AreMoments log

abbrev pub head_of : Book → Named
head_of b = record { tracked = true; key = 0; book = b }

-- the moment was added to all that had been seen; or the book was of another length, and was seen
abbrev pub IsAdded : Step Moment → View Moment ℕ → ℕ → View Moment ℕ → Type 0
IsAdded s v found w = MatchBool (found == s.old) (w.0 ≡ v.0 ++ s.ask ∷ []) (length w.0 ≡ found)
