-- What contracts see of what a node's thread has of the node's seats.
use Rattle.std.specs.Prelude.{ℕ}
use Rattle.shared_table.specs.Pages.{Book}

-- how often the thread yields at most before it sleeps, and the book of the node
pub record Hosting : Type 0 where
  pub yields : ℕ
  pub book : Book
