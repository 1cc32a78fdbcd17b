-- Queues whose items are all of one book.
use Rattle.std.specs.Prelude.{◌≡◌, ℕ, List, [], Option, Some, None, All, length}
use mathlib.Core.Option.{some}
use lib.ListN.{get_elem?}
use Rattle.crossbeam_queue.specs.Passes.{Pass, IsPassOf, view}
use Rattle.crossbeam_queue.specs.declared.array_queue.Slotted.{Slotted}
use Rattle.crossbeam_queue.specs.declared.array_queue.Doing.{Doing}
use Rattle.shared_table.specs.Rule.{Token, IsOf}

module _ {T : Type 0} (token : T → Token) where
  -- all who know of a book know the same, and the items are of it; who knows of none is alone, and nothing lies there
  pub record Lies (items : List T) (views : List (Option Token)) : Type 0 where
    pub alone : (seat : ℕ) → get_elem? views seat ≡ some None → (items ≡ []) × (length views ≡ 1)
    pub one : (seat other : ℕ) (s t : Token) → get_elem? views seat ≡ some (Some s) → get_elem? views other ≡ some (Some t) → s.book ≡ t.book
    pub stamped : (seat : ℕ) (s : Token) → get_elem? views seat ≡ some (Some s) → All (λ x. (token x).book ≡ s.book) items

  -- a put: who knew of no book knows of the item's
  abbrev pub Stays : Option Token → T → Option Token → Type 0
  Stays None x w = w ≡ Some (token x)
  Stays (Some s) x w = w ≡ Some s

  -- what is taken is of the book that was known
  abbrev pub Gives : Option Token → T → Option Token → Type 0
  Gives v x w = (w ≡ v) × ((s : Token) → v ≡ Some s → (token x).book ≡ s.book)

-- this pass is of this queue, and knows of this book
abbrev pub IsChute : {T Q A : Type 0} → Slotted (Option T) (Doing T (Option Token)) Q A → Pass T (Option Token) → Token → Type 0
IsChute q p origin = IsPassOf q p × IsOf origin.book (view p)
