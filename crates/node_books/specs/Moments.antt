-- The moments of a node.
use Rattle.std.specs.Prelude.{◌≡◌, ◌<◌, ◌≤◌, Bool, true, false, List, [], ◌∷◌, ◌++◌, fold, length, Contains}
use mathlib.Core.List.{IsPrefix}
use Rattle.node_loop.specs.declared.edit.Edition.{Edition}
use Rattle.node_loop.specs.Editions.{opening}
use Rattle.node_loop.specs.Held.{Looping}
use Rattle.node_loop.specs.Coming.{IsLoopOf}
use Rattle.node_loop.specs.Owing.{shown_by}
use Rattle.node_books.specs.declared.moment.Moment.{Moment}
use Rattle.node_books.specs.Onward.{ComesFrom, Extends, ShowsMore}

-- a loop stands so, at its end or not
abbrev pub moment : Bool → Looping → Moment
moment ended a = record { node = a; ended = ended }

-- the loop went on, and nothing comes behind an end
abbrev pub IsLater : Moment → Moment → Type 0
IsLater m n = (m.ended ≡ false) × ComesFrom m.node n.node × ShowsMore m.node n.node

abbrev pub Rises : Moment → List Moment → Type 0
Rises m [] = Unit {0}
Rises m (n ∷ ns) = IsLater m n × Rises n ns

-- these are moments of the loop of one node, each behind the one before it
abbrev pub AreMoments : List Moment → Type 0
AreMoments [] = Unit {0}
AreMoments (m ∷ ms) = IsLoopOf m.node.log.node m.node × Rises m ms

-- the last of these, or the one that stands before all
abbrev pub last_from : Moment → List Moment → Moment
last_from m ms = fold (λ _ n. n) m ms

-- the last of these is no end
abbrev pub IsOpen : List Moment → Type 0
IsOpen [] = Unit {0}
IsOpen (m ∷ ms) = (last_from m ms).ended ≡ false

-- the last of these is an end
abbrev pub HasEnded : List Moment → Type 0
HasEnded [] = ⊥
HasEnded (m ∷ ms) = (last_from m ms).ended ≡ true

-- the loop is a node's, and came from the last of these to where it shows no less
abbrev pub Follows : List Moment → Looping → Type 0
Follows [] a = IsLoopOf a.log.node a
Follows (m ∷ ms) a = ComesFrom (last_from m ms).node a × ShowsMore (last_from m ms).node a

-- the last of these is the end of this loop
abbrev pub EndsAt : List Moment → Looping → Type 0
EndsAt ms end = (before : List Moment) × (ms ≡ before ++ moment true end ∷ [])

-- the moment was one of the loop that came to this end: from there it came to it, and its log only grew
pub record IsPast (m : Moment) (end : Looping) : Type 0 where
  pub loop : IsLoopOf end.log.node m.node
  pub comes : ComesFrom m.node end
  pub log : Extends m.node.log end.log

-- each of these was
abbrev pub ArePast : List Moment → Looping → Type 0
ArePast ms end = (m : Moment) → Contains ms m → IsPast m end

-- the edition that the last of these moments shows; before all there is none of any node
abbrev pub shown_at : List Moment → Edition
shown_at [] = opening 0
shown_at (m ∷ ms) = shown_by (last_from m ms).node

-- of some moments of a node and a beginning of them, which shows no shorter a log: it shows the same
abbrev pub LengthsTell : Type 0
LengthsTell = (few many : List Moment) → IsPrefix few many → AreMoments many → 0 < length few
    → (shown_at many).length ≤ (shown_at few).length → shown_at few ≡ shown_at many
