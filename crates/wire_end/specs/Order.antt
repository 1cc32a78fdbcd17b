-- The order of an end's lines: of each other node, what its lines spell is what was taken of it and what waits; and what is printed is the
-- lines of the letters that were sent to others.
use Rattle.std.specs.Prelude.{ℕ, Bool, true, false, ◌≡◌, ◌⊎◌, ◌==◌, ◌&&◌, ◌+◌, not, nat_lt, is_some, Option, Some, None, Ok, List, [], ◌∷◌, ◌++◌, map, length, if◌then◌else◌}
use Rattle.std.specs.List.{sum_by, list_all, list_any, AllByRecursion}
use Rattle.protocol_model.specs.Letter.{Letter as AnyLetter}
use Rattle.term.specs.Nodes.{name_of}
use Rattle.letter_lines.specs.Gathered.{Gathered, Taken, taken, nothing}
use Rattle.letter_lines.specs.Letters.{letter_of}
use Rattle.letter_lines.specs.Laws.{IsLetter}
use Rattle.letter_lines.specs.Parts.{parts_of}
use Rattle.node_loop.specs.Alone.{Stamped as StampedLetter}
use Rattle.node_loop.specs.declared.item.Item.{Item}
use Rattle.node_loop.specs.declared.item.Stamped.{Stamped}
use Rattle.node_loop.specs.declared.item.Task.{Task}
use Rattle.wire_end.specs.declared.line.LinkLine.{LinkLine}
use Rattle.wire_end.specs.declared.wire.Wire.{Wire}
use Rattle.wire_end.specs.declared.wire_end.Wiring.{Wiring}
use Rattle.wire_end.specs.Dealings.{of_node}
use Rattle.wire_end.specs.Hearing.{Hears, Loses, gone}
use Rattle.wire_end.specs.Sending.{letter_text}
use Rattle.wire_end.specs.Starting.{Starts}
use Rattle.wire_end.specs.Wirings.{place, link_with, begun, Posts, Takes}

-- lines are numbered from this one on, without a gap
abbrev pub AreNumbered : ℕ → List LinkLine → Type 0
AreNumbered n [] = Unit {0}
AreNumbered n (l ∷ ls) = (l.number ≡ n) × AreNumbered (n + 1) ls

-- a letter as the protocol has it, with its stamp
abbrev pub seen : Stamped → StampedLetter
seen l = record { stamp = l.stamp; letter = letter_of l.letter }

-- the letter that a line ends, if it ends one, has the stamp of that line
abbrev pub ended_by : ℕ → Option AnyLetter → List StampedLetter
ended_by stamp None = []
ended_by stamp (Some l) = record { stamp = stamp; letter = l } ∷ []

-- what is gathered, and the letters, behind a line whose part was taken, and what comes of the others
abbrev pub onward : Taken → ℕ → List StampedLetter → (Gathered → List StampedLetter → Option (Gathered × List StampedLetter))
    → Option (Gathered × List StampedLetter)
onward None stamp ls more = None
onward (Some t) stamp ls more = more t.0 (ls ++ ended_by stamp t.1)

-- what lines spell behind these items and letters: the items of a letter that isn't whole, and all letters; none where a line has no part of one
abbrev pub spelled_on : List LinkLine → Gathered → List StampedLetter → Option (Gathered × List StampedLetter)
spelled_on [] g ls = Some (g, ls)
spelled_on (l ∷ more) g ls = onward (taken l.part g) l.stamp ls (spelled_on more)

-- the same from the beginning
abbrev pub spelled_by : List LinkLine → Option (Gathered × List StampedLetter)
spelled_by lines = spelled_on lines nothing []

-- The lines that were read on a link are numbered from 1 on. What they spell is what came of the other node, and behind it, where the node
-- was said to be gone, that it has left
pub record Spells (w : Wire) (lines : List LinkLine) (came : List Stamped) : Type 0 where
  pub numbered : AreNumbered 1 lines
  pub count : w.read ≡ length lines
  pub items : Gathered
  pub letters : List StampedLetter
  pub spelled : spelled_by lines ≡ Some (items, letters)
  pub last : List StampedLetter
  pub word : (last ≡ []) ⊎ (last ≡ seen gone ∷ [])
  pub came_is : map seen came ≡ letters ++ last
  pub goes_on : w.is_down ≡ false → (last ≡ []) × (items ≡ w.parts)

-- the same of lines of a node whose link isn't there any more
pub record SpellsBefore (lines : List LinkLine) (came : List Stamped) : Type 0 where
  pub numbered : AreNumbered 1 lines
  pub items : Gathered
  pub letters : List StampedLetter
  pub spelled : spelled_by lines ≡ Some (items, letters)
  pub last : List StampedLetter
  pub word : (last ≡ []) ⊎ (last ≡ seen gone ∷ [])
  pub came_is : map seen came ≡ letters ++ last

-- a link leads to a younger node of its name, and none to it
abbrev pub has_younger : ℕ → List Wire → Bool
has_younger f wires = list_any (λ w. (name_of w.node == name_of f) && nat_lt f w.node) wires

abbrev pub is_replaced : ℕ → List Wire → Bool
is_replaced f wires = not (is_some (place f wires)) && has_younger f wires

-- how many lines the letters to this node have
abbrev pub lines_to : ℕ → List (ℕ × Stamped) → ℕ
lines_to t sent = sum_by (λ l. length (parts_of l.letter)) (of_node t sent)

-- the lines of a letter that is sent behind these, numbered behind theirs; one of the node to itself has none
abbrev pub text_behind : ℕ → List (ℕ × Stamped) → ℕ × Stamped → List ℕ
text_behind node before x = if x.0 == node then [] else letter_text x.0 (lines_to x.0 before) x.1

-- the lines of letters that are sent behind these
abbrev pub texts_behind : ℕ → List (ℕ × Stamped) → List (ℕ × Stamped) → List ℕ
texts_behind node before [] = []
texts_behind node before (x ∷ xs) = text_behind node before x ++ texts_behind node (before ++ x ∷ []) xs

-- what waits, and what was taken of a node
abbrev pub came_of : ℕ → Wiring → List Stamped
came_of f s = of_node f s.taken ++ of_node f s.heard

-- All is in order, where this was printed: each link spells what came of its node, and so do the lines of nodes that were replaced; and what
-- was printed, and is to be, is the lines of the letters that were sent to others, which are such as are read again from their parts
pub record InOrder (gone_out : List ℕ) (s : Wiring) : Type 0 where
  pub read : (f : ℕ) → (f ≡ s.node → ⊥) → is_replaced f s.wires ≡ false → Spells (link_with f s.wires) (of_node f s.read) (came_of f s)
  pub before : (f : ℕ) → (f ≡ s.node → ⊥) → is_replaced f s.wires ≡ true → SpellsBefore (of_node f s.read) (came_of f s)
  pub counted : (t : ℕ) → (t ≡ s.node → ⊥) → is_replaced t s.wires ≡ false → (link_with t s.wires).written ≡ lines_to t s.sent
  pub sent : gone_out ++ s.lines ≡ texts_behind s.node [] s.sent
  pub letters : (t : ℕ) → (t ≡ s.node → ⊥) → AllByRecursion (λ (l : Stamped). IsLetter l.letter) (of_node t s.sent)

-- The letters of the node to itself: those that were taken, and then those that wait, are those that were sent. No link leads to the node, and
-- no letter of it came over one
pub record KeepsOwn (s : Wiring) : Type 0 where
  pub sent : of_node s.node s.taken ++ s.own ≡ of_node s.node s.sent
  pub heard : of_node s.node s.heard ≡ []
  pub wires : list_all (λ w. not (w.node == s.node)) s.wires ≡ true

-- It is so of an end as it begins, where nothing was printed yet, and stays so whatever it sends, takes, reads, is told, is asked or prints,
-- and whatever nodes start
pub record AlwaysHolds (P : List ℕ → Wiring → Type 0) : Type 0 where
  pub begins : (node : ℕ) (world : List ℕ) → P [] (begun node world)
  pub sends : (out : List ℕ) (s : Wiring) (to : ℕ) (i : Item) (t : Wiring) → P out s → Posts s to i t → P out t
  pub gives : (out : List ℕ) (s : Wiring) (from : ℕ) (i : Item) (t : Wiring) → P out s → Takes s from i t → P out t
  pub hears : (out : List ℕ) (s : Wiring) (from : ℕ) (line : LinkLine) (t : Wiring) → P out s → Hears from line (Ok tt) s t → P out t
  pub loses : (out : List ℕ) (s : Wiring) (n : ℕ) (t : Wiring) → P out s → Loses n (Ok tt) s t → P out t
  pub starts : (out : List ℕ) (s : Wiring) (older next : ℕ) (t : Wiring) → P out s → Starts older next s t → P out t
  pub asks : (out : List ℕ) (s : Wiring) (task : Task) → P out s → P out (record s { tasks = s.tasks ++ task ∷ [] })
  pub prints : (out : List ℕ) (s : Wiring) → P out s → P (out ++ s.lines) (record s { lines = [] })
  pub tells : (out : List ℕ) (s : Wiring) → P out s → P out (record s { orders = [] })

-- an end begins in order, and stays so
abbrev pub StayInOrder : Type 0
StayInOrder = AlwaysHolds InOrder

-- and its node's letters to itself stay with it
abbrev pub KeepTheirOwn : Type 0
KeepTheirOwn = AlwaysHolds (λ out s. KeepsOwn s)
