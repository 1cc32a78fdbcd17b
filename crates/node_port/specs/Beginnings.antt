-- How a node begins: who had left, and the stamp above which its steps are.
use Rattle.std.specs.Prelude.{ℕ, Bool, true, false, ◌≡◌, ◌==◌, ◌&&◌, ◌||◌, ◌<◌, ◌+◌, ◌-◌, ◌^◌, not, codes, find, map, Option, Some, None, List, [], ◌∷◌, ◌++◌, if◌then◌else◌}
use Rattle.std.specs.List.{list_all}
use Rattle.command_lines.specs.Commands.{unread}
use Rattle.term.specs.NodeLists.{SpellsNodeSet}
use Rattle.term.specs.NodeSets.{set_of, names_in}
use Rattle.term.specs.Nodes.{name_of, creation_of}
use Rattle.node_loop.specs.NodeCoreState.{CoreState, fresh_behind}
use Rattle.wire_end.specs.Returning.{count_left}
use Rattle.node_port.specs.Numbers.{SpellsNumber}

-- who has left, of each name the last node, and the stamp above which the steps are
pub record Beginning : Type 0 where
  pub stamp : ℕ
  pub left : List ℕ

-- a text says that these have left, and that their steps have no stamps above this one
pub record IsBeginText (bytes : List ℕ) (stamp : ℕ) (left : List ℕ) : Type 0 where
  pub digits : List ℕ
  pub list : List ℕ
  pub is : bytes ≡ codes "behind " ++ (digits ++ 32 ∷ list)
  pub number : SpellsNumber digits stamp
  pub listed : SpellsNodeSet list left

-- so says a line that can be read
abbrev pub IsBeginLine : List ℕ → ℕ → List ℕ → Type 0
IsBeginLine bytes stamp left = (unread bytes ≡ None) × IsBeginText bytes stamp left

-- of a name no two are among these
abbrev pub is_one_of_each : List ℕ → Bool
is_one_of_each [] = true
is_one_of_each (d ∷ ds) = not (names_in ds (name_of d)) && is_one_of_each ds

-- the node that is before one of its name, if there is one
abbrev pub before : ℕ → List ℕ
before node = if creation_of node == 1 then [] else (node - 1) ∷ []

-- Those who left fit a node of a world with these names: they have such names, each another, and of the node's own name the one before it
-- has left, and no other is among them
abbrev pub fits : ℕ → List ℕ → List ℕ → Bool
fits node names left = list_all (λ d. set_of names (name_of d)) left && (is_one_of_each left
    && (list_all (λ d. not (name_of d == name_of node) || (d + 1 == node)) left && list_all (λ d. set_of left d) (before node)))

-- A first line says how a node of a world begins: its steps are behind the notices of all that have left, for each of which there is a stamp
pub record IsBeginning (node : ℕ) (names bytes : List ℕ) (b : Beginning) : Type 0 where
  pub stamp : ℕ
  pub line : IsBeginLine bytes stamp b.left
  pub fit : fits node names b.left ≡ true
  pub behind : b.stamp ≡ stamp + count_left b.left
  pub high : b.stamp < 2 ^ 64

-- where no line says so, a first node knows of nobody who has left, and a later one of the one before it
abbrev pub plain_beginning : ℕ → Beginning
plain_beginning node = record { stamp = 0; left = before node }

-- the node of a name at present: this node, or the last one of that name that has left, or the first one
abbrev pub or_first : ℕ → Option ℕ → ℕ
or_first x None = x
or_first x (Some d) = d

abbrev pub present_of : ℕ → List ℕ → ℕ → ℕ
present_of node left x = if name_of node == x then node else or_first x (find (λ d. name_of d == x) left)

-- the nodes of a world with these names, as a node knows them that begins so
abbrev pub world_of : ℕ → List ℕ → List ℕ → List ℕ
world_of node names left = map (present_of node left) names

-- the core of a node that begins so: it is lone, has nothing, and was told of those that have left. That is what a node that comes back is in a
-- world, too
abbrev pub core_behind : ℕ → List ℕ → List ℕ → CoreState
core_behind node names left = fresh_behind node (world_of node names left) (node ∷ []) left false
