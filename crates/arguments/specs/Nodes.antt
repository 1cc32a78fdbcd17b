-- The nodes that two lists name: those that are joined from the start, and those that stand alone. And a node of one list.
use Rattle.std.specs.Prelude.{◌≡◌, ◌⊎◌, ◌+◌, ◌<◌, ◌≤◌, ℕ, Bool, true, false, List, [], length, Option, Some, None}
use Rattle.std.specs.List.{list_any}
use Rattle.term.specs.NodeLists.{SpellsNodes, RefusesNodes}
use Rattle.term.specs.Nodes.{name_of}
use Rattle.term.specs.NodeSets.{set_of}
use Rattle.term.specs.declared.limits.TheConstants.{MOST_NODES}
use Rattle.term.specs.Spelling.{SpellsNode, RefusesNode}
use Rattle.term.specs.declared.faults.TextFault.{TextFault}
use Rattle.arguments.specs.declared.faults.ArgFault.{ArgFault}
use Rattle.arguments.specs.declared.faults.ArgFault.TheVariants.{Options, Words, Text, SameNode, TooManyNodes, NoSuchNode}

-- some node stands in both lists
abbrev pub shares : List ℕ → List ℕ → Bool
shares cluster lone = list_any (set_of lone) cluster

-- the lone nodes are those that the list spells, and none without a list
abbrev pub SpellsLone : Option (List ℕ) → List ℕ → Type 0
SpellsLone None lone = lone ≡ []
SpellsLone (Some text) lone = SpellsNodes text lone

-- the list of lone nodes is refused for the fault
abbrev pub RefusesLone : Option (List ℕ) → TextFault → Type 0
RefusesLone None fault = ⊥
RefusesLone (Some text) fault = RefusesNodes text fault

-- the two lists spell these sets, which share no node and are not too many together
pub record PlacesNodes (nodes : List ℕ) (lone_list : Option (List ℕ)) (cluster lone : List ℕ) : Type 0 where
  pub joined : SpellsNodes nodes cluster
  pub alone : SpellsLone lone_list lone
  pub apart : shares cluster lone ≡ false
  pub fits : length cluster + length lone ≤ MOST_NODES

-- the two lists spell sets that share a node
pub record SharesNode (nodes : List ℕ) (lone_list : Option (List ℕ)) : Type 0 where
  pub cluster : List ℕ
  pub lone : List ℕ
  pub joined : SpellsNodes nodes cluster
  pub alone : SpellsLone lone_list lone
  pub shared : shares cluster lone ≡ true

-- the two lists spell sets that share no node and are too many together
pub record HasTooMany (nodes : List ℕ) (lone_list : Option (List ℕ)) : Type 0 where
  pub cluster : List ℕ
  pub lone : List ℕ
  pub joined : SpellsNodes nodes cluster
  pub alone : SpellsLone lone_list lone
  pub apart : shares cluster lone ≡ false
  pub over : MOST_NODES < length cluster + length lone

-- the first list that spells no set is refused for the fault
abbrev pub RefusesList : List ℕ → Option (List ℕ) → TextFault → Type 0
RefusesList nodes lone fault =
    RefusesNodes nodes fault ⊎ ((cluster : List ℕ) × SpellsNodes nodes cluster × RefusesLone lone fault)

-- the fault of two lists: that of the first that spells no set, else that they share a node, else that they are too many
abbrev pub RefusesPlacing : List ℕ → Option (List ℕ) → ArgFault → Type 0
RefusesPlacing _ _ (Words _) = ⊥
RefusesPlacing _ _ (Options _) = ⊥
RefusesPlacing nodes lone (Text fault) = RefusesList nodes lone fault
RefusesPlacing nodes lone SameNode = SharesNode nodes lone
RefusesPlacing nodes lone TooManyNodes = HasTooMany nodes lone
RefusesPlacing _ _ NoSuchNode = ⊥

-- the text spells a node, whose name is one of those that the list spells
pub record PlacesNode (text list : List ℕ) (node : ℕ) (world : List ℕ) : Type 0 where
  pub named : SpellsNode text node
  pub listed : SpellsNodes list world
  pub known : set_of world (name_of node) ≡ true

-- the text spells a node, and the list spells others alone
pub record NamesStranger (text list : List ℕ) : Type 0 where
  pub node : ℕ
  pub world : List ℕ
  pub named : SpellsNode text node
  pub listed : SpellsNodes list world
  pub unknown : set_of world (name_of node) ≡ false

-- the fault of a node and of a list: that of the first that spells none, else that its name isn't listed
abbrev pub RefusesOwn : List ℕ → List ℕ → ArgFault → Type 0
RefusesOwn text list (Text fault) = RefusesNode text fault ⊎ ((node : ℕ) × SpellsNode text node × RefusesNodes list fault)
RefusesOwn text list NoSuchNode = NamesStranger text list
RefusesOwn _ _ _ = ⊥
