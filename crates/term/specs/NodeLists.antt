-- How sets of names of nodes are spelled as texts, and why other texts are refused.
use Rattle.std.specs.Prelude.{◌≡◌, ℕ, ◌==◌, ◌<◌, ◌≤◌, List, [], ◌∷◌, length, take, slice_index_or}
use Rattle.std.specs.List.{slice_split, All, AllZip, join_by}
use Rattle.std.specs.List.Sorted.{IsStrictlyIncreasing}
use Rattle.term.specs.declared.faults.TextFault.{TextFault}
use Rattle.term.specs.declared.faults.TextFault.TheVariants.{Empty, TooLong, BadByte, BadCreation, BadSerial, BadRule, TooManyNodes}
use Rattle.term.specs.NodeSets.{set_of}
use Rattle.term.specs.declared.limits.TheConstants.{MOST_NODES}
use Rattle.term.specs.Spelling.{IsText, SpellsNode, SpellsNodeName, RefusesText, name_bytes, node_bytes}

-- a comma, which parts the names of a list
abbrev pub comma : ℕ
comma = 44

-- the parts of a list: what stands before, between and behind its commas
abbrev pub parts_of : List ℕ → List (List ℕ)
parts_of bytes = slice_split (λ b. b == comma) bytes

-- the bytes list these nodes: each part spells a name, and the nodes are the first of those named, each once, rising
pub record ListsNodes (bytes nodes : List ℕ) : Type 0 where
  pub names : List ℕ
  pub spelled : AllZip SpellsNodeName (parts_of bytes) names
  pub rising : IsStrictlyIncreasing nodes
  pub named : (c : ℕ) → set_of nodes c ≡ set_of names c

-- the bytes spell a set: they list its nodes, and these are not too many
pub record SpellsNodes (bytes nodes : List ℕ) : Type 0 where
  pub listed : ListsNodes bytes nodes
  pub fits : length nodes ≤ MOST_NODES

-- the bytes list more nodes than a set holds
pub record ListsTooMany (bytes : List ℕ) : Type 0 where
  pub nodes : List ℕ
  pub listed : ListsNodes bytes nodes
  pub over : MOST_NODES < length nodes

-- the first part that is no name is refused for the fault
pub record RefusesPart (bytes : List ℕ) (fault : TextFault) : Type 0 where
  pub place : ℕ
  pub inside : place < length (parts_of bytes)
  pub before : All IsText (take place (parts_of bytes))
  pub refused : RefusesText (slice_index_or (parts_of bytes) place []) fault

-- the fault for which the bytes are refused as a set: that of the first part that is no name, and else too many nodes
abbrev pub RefusesNodes : List ℕ → TextFault → Type 0
RefusesNodes bytes TooManyNodes = ListsTooMany bytes
RefusesNodes bytes Empty = RefusesPart bytes Empty
RefusesNodes bytes TooLong = RefusesPart bytes TooLong
RefusesNodes bytes (BadByte place) = RefusesPart bytes (BadByte place)
RefusesNodes bytes BadCreation = ⊥
RefusesNodes bytes BadSerial = ⊥
RefusesNodes bytes BadRule = ⊥

-- the bytes that list these names
abbrev pub list_of : List ℕ → List ℕ
list_of names = join_by name_bytes (comma ∷ []) names

-- the bytes that list these nodes
abbrev pub list_of_nodes : List ℕ → List ℕ
list_of_nodes nodes = join_by node_bytes (comma ∷ []) nodes

-- the bytes spell a set of nodes, of whatever creations: each part spells a node, and the set has these, each once, rising, and not too many
pub record SpellsNodeSet (bytes nodes : List ℕ) : Type 0 where
  pub named : List ℕ
  pub spelled : AllZip SpellsNode (parts_of bytes) named
  pub rising : IsStrictlyIncreasing nodes
  pub has : (c : ℕ) → set_of nodes c ≡ set_of named c
  pub fits : length nodes ≤ MOST_NODES
