-- Nodes as numbers. A node is a name and a creation, which is 1 to 4,294,967,295. Its number is that of the text of its name
-- times 2 ^ 32, and its creation less 1: so nodes are ordered by name, and then by creation. A name is seen as its first node.
use Rattle.std.specs.Prelude.{◌≡◌, ℕ, ◌+◌, ◌*◌, ◌/◌, ◌%◌, ◌^◌, List}
use Rattle.std.specs.List.{range_with_len}
use Rattle.registry_model.specs.Process.{Text}

-- the number of the first node whose name is this text
abbrev pub first_node : Text → ℕ
first_node text = text * 2 ^ 32

-- the text of the name of a node
abbrev pub text_in : ℕ → Text
text_in n = n / 2 ^ 32

-- the name of a node, which is its first node
abbrev pub name_of : ℕ → ℕ
name_of n = n / 2 ^ 32 * 2 ^ 32

-- the creation of a node
abbrev pub creation_of : ℕ → ℕ
creation_of n = n % 2 ^ 32 + 1

-- the last creation of a name
abbrev pub last_creation : ℕ
last_creation = 4294967295

-- the node is the first of its name
abbrev pub IsFirst : ℕ → Type 0
IsFirst n = n % 2 ^ 32 ≡ 0

-- the nodes of a name, rising
unfoldable pub nodes_of : ℕ → List ℕ
nodes_of x = range_with_len x (2 ^ 32)
