-- Texts, processes, and sets of nodes.
use Rattle.std.specs.Prelude.{ℕ, Bool, true, false, zero, suc, ◌==◌, ◌&&◌, ◌+◌, ◌-◌, ◌*◌, ◌^◌, List, [], ◌∷◌, ◌++◌, if◌then◌else◌}
use Rattle.registry_model.specs.declared.limits.TheConstants.{LONGEST_TEXT}

-- A text, as a name, a resource or a requester, is a number: the place of its bytes in the byte order of all texts. All that
-- the registry asks of texts is whether two are one, and which is the lesser. A node is the text of its name
abbrev pub Text : Type 0
Text = ℕ

-- the bytes as digits behind a point, k digits long in all: so texts of at most k bytes, none of them 0, rise as their bytes do
abbrev pub place_in : ℕ → List ℕ → Text
place_in k [] = 0
place_in k (b ∷ bs) = b * 256 ^ (k - 1) + place_in (k - 1) bs

-- the text of these bytes, which are no more than a text has at most
abbrev pub text_of : List ℕ → Text
text_of bytes = place_in LONGEST_TEXT bytes

-- a process; serial 0 is the registrar of its node, which is never live
pub record Process : Type 0 where
  pub node : ℕ
  pub serial : ℕ

-- whether two processes are one
abbrev pub is_process : Process → Process → Bool
is_process p q = (p.node == q.node) && (p.serial == q.serial)

-- a set of nodes
abbrev pub Nodes : Type 0
Nodes = ℕ → Bool

-- no node
abbrev pub nobody : Nodes
nobody c = false

-- f, but v at a
abbrev pub at : {A : Type 0} → (ℕ → A) → ℕ → A → ℕ → A
at f a v x = if x == a then v else f x

-- the set, and n with it
abbrev pub with_node : ℕ → Nodes → Nodes
with_node n s = at s n true

-- the set, and n not in it
abbrev pub without_node : ℕ → Nodes → Nodes
without_node n s = at s n false

-- the nodes of a set below n, rising
abbrev pub nodes_of : ℕ → Nodes → List ℕ
nodes_of zero s = []
nodes_of (suc n) s = nodes_of n s ++ (if s n then n ∷ [] else [])
