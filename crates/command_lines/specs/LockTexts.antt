-- The texts of a lock call that say whom it asks, and how often.
use Rattle.std.specs.Prelude.{ℕ, ◌≡◌, ◌≢◌, ◌<◌, ◌^◌, codes, length, map, List, Option, Some, None, IfSome}
use Rattle.std.specs.Fmt.{decimal}
use Rattle.protocol_model.specs.Node.{Target, Retries}
use Rattle.term.specs.declared.faults.TextFault.{TextFault}
use Rattle.term.specs.Nodes.{nodes_of}
use Rattle.term.specs.NodeLists.{SpellsNodes, RefusesNodes}

-- the text for all members
abbrev pub all_members : List ℕ
all_members = codes "all"

-- whom a call asks that has these names, or none; a name stands for all nodes that have it
abbrev pub target_in : Option (List ℕ) → Target
target_in None = Target.All
target_in (Some names) = Target.Named (map nodes_of names)

-- the names are at least one, where there are some
abbrev pub NamesSome : Option (List ℕ) → Type 0
NamesSome named = IfSome named (λ names. 0 < length names)

-- the text lists names that stand for these nodes
pub record Lists (text : List ℕ) (nodes : List (List ℕ)) : Type 0 where
  pub names : List ℕ
  pub spelled : SpellsNodes text names
  pub stand : nodes ≡ map nodes_of names

-- the text spells whom a call asks: `all` alone is all members, also where a node is called so
abbrev pub SpellsTarget : List ℕ → Target → Type 0
SpellsTarget text Target.All = text ≡ all_members
SpellsTarget text (Target.Named nodes) = (text ≢ all_members) × Lists text nodes

-- the fault for which the text spells nobody
abbrev pub RefusesTarget : List ℕ → TextFault → Type 0
RefusesTarget text f = (text ≢ all_members) × RefusesNodes text f

-- the digits spell a number: they are its decimal digits, with no needless zero, and it is 0 to 4,294,967,295
pub record SpellsCount (digits : List ℕ) (n : ℕ) : Type 0 where
  pub written : digits ≡ decimal n
  pub high : n < 2 ^ 32

-- the text spells how often a refused call may begin anew
abbrev pub SpellsRetries : List ℕ → Retries → Type 0
SpellsRetries text (Retries.Times n) = SpellsCount text n
SpellsRetries text Retries.Endless = text ≡ codes "infinity"

-- it spells no such number
abbrev pub SpellsNoRetries : List ℕ → Type 0
SpellsNoRetries text = (r : Retries) → SpellsRetries text r → ⊥
