-- How processes are spelled in letters. The registrar of a node is one, too: its serial is 0.
use Rattle.std.specs.Prelude.{ℕ, ◌≡◌, ◌⊎◌, List, [], ◌∷◌, ◌++◌}
use Rattle.std.specs.Fmt.{decimal}
use Rattle.registry_model.specs.Process.{Process}
use Rattle.term.specs.declared.faults.TextFault.{TextFault}
use Rattle.term.specs.Spelling.{SpellsNode, SpellsPid, RefusesPid, node_bytes, dot}

-- the bytes spell the registrar of a node: the node, a dot and 0
pub record SpellsRegistrar (bytes : List ℕ) (p : Process) : Type 0 where
  pub node : List ℕ
  pub parts : bytes ≡ node ++ dot ∷ 48 ∷ []
  pub node_spelled : SpellsNode node p.node
  pub serial : p.serial ≡ 0

-- the bytes spell a process
abbrev pub SpellsProcess : List ℕ → Process → Type 0
SpellsProcess bytes p = SpellsPid bytes p ⊎ SpellsRegistrar bytes p

-- the fault for which the bytes are refused as a process: they spell no registrar, and are refused as a pid is
abbrev pub RefusesProcess : List ℕ → TextFault → Type 0
RefusesProcess bytes f = RefusesPid bytes f × ((p : Process) → SpellsRegistrar bytes p → ⊥)

-- the bytes that spell a process
abbrev pub process_bytes : Process → List ℕ
process_bytes p = node_bytes p.node ++ dot ∷ decimal p.serial
