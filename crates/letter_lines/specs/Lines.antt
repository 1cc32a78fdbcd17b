-- Lines as they are printed: their words, parted by one space each.
use Rattle.std.specs.Prelude.{ℕ, codes, ◌≡◌, List, [], ◌∷◌, Option, Some, None}
use Rattle.std.specs.List.{join_with_byte}
use Rattle.registry_model.specs.Process.{Process, Text as AText}
use Rattle.registry_model.specs.Table.{Pair as APair}
use Rattle.term.specs.declared.lock_id.LockId.{LockId}
use Rattle.term.specs.declared.rule.Rule.{Rule as ARule}
use Rattle.term.specs.Rules.{rule_of, SpellsRule}
use Rattle.term.specs.Spelling.{SpellsText, SpellsNode}
use Rattle.letter_lines.specs.Processes.{SpellsProcess}

-- the line has these words
abbrev pub IsLine : List (List ℕ) → List ℕ → Type 0
IsLine words line = line ≡ join_with_byte 32 words

-- it has the word, and the texts of a name, its owner and its rule
pub record LineOfPair (word : List ℕ) (e : APair) (line : List ℕ) : Type 0 where
  pub name : List ℕ
  pub owner : List ℕ
  pub text : List ℕ
  pub rule : ARule
  pub name_spelled : SpellsText name e.name
  pub owner_spelled : SpellsProcess owner e.owner
  pub rule_spelled : SpellsRule text rule
  pub same : e.rule ≡ rule_of rule
  pub is : IsLine (word ∷ name ∷ owner ∷ text ∷ []) line

-- it has the word, the texts of a lock's id and of who asks for it, and these words
pub record LineOfLockBy (word : List ℕ) (id : LockId) (p : Process) (last : List (List ℕ)) (line : List ℕ) : Type 0 where
  pub resource : List ℕ
  pub requester : List ℕ
  pub holder : List ℕ
  pub resource_spelled : SpellsText resource id.resource
  pub requester_spelled : SpellsNode requester id.requester
  pub holder_spelled : SpellsProcess holder p
  pub is : IsLine (word ∷ resource ∷ requester ∷ holder ∷ last) line

abbrev pub LineOfLock : List ℕ → LockId → Process → List ℕ → Type 0
LineOfLock word id p line = LineOfLockBy word id p [] line

abbrev pub LineOfLockWith : List ℕ → LockId → Process → List ℕ → List ℕ → Type 0
LineOfLockWith word id p last line = LineOfLockBy word id p (last ∷ []) line

-- the words are the text of the other process that lost a name, if there is one
abbrev pub SpellsOther : List (List ℕ) → Option Process → Type 0
SpellsOther [] None = Unit {0}
SpellsOther (text ∷ []) (Some q) = SpellsProcess text q
SpellsOther _ _ = ⊥

-- it has the texts of a notice
pub record LineOfNotice (p : Process) (x : AText) (other : Option Process) (line : List ℕ) : Type 0 where
  pub process : List ℕ
  pub name : List ℕ
  pub last : List (List ℕ)
  pub process_spelled : SpellsProcess process p
  pub name_spelled : SpellsText name x
  pub last_spelled : SpellsOther last other
  pub is : IsLine (codes "+notice" ∷ process ∷ name ∷ last) line
