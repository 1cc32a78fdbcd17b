-- What makes a spelling exact.
use Rattle.std.specs.Prelude.{◌≡◌, ℕ, ◌⊎◌, List}
use Rattle.std.specs.Cmp.Lexicographic.{slice_cmp}
use Rattle.std.specs.Ordering.{nat_cmp}
use Rattle.term.specs.declared.faults.TextFault.{TextFault}
use Rattle.term.specs.Spelling.{SpellsText, SpellsNodeName}

-- a text spells one value or is refused for one fault, never both
pub record IsDecided {V : Type 0} (Spells : List ℕ → V → Type 0) (Refuses : List ℕ → TextFault → Type 0) : Type 0 where
  pub one_value : (bytes : List ℕ) (v w : V) → Spells bytes v → Spells bytes w → v ≡ w
  pub one_fault : (bytes : List ℕ) (f g : TextFault) → Refuses bytes f → Refuses bytes g → f ≡ g
  pub never_both : (bytes : List ℕ) (v : V) (f : TextFault) → Spells bytes v → Refuses bytes f → ⊥
  pub always_either : (bytes : List ℕ) → ((v : V) × Spells bytes v) ⊎ ((f : TextFault) × Refuses bytes f)

-- a text spells one value or is refused for one fault, never both, and a value has one text at most
pub record IsExact {V : Type 0} (Spells : List ℕ → V → Type 0) (Refuses : List ℕ → TextFault → Type 0) : Type 0 where
  pub one_value : (bytes : List ℕ) (v w : V) → Spells bytes v → Spells bytes w → v ≡ w
  pub one_text : (bytes others : List ℕ) (v : V) → Spells bytes v → Spells others v → bytes ≡ others
  pub one_fault : (bytes : List ℕ) (f g : TextFault) → Refuses bytes f → Refuses bytes g → f ≡ g
  pub never_both : (bytes : List ℕ) (v : V) (f : TextFault) → Spells bytes v → Refuses bytes f → ⊥
  pub always_either : (bytes : List ℕ) → ((v : V) × Spells bytes v) ⊎ ((f : TextFault) × Refuses bytes f)

-- names are ordered as the bytes of their texts are
abbrev pub KeepsByteOrder : Type 0
KeepsByteOrder = (bytes others : List ℕ) (v w : ℕ) → SpellsText bytes v → SpellsText others w
    → nat_cmp v w ≡ slice_cmp nat_cmp bytes others

-- names of nodes, too
abbrev pub NodeNamesKeepByteOrder : Type 0
NodeNamesKeepByteOrder = (bytes others : List ℕ) (v w : ℕ) → SpellsNodeName bytes v → SpellsNodeName others w
    → nat_cmp v w ≡ slice_cmp nat_cmp bytes others
