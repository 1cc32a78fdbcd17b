-- Rules as the registry has them, and how they are spelled.
use Rattle.std.specs.Prelude.{◌≡◌, ℕ, List, [], ◌∷◌}
use Rattle.registry_model.specs.Table.{Rule as AnyRule}
use Rattle.term.specs.declared.faults.TextFault.{TextFault}
use Rattle.term.specs.declared.faults.TextFault.TheVariants.{Empty, BadRule}
use Rattle.term.specs.declared.rule.Rule.{Rule}
use Rattle.term.specs.declared.rule.Rule.TheVariants.{Exit, Notify, NotifyAll}

-- what a rule is to the registry
abbrev pub rule_of : Rule → AnyRule
rule_of Exit = AnyRule.Exit
rule_of Notify = AnyRule.Notify
rule_of NotifyAll = AnyRule.NotifyAll

-- the other way round
abbrev pub rule_in : AnyRule → Rule
rule_in AnyRule.Exit = Exit
rule_in AnyRule.Notify = Notify
rule_in AnyRule.NotifyAll = NotifyAll

-- the texts `exit`, `notify` and `notify_all`
abbrev pub rule_bytes : Rule → List ℕ
rule_bytes Exit = 101 ∷ 120 ∷ 105 ∷ 116 ∷ []
rule_bytes Notify = 110 ∷ 111 ∷ 116 ∷ 105 ∷ 102 ∷ 121 ∷ []
rule_bytes NotifyAll = 110 ∷ 111 ∷ 116 ∷ 105 ∷ 102 ∷ 121 ∷ 95 ∷ 97 ∷ 108 ∷ 108 ∷ []

-- the bytes spell a rule
abbrev pub SpellsRule : List ℕ → Rule → Type 0
SpellsRule bytes rule = bytes ≡ rule_bytes rule

-- the fault for which the bytes are refused as a rule: there are none, or they spell none
abbrev pub RefusesRule : List ℕ → TextFault → Type 0
RefusesRule bytes Empty = bytes ≡ []
RefusesRule bytes BadRule = (bytes ≡ [] → ⊥) × ((rule : Rule) → SpellsRule bytes rule → ⊥)
RefusesRule bytes _ = ⊥
