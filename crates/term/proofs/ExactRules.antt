-- Rules are spelled and refused exactly.
use Rattle.std.proofs.Common.{◌≡◌, ℕ, ◌⊎◌, inl, inr, List, [], Bool, true, false, nat_eq, sym, ◌∙◌, refl}
use Rattle.std.specs.Cmp.Lexicographic.{pointwise, bytes_decides}
use Rattle.term.specs.declared.faults.TextFault.{TextFault}
use Rattle.term.specs.declared.faults.TextFault.TheVariants.{Empty, TooLong, BadByte, BadCreation, BadSerial, BadRule, TooManyNodes}
use Rattle.term.specs.declared.rule.Rule.{Rule}
use Rattle.term.specs.declared.rule.Rule.TheVariants.{Exit, Notify, NotifyAll}
use Rattle.term.specs.Laws.{IsExact}
use Rattle.term.specs.Rules.{SpellsRule, RefusesRule, rule_bytes}

-- rules that are written alike are one
rule_bytes-injective : (r s : Rule) → rule_bytes r ≡ rule_bytes s → r ≡ s
rule_bytes-injective Exit Exit e = refl
rule_bytes-injective Exit Notify e = absurd (cc e)
rule_bytes-injective Exit NotifyAll e = absurd (cc e)
rule_bytes-injective Notify Exit e = absurd (cc e)
rule_bytes-injective Notify Notify e = refl
rule_bytes-injective Notify NotifyAll e = absurd (cc e)
rule_bytes-injective NotifyAll Exit e = absurd (cc e)
rule_bytes-injective NotifyAll Notify e = absurd (cc e)
rule_bytes-injective NotifyAll NotifyAll e = refl

-- a rule has a byte
some_byte : (r : Rule) → rule_bytes r ≡ [] → ⊥
some_byte Exit e = cc e
some_byte Notify e = cc e
some_byte NotifyAll e = cc e

-- a text that spells a rule is refused for no fault
never_both : (bytes : List ℕ) (r : Rule) (f : TextFault) → SpellsRule bytes r → RefusesRule bytes f → ⊥
never_both bytes r Empty s t = some_byte r (sym s ∙ t)
never_both bytes r BadRule s t = t.1 r s
never_both bytes r TooLong s t = t
never_both bytes r (BadByte p) s t = t
never_both bytes r BadCreation s t = t
never_both bytes r BadSerial s t = t
never_both bytes r TooManyNodes s t = t

-- a text is refused as a rule for one fault
one_fault : (bytes : List ℕ) (f g : TextFault) → RefusesRule bytes f → RefusesRule bytes g → f ≡ g
one_fault bytes Empty Empty r t = refl
one_fault bytes BadRule BadRule r t = refl
one_fault bytes Empty BadRule r t = absurd (t.0 r)
one_fault bytes BadRule Empty r t = absurd (r.0 t)
one_fault bytes TooLong g r t = absurd r
one_fault bytes (BadByte p) g r t = absurd r
one_fault bytes BadCreation g r t = absurd r
one_fault bytes BadSerial g r t = absurd r
one_fault bytes TooManyNodes g r t = absurd r
one_fault bytes Empty TooLong r t = absurd t
one_fault bytes Empty (BadByte p) r t = absurd t
one_fault bytes Empty BadCreation r t = absurd t
one_fault bytes Empty BadSerial r t = absurd t
one_fault bytes Empty TooManyNodes r t = absurd t
one_fault bytes BadRule TooLong r t = absurd t
one_fault bytes BadRule (BadByte p) r t = absurd t
one_fault bytes BadRule BadCreation r t = absurd t
one_fault bytes BadRule BadSerial r t = absurd t
one_fault bytes BadRule TooManyNodes r t = absurd t

-- a text is this one, or another
is_or_not : (bytes others : List ℕ) → (bytes ≡ others) ⊎ (bytes ≡ others → ⊥)
is_or_not bytes others = tested (pointwise nat_eq bytes others) refl
  where
    tested : (t : Bool) → pointwise nat_eq bytes others ≡ t → (bytes ≡ others) ⊎ (bytes ≡ others → ⊥)
    tested true e = inl ((bytes_decides bytes others).0 e)
    tested false e = inr (λ same. cc ((bytes_decides bytes others).1 same, e))

-- each text spells a rule or is refused
always_either : (bytes : List ℕ) → ((r : Rule) × SpellsRule bytes r) ⊎ ((f : TextFault) × RefusesRule bytes f)
always_either bytes =
    elim (is_or_not bytes []) [
      | inl none ↦ inr (Empty, none)
      | inr some ↦ elim (is_or_not bytes (rule_bytes Exit)) [
        | inl exit ↦ inl (Exit, exit)
        | inr no_exit ↦ elim (is_or_not bytes (rule_bytes Notify)) [
          | inl notify ↦ inl (Notify, notify)
          | inr no_notify ↦ elim (is_or_not bytes (rule_bytes NotifyAll)) [
            | inl notify_all ↦ inl (NotifyAll, notify_all)
            | inr no_notify_all ↦ inr (BadRule, (some, none_of no_exit no_notify no_notify_all))
          ]
        ]
      ]
    ]
  where
    none_of : (bytes ≡ rule_bytes Exit → ⊥) → (bytes ≡ rule_bytes Notify → ⊥) → (bytes ≡ rule_bytes NotifyAll → ⊥)
        → (r : Rule) → SpellsRule bytes r → ⊥
    none_of no_exit no_notify no_notify_all Exit s = no_exit s
    none_of no_exit no_notify no_notify_all Notify s = no_notify s
    none_of no_exit no_notify no_notify_all NotifyAll s = no_notify_all s

-- rules are spelled exactly
pub exact_rules : IsExact SpellsRule RefusesRule
exact_rules = record {
  one_value = λ bytes r s e f. rule_bytes-injective r s (sym e ∙ f);
  one_text = λ bytes others r e f. e ∙ sym f;
  one_fault = one_fault;
  never_both = never_both;
  always_either = always_either;
}
