use Rattle.std.proofs.Common.{ap, sym, subst, ◌∙◌, rules}
use Rattle.std.proofs.lemmas.Map.Entries.{entries_from_clone}
use Rattle.name_table.specs.Index.{Owners, Owned, Agrees, table_of}
use Rattle.name_table.proofs.index_table.IndexTableNames.copy.Goals as goal

pub invariant_of-result : goal.invariant_of-result
invariant_of-result g c =
    let owners = entries_from_clone _ _ (λ x y i. search rules) (λ p q i. search rules) c.self.inside.owners.entries
    c.in_ok-clone.field-0.entries c.in_ok-clone.ensures.cases in
    let owned = entries_from_clone _ _ (λ p q i. search rules) (λ s t i. i) c.self.inside.owned.entries
    c.in_ok-clone-2.field-0.entries c.in_ok-clone-2.ensures.cases in
    subst (λ (es : Owners). Agrees es c.in_ok-clone-2.field-0.entries) (sym owners)
    (subst (λ (es : Owned). Agrees c.self.inside.owners.entries es) (sym owned) c.self.invariant)

pub returns : goal.returns
returns g c =
    ap table_of
    (entries_from_clone _ _ (λ x y i. search rules) (λ p q i. search rules) c.self.inside.owners.entries
    c.in_ok-clone.field-0.entries c.in_ok-clone.ensures.cases)
    ∙ c.self.view_is
