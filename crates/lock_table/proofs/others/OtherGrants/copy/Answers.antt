use Rattle.std.proofs.Common.{◌∙◌, rules}
use Rattle.std.proofs.lemmas.Map.Entries.{entries_from_clone}
use Rattle.lock_table.proofs.Copied.{copied_kept, copied_stands}
use Rattle.lock_table.proofs.others.OtherGrants.copy.Goals as goal

pub invariant_of-result : goal.invariant_of-result
invariant_of-result c =
    let filed = entries_from_clone _ _ (λ k l i. search rules) (λ v w i. search rules) c.self.inside.grants.entries
    c.in_ok-clone.field-0.entries c.in_ok-clone.ensures.cases in
    let shared = entries_from_clone _ _ (λ k l i. search rules) (λ v w i. search rules) c.self.inside.shared.entries
    c.in_ok-clone-2.field-0.entries c.in_ok-clone-2.ensures.cases in
    let placed = copied_stands _
    (λ t u a. entries_from_clone _ _ (λ k l i. search rules) (λ v w i. search rules) t.entries u.entries a)
    c.self.inside.by_holder.entries c.in_ok-clone-3.field-0.entries c.in_ok-clone-3.ensures.cases in
    copied_kept c.self.inside.grants.entries c.in_ok-clone.field-0.entries c.self.inside.by_holder.entries
    c.in_ok-clone-3.field-0.entries c.self.inside.shared.entries c.in_ok-clone-2.field-0.entries filed placed shared
    c.self.invariant

pub returns : goal.returns
returns c =
    entries_from_clone _ _ (λ k l i. search rules) (λ v w i. search rules) c.self.inside.grants.entries
    c.in_ok-clone.field-0.entries c.in_ok-clone.ensures.cases
    ∙ c.self.view_is
