use Rattle.std.proofs.Common.{ℕ, ap, ◌∙◌, rules}
use Rattle.std.specs.Prelude.{not, ◌==◌}
use Rattle.std.proofs.lemmas.Map.Made.{filter_same_pairs}
use Rattle.registry_model.specs.Table.{without}
use Rattle.name_table.specs.Index.{table_of}
use Rattle.name_table.proofs.Departures.{agrees-without}
use Rattle.name_table.proofs.Index.{table-without}
use Rattle.name_table.proofs.index_table.IndexTableNames.drop_node.Goals as goal

pub invariant_of-self : goal.invariant_of-self
invariant_of-self g c =
    let d : ℕ = c.args.node.now in
    agrees-without c.self.inside.owners.entries c.retain.new.self.entries c.self.inside.owned.entries
    c.retain-2.new.self.entries d c.len-owners.ensures.unique
    (filter_same_pairs _ (λ e. not (e.1.owner.node == d)) _ (λ k v b w f' t. search rules) _ _ c.retain.ensures.filtered)
    (filter_same_pairs _ (λ e. not (e.0.node == d)) _ (λ k v b w f' t. search rules) _ _ c.retain-2.ensures.filtered)
    c.self.invariant

pub returns : goal.returns
returns g c =
    let d : ℕ = c.args.node.now in
    ap table_of
    (filter_same_pairs _ (λ e. not (e.1.owner.node == d)) _ (λ k v b w f' t. search rules) _ _ c.retain.ensures.filtered)
    ∙ table-without c.self.inside.owners.entries d c.len-owners.ensures.unique
    ∙ ap (without (λ n. n == d)) c.self.view_is
