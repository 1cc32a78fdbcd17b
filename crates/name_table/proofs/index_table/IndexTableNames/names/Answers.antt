use Rattle.std.proofs.Common.{rules, ◌≡◌, map, List, IfOk, subst, ap, ◌∙◌}
use Rattle.registry_model.specs.Process.{Text}
use Rattle.registry_model.specs.Table.{names}
use Rattle.name_table.specs.Index.{pair_of}
use Rattle.name_table.proofs.Sorting.{names-map}
use Rattle.name_table.proofs.index_table.IndexTableNames.names.Goals as goal

pub returns : goal.returns
returns g c =
    let all : IfOk c.names_in.result (λ list. list.items ≡ map (λ e. e.0.now) c.in_ok-sorted.field-0.items) =
    search rules in
    subst (λ (xs : List Text). IfOk c.names_in.result (λ list. list.items ≡ xs))
    (names-map (λ e. pair_of (e.0.now, e.1.now)) c.in_ok-sorted.field-0.items
    ∙ ap names (c.in_ok-sorted.ensures ∙ c.self.view_is)) all
