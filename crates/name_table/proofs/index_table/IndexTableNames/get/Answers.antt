use Rattle.std.proofs.Common.{ap, sym, ◌∙◌, Some}
use Rattle.registry_model.specs.Table.{entry}
use Rattle.name_table.specs.declared.change.Registration.{Registration}
use Rattle.name_table.specs.Changes.{pair_under}
use Rattle.name_table.proofs.Index.{entry-table_of}
use Rattle.name_table.proofs.index_table.IndexTableNames.get.Goals as goal

pub returns-in_err-entry : goal.returns-in_err-entry
returns-in_err-entry g c =
    ap (pair_under c.args.name.now) (c.from_residual.ensures ∙ c.in_err-entry.ensures.value)
    ∙ sym (entry-table_of c.self.inside.owners.entries c.args.name.now) ∙ ap (entry c.args.name.now) c.self.view_is

pub returns : goal.returns
returns g c =
    ap (pair_under c.args.name.now) (ap (λ (e : Registration). Some e) c.copy.ensures ∙ c.in_ok-entry.ensures.value)
    ∙ sym (entry-table_of c.self.inside.owners.entries c.args.name.now) ∙ ap (entry c.args.name.now) c.self.view_is
