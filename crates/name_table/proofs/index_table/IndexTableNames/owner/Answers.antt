use Rattle.std.proofs.Common.{ap, sym, ◌∙◌, Some}
use Rattle.registry_model.specs.Process.{Process}
use Rattle.registry_model.specs.Table.{get}
use Rattle.name_table.specs.Index.{owner_under}
use Rattle.name_table.proofs.Index.{get-table_of}
use Rattle.name_table.proofs.index_table.IndexTableNames.owner.Goals as goal

pub returns-in_err-entry : goal.returns-in_err-entry
returns-in_err-entry g c =
    c.from_residual.ensures ∙ ap owner_under c.in_err-entry.ensures.value
    ∙ sym (get-table_of c.self.inside.owners.entries c.args.name.now) ∙ ap (get c.args.name.now) c.self.view_is

pub returns : goal.returns
returns g c =
    ap (λ (p : Process). Some p) c.copy.ensures ∙ ap owner_under c.in_ok-entry.ensures.value
    ∙ sym (get-table_of c.self.inside.owners.entries c.args.name.now) ∙ ap (get c.args.name.now) c.self.view_is
