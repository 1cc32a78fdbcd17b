use Rattle.std.proofs.Common.{◌≡◌, true, subst}
use Rattle.registry_model.specs.Table.{Table, is_rising}
use Rattle.name_table.proofs.Index.{is_rising-table_of}
use Rattle.name_table.proofs.index_table.IndexTableNames.rising.Goals as goal

pub returns : goal.returns
returns g c =
    subst (λ (t : Table). is_rising t ≡ true) c.self.view_is (is_rising-table_of c.self.inside.owners.entries)
