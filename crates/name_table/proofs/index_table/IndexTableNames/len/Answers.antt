use Rattle.std.proofs.Common.{length, ap, ◌∙◌}
use Rattle.name_table.proofs.Counting.{counted}
use Rattle.name_table.proofs.index_table.IndexTableNames.len.Goals as goal

pub returns : goal.returns
returns g c =
    c.len.ensures.len ∙ counted c.self.inside.owners.entries c.len.ensures.unique ∙ ap length c.self.view_is
