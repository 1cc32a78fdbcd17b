use Rattle.name_table.proofs.Index.{table-remove}
use Rattle.name_table.proofs.index_table.IndexTable.remove.Goals as goal

pub returns-in-Some : goal.returns-in-Some
returns-in-Some g c =
    rw (← c.self.view_is) (table-remove c.self.inside.owners.entries c.swap_remove.new.self.entries c.args.name.now
    c.swap_remove.ensures.updates.0)

pub returns-in_default : goal.returns-in_default
returns-in_default g c =
    rw (← c.self.view_is) (table-remove c.self.inside.owners.entries c.swap_remove.new.self.entries c.args.name.now
    c.swap_remove.ensures.updates.0)
