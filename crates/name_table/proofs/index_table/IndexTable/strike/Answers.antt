use Rattle.std.proofs.Common.{sym}
use Rattle.name_table.proofs.Index.{table-strike}
use Rattle.name_table.proofs.Agreement.{struck, struck_none, agrees-strike}
use Rattle.name_table.proofs.index_table.IndexTable.strike.Goals as goal

pub invariant_of-self : goal.invariant_of-self
invariant_of-self g c =
    agrees-strike c.self.inside.owners.entries c.forget.new.owners.entries c.self.inside.owned.entries _
    c.args.owner.now c.self.invariant c.swap_remove.ensures.updates.0
    (struck c.self.inside.owners.entries c.forget.new.owners.entries c.self.inside.owned.entries c.args.owner.now
    c.in-Some.names c.self.invariant (sym c.in-Some.ensures.value) c.forget.ensures)

pub returns-in-Some : goal.returns-in-Some
returns-in-Some g c =
    rw (← c.self.view_is) (table-strike c.self.inside.owners.entries c.forget.new.owners.entries c.args.owner.now
    (struck c.self.inside.owners.entries c.forget.new.owners.entries c.self.inside.owned.entries c.args.owner.now
    c.in-Some.names c.self.invariant (sym c.in-Some.ensures.value) c.forget.ensures))

pub returns-in_default : goal.returns-in_default
returns-in_default g c =
    rw (← c.self.view_is) (table-strike c.self.inside.owners.entries c.self.inside.owners.entries c.args.owner.now
    (struck_none c.self.inside.owners.entries c.self.inside.owned.entries c.args.owner.now c.self.invariant
    (sym c.in_default.ensures.value)))
