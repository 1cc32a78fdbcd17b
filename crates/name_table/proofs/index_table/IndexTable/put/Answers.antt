use Rattle.std.proofs.Common.{◌∙◌, ap, sym}
use Rattle.std.proofs.lemmas.Bool.{not-true, not-false}
use Rattle.registry_model.specs.Process.{is_process}
use Rattle.name_table.proofs.Index.{table-put}
use Rattle.name_table.specs.Index.{owner_under}
use Rattle.name_table.proofs.Agreement.{agrees-put_over}
use Rattle.name_table.proofs.Puts.{standing-put, owner_of-put, standing-same, agrees-put_new, agrees-put_same}
use Rattle.name_table.proofs.index_table.IndexTable.put.Goals as goal

pub invariant_of-self-then-ne : goal.invariant_of-self-then-ne
invariant_of-self-then-ne g c =
    let after = standing-put c.self.inside.owners.entries c.reserve.new.self.entries c.insert.new.self.entries
    c.args.name c.copy.result c.args.entry c.copy-2.result c.reserve.ensures.entries c.copy.ensures c.copy-2.ensures
    (rw c.unwrap-before.ensures at c.insert.ensures.updates).0 in
    let had = standing-same c.self.inside.owners.entries c.reserve.new.self.entries c.args.name c.copy.result
    c.reserve.ensures.entries c.copy.ensures ∙ sym (rw c.unwrap-before.ensures at c.insert.ensures.old) in
    agrees-put_over c.self.inside.owners.entries c.insert.new.self.entries c.self.inside.owned.entries
    c.list.new.owned.entries c.unlist.new.owned.entries c.args.name c.args.entry.owner c.in-Some.before.owner c.self.invariant
    (owner_of-put c.self.inside.owners.entries c.insert.new.self.entries c.args.name c.args.entry after)
    c.in_ok-list.ensures.ok c.unlist.ensures.unlisted
    (c.unlist.ensures.named (c.list.ensures.named c.self.invariant.named)) (ap owner_under (had ∙ c.in-Some.is))
    (not-true (is_process c.in-Some.before.owner c.args.entry.owner) (sym c.ne.ensures ∙ c.if-ne.true))

pub invariant_of-self-else-ne : goal.invariant_of-self-else-ne
invariant_of-self-else-ne g c =
    let after = standing-put c.self.inside.owners.entries c.reserve.new.self.entries c.insert.new.self.entries
    c.args.name c.copy.result c.args.entry c.copy-2.result c.reserve.ensures.entries c.copy.ensures c.copy-2.ensures
    (rw c.unwrap-before.ensures at c.insert.ensures.updates).0 in
    let had = standing-same c.self.inside.owners.entries c.reserve.new.self.entries c.args.name c.copy.result
    c.reserve.ensures.entries c.copy.ensures ∙ sym (rw c.unwrap-before.ensures at c.insert.ensures.old) in
    agrees-put_same c.self.inside.owners.entries c.insert.new.self.entries c.self.inside.owned.entries
    c.list.new.owned.entries c.args.name c.args.entry.owner c.in-Some.before.owner c.self.invariant
    (owner_of-put c.self.inside.owners.entries c.insert.new.self.entries c.args.name c.args.entry after) c.in_ok-list.ensures.ok
    (c.list.ensures.named c.self.invariant.named) (ap owner_under (had ∙ c.in-Some.is))
    (not-false (is_process c.in-Some.before.owner c.args.entry.owner) (sym c.ne.ensures ∙ c.if-ne.false))

pub invariant_of-self-in_default : goal.invariant_of-self-in_default
invariant_of-self-in_default g c =
    let after = standing-put c.self.inside.owners.entries c.reserve.new.self.entries c.insert.new.self.entries
    c.args.name c.copy.result c.args.entry c.copy-2.result c.reserve.ensures.entries c.copy.ensures c.copy-2.ensures
    (rw c.unwrap-before.ensures at c.insert.ensures.updates).0 in
    let had = standing-same c.self.inside.owners.entries c.reserve.new.self.entries c.args.name c.copy.result
    c.reserve.ensures.entries c.copy.ensures ∙ sym (rw c.unwrap-before.ensures at c.insert.ensures.old) in
    agrees-put_new c.self.inside.owners.entries c.insert.new.self.entries c.self.inside.owned.entries
    c.list.new.owned.entries c.args.name c.args.entry.owner c.self.invariant
    (owner_of-put c.self.inside.owners.entries c.insert.new.self.entries c.args.name c.args.entry after) c.in_ok-list.ensures.ok
    (c.list.ensures.named c.self.invariant.named) (ap owner_under (had ∙ c.in_default.is))

pub returns-then-ne-clause-ok : goal.returns-then-ne-clause-ok
returns-then-ne-clause-ok g c =
    let after = standing-put c.self.inside.owners.entries c.reserve.new.self.entries c.insert.new.self.entries
    c.args.name c.copy.result c.args.entry c.copy-2.result c.reserve.ensures.entries c.copy.ensures c.copy-2.ensures
    (rw c.unwrap-before.ensures at c.insert.ensures.updates).0 in
    rw (← c.self.view_is)
    (table-put c.self.inside.owners.entries c.insert.new.self.entries c.args.name c.args.entry after)

pub returns-else-ne-clause-ok : goal.returns-else-ne-clause-ok
returns-else-ne-clause-ok g c =
    let after = standing-put c.self.inside.owners.entries c.reserve.new.self.entries c.insert.new.self.entries
    c.args.name c.copy.result c.args.entry c.copy-2.result c.reserve.ensures.entries c.copy.ensures c.copy-2.ensures
    (rw c.unwrap-before.ensures at c.insert.ensures.updates).0 in
    rw (← c.self.view_is)
    (table-put c.self.inside.owners.entries c.insert.new.self.entries c.args.name c.args.entry after)

pub returns-in_default-clause-ok : goal.returns-in_default-clause-ok
returns-in_default-clause-ok g c =
    let after = standing-put c.self.inside.owners.entries c.reserve.new.self.entries c.insert.new.self.entries
    c.args.name c.copy.result c.args.entry c.copy-2.result c.reserve.ensures.entries c.copy.ensures c.copy-2.ensures
    (rw c.unwrap-before.ensures at c.insert.ensures.updates).0 in
    rw (← c.self.view_is)
    (table-put c.self.inside.owners.entries c.insert.new.self.entries c.args.name c.args.entry after)
