use Rattle.std.proofs.Common.{sym, ap, ◌∙◌}
use Rattle.std.specs.Option.{option_copied_mut}
use Rattle.lock_table.proofs.Sharing.{joined-first}
use Rattle.lock_table.proofs.sharers.join.Goals as goal

pub returns : goal.returns
returns c =
    joined-first c.args.shared.now.entries _ c.insert.new.self.entries c.args.resource.now c.args.requester.now _ _
    (sym (sym (ap option_copied_mut c.in_default.is) ∙ c.get_mut.ensures.value))
    (ap (λ m. m.entries) c.get_mut.follows.holds-at-none) c.copy-2.ensures c.copy.ensures
    (rw c.unwrap-none.ensures at c.insert.ensures.updates).0
