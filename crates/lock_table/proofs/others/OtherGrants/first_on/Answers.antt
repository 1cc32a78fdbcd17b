use Rattle.std.proofs.lemmas.Option.{IfSome_then}
use Rattle.lock_table.proofs.Facts.{on_none}
use Rattle.lock_table.proofs.Finding.{held_from, none_on}
use Rattle.lock_table.proofs.others.OtherGrants.first_on.Goals as goal

pub returns-clause-some : goal.returns-clause-some
returns-clause-some c =
    rw (← c.self.view_is)
    (IfSome_then c.first_from.result c.first_from.ensures.some
    (λ key first. (
      held_from c.self.inside.grants.entries c.self.inside.by_holder.entries c.self.invariant.once c.self.invariant.placed
          c.args.node.now _ key first,
      first.0,
    )))

pub returns-clause-none : goal.returns-clause-none
returns-clause-none c =
    rw (← c.self.view_is)
    (on_none c.first_from.result c.first_from.ensures.none
    (none_on c.self.inside.grants.entries c.self.inside.by_holder.entries c.self.invariant.once c.self.invariant.placed
    c.args.node.now))
