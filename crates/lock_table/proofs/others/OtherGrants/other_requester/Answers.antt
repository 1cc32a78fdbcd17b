use Rattle.std.proofs.lemmas.Option.{IfSome_then}
use Rattle.lock_table.proofs.Facts.{on_none}
use Rattle.lock_table.proofs.Sharing.{open-filed, under-filed}
use Rattle.lock_table.proofs.others.OtherGrants.other_requester.Goals as goal

pub returns-clause-some : goal.returns-clause-some
returns-clause-some c =
    rw (← c.self.view_is)
    (IfSome_then c.other_requester.result c.other_requester.ensures.some
    (λ other h. (
      under-filed c.self.inside.grants.entries c.self.inside.shared.entries c.self.invariant.counted
          c.args.resource.now other c.self.invariant.once h.0,
      h.1,
    )))

pub returns-clause-none : goal.returns-clause-none
returns-clause-none c =
    rw (← c.self.view_is)
    (on_none c.other_requester.result c.other_requester.ensures.none
    (open-filed c.self.inside.grants.entries c.self.inside.shared.entries c.self.invariant.counted
    c.args.resource.now c.args.requester.now c.self.invariant.once))
