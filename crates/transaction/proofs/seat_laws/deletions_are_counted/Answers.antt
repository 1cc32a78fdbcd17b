use Rattle.std.proofs.Common.{ap, ◌∙◌, Ok}
use Rattle.transaction.specs.Counts.{count_of}
use Rattle.transaction.proofs.Counted.{count-deleted, count-deleted-other}
use Rattle.transaction.proofs.seat_laws.deletions_are_counted.Goals as goal

pub returns-clause-deleted : goal.returns-clause-deleted
returns-clause-deleted g c = λ s t id nodes deleted.
    ap (count_of id) (g.met.S.LockSeat.deletion_is_replied s t id nodes (Ok tt) deleted)
    ∙ count-deleted g.row.S-Fault.Denot id (g.S.LockSeat.replies s)

pub returns-clause-others : goal.returns-clause-others
returns-clause-others g c = λ s t id nodes answer deleted other different.
    ap (count_of other) (g.met.S.LockSeat.deletion_is_replied s t id nodes answer deleted)
    ∙ count-deleted-other id other answer (g.S.LockSeat.replies s) different
