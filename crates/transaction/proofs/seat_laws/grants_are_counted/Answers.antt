use Rattle.std.proofs.Common.{ap, ◌∙◌, Ok, true, false}
use Rattle.transaction.specs.Counts.{count_of}
use Rattle.transaction.proofs.Counted.{count-granted, count-refused, count-set-other}
use Rattle.transaction.proofs.seat_laws.grants_are_counted.Goals as goal

pub returns-clause-granted : goal.returns-clause-granted
returns-clause-granted g c = λ s t id nodes retries set.
    ap (count_of id) (g.met.S.LockSeat.set_is_replied s t id nodes retries (Ok true) set)
    ∙ count-granted g.row.S-Fault.Denot id (g.S.LockSeat.replies s)

pub returns-clause-refused : goal.returns-clause-refused
returns-clause-refused g c = λ s t id nodes retries set.
    ap (count_of id) (g.met.S.LockSeat.set_is_replied s t id nodes retries (Ok false) set)
    ∙ count-refused g.row.S-Fault.Denot id (g.S.LockSeat.replies s)

pub returns-clause-others : goal.returns-clause-others
returns-clause-others g c = λ s t id nodes retries answer set other different.
    ap (count_of other) (g.met.S.LockSeat.set_is_replied s t id nodes retries answer set)
    ∙ count-set-other id other answer (g.S.LockSeat.replies s) different
