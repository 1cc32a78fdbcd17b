use Rattle.std.proofs.Common.{ℕ, ◌-◌, ap, ◌∙◌, Ok, true}
use Rattle.transaction.specs.Counts.{count_of}
use Rattle.transaction.proofs.Counted.{count-granted, count-deleted, less_one}
use Rattle.transaction.proofs.seat_laws.a_deletion_undoes_one_grant.Goals as goal

pub returns : goal.returns
returns g c = λ s held left end id nodes named retries set deleted kept.
    let replies = g.S.LockSeat.replies in
    ap (count_of id) (g.met.S.LockSeat.deletion_is_replied left end id named (Ok tt) deleted)
    ∙ count-deleted g.row.S-Fault.Denot id (replies left)
    ∙ ap (λ (n : ℕ). n - 1)
    (kept ∙ ap (count_of id) (g.met.S.LockSeat.set_is_replied s held id nodes retries (Ok true) set)
    ∙ count-granted g.row.S-Fault.Denot id (replies s)) ∙ less_one (count_of id (replies s))
