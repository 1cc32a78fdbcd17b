use Rattle.std.proofs.Common.{ℕ, ◌∙◌, ap, subst, sym, arith}
use Rattle.lock_table.specs.Filed.{IsFiled, listed}
use Rattle.lock_table.proofs.First.{entries_free, few, filed-gained, held-none, listed-gained}
use Rattle.lock_table.proofs.table.LockTable.file.Goals as goal

pub file-requires-clause-absent : goal.file-requires-clause-absent
file-requires-clause-absent c =
    held-none c.self.inside.next c.self.inside.grants c.self.invariant c.args.key c.args.requester
    (rw (← c.self.view_is) at c.requires.absent) (rw (← c.self.view_is) at c.requires.free)

pub file-requires-clause-free : goal.file-requires-clause-free
file-requires-clause-free c =
    entries_free c.self.inside.next c.self.inside.grants c.self.invariant c.args.key c.args.requester
    (rw (← c.self.view_is) at c.requires.absent) (rw (← c.self.view_is) at c.requires.free)

pub file-requires-clause-last : goal.file-requires-clause-last
file-requires-clause-last c = c.self.invariant.below

pub file-requires-clause-few : goal.file-requires-clause-few
file-requires-clause-few c =
    let most = few c.self.inside.next c.self.inside.grants c.self.invariant in omega (arith, most, c.in-Some.ensures)

pub invariant_of-self-2 : goal.invariant_of-self-2
invariant_of-self-2 c =
    subst (λ (j : ℕ). IsFiled j c.file.new.self) (sym c.in-Some.ensures.1)
    (filed-gained c.self.inside.next c.self.inside.grants c.self.invariant c.args.key c.args.requester
    (rw (← c.self.view_is) at c.requires.absent) (rw (← c.self.view_is) at c.requires.free) c.file.new.self
    c.in_ok-file.ensures.ok)

pub returns-clause-ok : goal.returns-clause-ok
returns-clause-ok c =
    rw (← c.self.view_is)
    (ap (λ (j : ℕ). listed j c.file.new.self) c.in-Some.ensures.1
    ∙ listed-gained c.self.inside.next c.self.inside.grants c.self.invariant c.args.key c.args.requester
    (rw (← c.self.view_is) at c.requires.absent) (rw (← c.self.view_is) at c.requires.free) c.file.new.self
    c.in_ok-file.ensures.ok)
