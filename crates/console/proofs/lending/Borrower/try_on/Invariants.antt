-- no try got the lock so far, and these retries are left
use Rattle.console.specs.Lent.{StillTries}
use Rattle.console.proofs.lending.Borrower.try_on.Given as goal

abbrev pub invariant-loop : goal.invariant-loop
invariant-loop g l =
    (goal.iterator-loop g).can_next l.iterator' × (goal.iterator-loop g).is_finite l.iterator'
    × StillTries l.call l.fn.self.known l.self.known l.left
