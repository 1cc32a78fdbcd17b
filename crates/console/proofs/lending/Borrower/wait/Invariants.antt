-- no look-up found what is waited for so far
use Rattle.console.specs.Lent.{StillLooks}
use Rattle.console.proofs.lending.Borrower.wait.Given as goal

abbrev pub invariant-loop : goal.invariant-loop
invariant-loop g l =
    (goal.iterator-loop g).can_next l.iterator' × (goal.iterator-loop g).is_finite l.iterator'
    × StillLooks l.awaited l.fn.self.known l.self.known
