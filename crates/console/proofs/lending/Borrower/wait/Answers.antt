use Rattle.console.proofs.Looking.{given_up, waits_on}
use Rattle.console.proofs.lending.Borrower.wait.Goals as goal

pub returns-in-Some-why_give_up : goal.returns-in-Some-why_give_up
returns-in-Some-why_give_up g c =
    let k = c.args.self.now.known in
    let l = c.look_once.new.self.known in
    given_up c.args.awaited.now k l c.in-Some-why_give_up.fault
    (waits_on c.args.awaited.now k c.loop.self.known l c.loop.invariant.2 c.in_default.ensures) c.in-Some-why_give_up.ensures
