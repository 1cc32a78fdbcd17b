use Rattle.console.proofs.Retrying.{tries_given_up, tries_on}
use Rattle.console.proofs.lending.Borrower.try_on.Goals as goal

pub returns-in-Err : goal.returns-in-Err
returns-in-Err g c =
    let k = c.args.self.now.known in
    let l = c.loop.self.known in
    let m = c.try_next.new.self.known in
    tries_given_up c.args.call.now k m c.try_next.new.left c.in-Err.fault
    (tries_on c.args.call.now k l m c.loop.left c.try_next.new.left c.loop.invariant.2 c.in_default.ensures.0 c.in_default.ensures.1) c.in-Err.ensures
