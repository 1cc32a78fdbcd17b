use Rattle.console.proofs.Borrowing.{looked}
use Rattle.console.proofs.lending.Borrower.look_once.Goals as goal

pub returns : goal.returns
returns g c =
    looked c.args.awaited.now c.look_for-found.result c.args.self.now.known c.give_back.new.self.known c.in-Ok.seat c.look_for-found.new.seat
    c.in-Ok.ensures.lent c.give_back.ensures c.look_for-found.ensures
