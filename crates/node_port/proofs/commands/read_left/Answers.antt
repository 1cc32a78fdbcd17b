use Rattle.node_port.proofs.Told.{uncut_begin, number_begin, list_begin, begins_so}
use Rattle.node_port.proofs.commands.read_left.Goals as goal

pub returns-in_err-stamp : goal.returns-in_err-stamp
returns-in_err-stamp c = λ bytes is. rw c.from_residual.ensures (uncut_begin bytes c.args.text.now is c.in_err-stamp.ensures)

pub returns-in_err-stamp-2 : goal.returns-in_err-stamp-2
returns-in_err-stamp-2 c = λ bytes is.
    rw c.from_residual-in_err-stamp-2.ensures
    (number_begin bytes c.args.text.now is c.in_ok-stamp.stamp.now c.in_ok-stamp.left.now c.in_ok-stamp.ensures c.in_err-stamp-2.ensures)

pub returns-in_err-left : goal.returns-in_err-left
returns-in_err-left c = λ bytes is.
    rw c.from_residual-in_err-left.ensures
    (list_begin bytes c.args.text.now is c.in_ok-stamp.stamp.now c.in_ok-stamp.left.now c.in_ok-stamp.ensures c.in_err-left.ensures)

pub returns : goal.returns
returns c = λ bytes is.
    begins_so bytes c.args.text.now is c.in_ok-stamp.stamp.now c.in_ok-stamp.left.now c.in_ok-stamp.ensures c.in_ok-stamp-2.stamp
    c.in_ok-left.left c.in_ok-stamp-2.ensures c.in_ok-left.ensures
