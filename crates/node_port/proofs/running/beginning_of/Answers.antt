use Rattle.std.proofs.Common.{sym, ◌∙◌}
use Rattle.node_port.proofs.Beginnings.{says_nothing, unfit_begins, spent_begins}
use Rattle.node_port.proofs.running.beginning_of.Goals as goal

pub returns-in_err-said-clause-begins : goal.returns-in_err-said-clause-begins
returns-in_err-said-clause-begins c = λ bytes k.
    rw c.from_residual.ensures (says_nothing c.args.node.now c.args.names.now bytes (c.in_err-said.ensures bytes k))

pub returns-then-not-fits-clause-begins : goal.returns-then-not-fits-clause-begins
returns-then-not-fits-clause-begins c = λ bytes k.
    unfit_begins c.args.node.now c.args.names.now bytes c.in_ok-said.said.stamp c.in_ok-said.said.left (c.in_ok-said.ensures bytes k)
    (sym c.fits.ensures ∙ c.if-not-fits.true)

pub returns-in_err-stamp-clause-begins : goal.returns-in_err-stamp-clause-begins
returns-in_err-stamp-clause-begins c = λ bytes k.
    rw c.from_residual-in_err-stamp.ensures
    (spent_begins c.args.node.now c.args.names.now bytes c.in_ok-said.said.stamp c.in_ok-said.said.left (c.in_ok-said.ensures bytes k)
    c.in_err-stamp.ensures)
