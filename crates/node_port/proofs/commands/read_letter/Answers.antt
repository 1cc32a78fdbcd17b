use Rattle.std.proofs.lemmas.Result.{MatchResult-from_err}
use Rattle.node_port.specs.Commands.{Says, SaysNothing}
use Rattle.node_port.proofs.Told.{no_node, uncut_letter, sender_letter, line_letter}
use Rattle.node_port.proofs.commands.read_letter.Goals as goal

pub returns-in_err-from : goal.returns-in_err-from
returns-in_err-from c = λ reader bytes is.
    MatchResult-from_err c.from_residual.result (Says reader bytes) (λ _. SaysNothing bytes) c.from_residual.ensures.0
    (λ _. uncut_letter bytes c.args.text.now is c.in_err-from.ensures)

pub returns-in_err-from-2 : goal.returns-in_err-from-2
returns-in_err-from-2 c = λ reader bytes is.
    let r = c.from_residual-in_err-from-2 in
    MatchResult-from_err r.result (Says reader bytes) (λ _. SaysNothing bytes) r.ensures.0
    (λ _. sender_letter bytes c.args.text.now c.in_ok-from.from.now c.in_ok-from.rest.now is c.in_ok-from.ensures
    (no_node c.in_ok-from.from.now c.in_err-from-2.field-0.0 c.in_err-from-2.ensures))

pub returns-in_err-read_link_line : goal.returns-in_err-read_link_line
returns-in_err-read_link_line c = λ reader bytes is.
    let r = c.from_residual-in_err-read_link_line in
    MatchResult-from_err r.result (Says reader bytes) (λ _. SaysNothing bytes) r.ensures.0
    (λ _. line_letter bytes c.args.text.now c.in_ok-from.from.now c.in_ok-from.rest.now is c.in_ok-from.ensures
    c.in_err-read_link_line.ensures)
