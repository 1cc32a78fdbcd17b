use Rattle.std.proofs.lemmas.Result.{MatchResult-from_err}
use Rattle.node_port.specs.Commands.{TellsLine, TellsNoLine}
use Rattle.node_port.proofs.Told.{uncut_tells, number_tells, behind_tells, stamp_tells, part_tells}
use Rattle.node_port.proofs.commands.read_link_line.Goals as goal

pub returns-in_err-number : goal.returns-in_err-number
returns-in_err-number c =
    let r = c.from_residual in
    MatchResult-from_err r.result (TellsLine c.args.text.now) (λ _. TellsNoLine c.args.text.now) r.ensures.0
    (λ _. uncut_tells c.args.text.now c.in_err-number.ensures)

pub returns-in_err-stamp : goal.returns-in_err-stamp
returns-in_err-stamp c =
    let r = c.from_residual-in_err-stamp in
    MatchResult-from_err r.result (TellsLine c.args.text.now) (λ _. TellsNoLine c.args.text.now) r.ensures.0
    (λ _. behind_tells c.args.text.now c.in_ok-number.number.now c.in_ok-number.rest.now c.in_ok-number.ensures c.in_err-stamp.ensures)

pub returns-in_err-number-2 : goal.returns-in_err-number-2
returns-in_err-number-2 c =
    let r = c.from_residual-in_err-number-2 in
    MatchResult-from_err r.result (TellsLine c.args.text.now) (λ _. TellsNoLine c.args.text.now) r.ensures.0
    (λ _. number_tells c.args.text.now c.in_ok-number.number.now c.in_ok-number.rest.now c.in_ok-number.ensures c.in_err-number-2.ensures)

pub returns-in_err-stamp-2 : goal.returns-in_err-stamp-2
returns-in_err-stamp-2 c =
    let r = c.from_residual-in_err-stamp-2 in
    MatchResult-from_err r.result (TellsLine c.args.text.now) (λ _. TellsNoLine c.args.text.now) r.ensures.0
    (λ _. stamp_tells c.args.text.now c.in_ok-number.number.now c.in_ok-number.rest.now c.in_ok-number.ensures
    c.in_ok-stamp.stamp.now c.in_ok-stamp.rest.now c.in_ok-stamp.ensures c.in_err-stamp-2.ensures)

pub returns-in_err-part : goal.returns-in_err-part
returns-in_err-part c =
    let r = c.from_residual-in_err-part in
    MatchResult-from_err r.result (TellsLine c.args.text.now) (λ _. TellsNoLine c.args.text.now) r.ensures.0
    (λ _. part_tells c.args.text.now c.in_ok-number.number.now c.in_ok-number.rest.now c.in_ok-number.ensures
    c.in_ok-stamp.stamp.now c.in_ok-stamp.rest.now c.in_ok-stamp.ensures c.in_err-part.ensures)
