use Rattle.std.proofs.Common.{ℕ, false, subst}
use Rattle.std.specs.Io.Buffered.{reader_remaining}
use Rattle.console.specs.Consoles.{Serves}
use Rattle.console.specs.Seats.{GoesOn, SeatAnswers, SeatStands}
use Rattle.console.proofs.Keeping.{serves_keeps, stops_keeps}
use Rattle.console.proofs.Knowing.{goes_nowhere, goes_further, answers_on}
use Rattle.console.proofs.serving.serve_from.Goals as goal

pub returns-in_err-answer_lines-clause-own : goal.returns-in_err-answer_lines-clause-own
returns-in_err-answer_lines-clause-own g c = stops_keeps SeatAnswers SeatStands false GoesOn goes_nowhere goes_further answers_on
    c.from-most.result _ _ _ _ c.args.seat.now c.answer_lines.new.attendant _ c.in_err-answer_lines.ensures

pub returns-clause-served : goal.returns-clause-served
returns-clause-served g c =
    let seat = c.answer_lines.new.attendant in
    let input = reader_remaining g.R.Read.remaining c.args.reader.now in
    let rest = reader_remaining g.R.Read.remaining c.answer_lines.new.reader in
    let old = g.W.Write.contents c.args.writer.now in
    let new = g.W.Write.contents c.answer_lines.new.writer in
    let served = c.in_ok-answer_lines.ensures in
    subst (λ (most : ℕ). Serves SeatAnswers SeatStands false most input rest old new c.args.seat.now seat) c.from-most.ensures
    (served.0, served.1.0, served.2)

pub returns-clause-own : goal.returns-clause-own
returns-clause-own g c =
    let served = c.in_ok-answer_lines.ensures in
    serves_keeps SeatAnswers SeatStands false GoesOn goes_nowhere goes_further answers_on c.from-most.result _ _ _ _
    c.args.seat.now c.answer_lines.new.attendant (served.0, served.1.0, served.2)
