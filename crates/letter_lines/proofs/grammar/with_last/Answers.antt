use Rattle.letter_lines.proofs.Cuts.{too_many}
use Rattle.letter_lines.proofs.grammar.with_last.Goals as goal

pub returns-in-Some : goal.returns-in-Some
returns-in-Some c =
    rw c.in-Some.ensures (too_many c.args.word.now c.args.first.now c.args.second.now c.args.third.now c.in-Some.field-0.0.now
    c.in-Some.field-0.1.now)
