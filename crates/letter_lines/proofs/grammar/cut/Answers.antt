use Rattle.std.proofs.Common.{arith}
use Rattle.letter_lines.proofs.Cuts.{cut_words}
use Rattle.letter_lines.proofs.grammar.cut.Goals as goal

pub returns : goal.returns
returns c = cut_words c.args.text.now c.split_once.result (c.split_once.ensures.byte (omega arith) (λ w o h. h))
