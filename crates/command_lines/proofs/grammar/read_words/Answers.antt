use Rattle.std.proofs.Common.{arith, inl, inr}
use Rattle.command_lines.proofs.Words.{outside}
use Rattle.command_lines.proofs.grammar.read_words.Goals.{in_default-via-then-words-lt1, in_default-via-else-words-lt1+else-words-lt2+else-words-lt3+else-words-lt4+else-words-lt5+else-words-lt6+else-words-lt7}
use Rattle.command_lines.proofs.grammar.read_words.Goals as goal

pub returns-in_default-clause-asks : goal.returns-in_default-clause-asks
returns-in_default-clause-asks c = λ _. elim c.in_default.branch [
  | in_default-via-then-words-lt1 w ↦ outside c.args.words.now (inl (grind arith))
  | in_default-via-else-words-lt1+else-words-lt2+else-words-lt3+else-words-lt4+else-words-lt5+else-words-lt6+else-words-lt7 w ↦ outside c.args.words.now (inr (grind arith))
]
