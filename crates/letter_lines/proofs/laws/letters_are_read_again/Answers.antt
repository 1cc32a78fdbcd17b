use Rattle.letter_lines.proofs.Again.{read_again}
use Rattle.letter_lines.proofs.laws.letters_are_read_again.Goals as goal

pub returns : goal.returns
returns c = read_again
