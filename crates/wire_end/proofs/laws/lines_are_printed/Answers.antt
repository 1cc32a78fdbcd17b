use Rattle.wire_end.proofs.Printing.{lines_are_printed as law}
use Rattle.wire_end.proofs.laws.lines_are_printed.Goals as goal

pub returns : goal.returns
returns c = law
