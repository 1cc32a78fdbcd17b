use Rattle.node_seats.proofs.Lasting.{answers_last, leaves_last}
use Rattle.node_seats.proofs.laws.what_is_told_lasts.Goals as goal

pub returns-clause-answers : goal.returns-clause-answers
returns-clause-answers c = answers_last

pub returns-clause-leaves : goal.returns-clause-leaves
returns-clause-leaves c = leaves_last
