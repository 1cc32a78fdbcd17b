use Rattle.node_loop.proofs.Answers.{told_answers_are_logged as law, told_answers_are_logged_from as law_from}
use Rattle.node_loop.proofs.laws.told_answers_are_logged.Goals as goal

pub returns-clause-opened : goal.returns-clause-opened
returns-clause-opened c = law

pub returns-clause-begun : goal.returns-clause-begun
returns-clause-begun c = law_from
