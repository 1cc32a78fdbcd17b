use Rattle.node_books.proofs.Owing.{owed_is_more, taken_is_more}
use Rattle.node_books.proofs.laws.what_is_owed_is_more.Goals as goal

pub returns-clause-owed : goal.returns-clause-owed
returns-clause-owed c = owed_is_more

pub returns-clause-taken : goal.returns-clause-taken
returns-clause-taken c = taken_is_more
