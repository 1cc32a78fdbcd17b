use Rattle.node_books.proofs.Onward.{logs_only_grow as law}
use Rattle.node_books.proofs.laws.logs_only_grow.Goals as goal

pub returns : goal.returns
returns c = law
