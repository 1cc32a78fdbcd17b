use Rattle.node_books.proofs.Showing.{lengths_tell as law}
use Rattle.node_books.proofs.laws.lengths_tell_what_is_shown.Goals as goal

pub returns : goal.returns
returns c = law
