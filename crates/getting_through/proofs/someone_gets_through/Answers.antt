use Rattle.getting_through.proofs.Laws.{someone_gets_through as law}
use Rattle.getting_through.proofs.someone_gets_through.Goals as goal

pub returns : goal.returns
returns c = law
