use Rattle.getting_through.proofs.Laws.{name_calls_alone_are_answered as law}
use Rattle.getting_through.proofs.name_calls_alone_are_answered.Goals as goal

pub returns : goal.returns
returns c = law
