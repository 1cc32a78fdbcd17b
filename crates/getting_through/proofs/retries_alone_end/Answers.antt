use Rattle.getting_through.proofs.Laws.{retries_alone_end as law}
use Rattle.getting_through.proofs.retries_alone_end.Goals as goal

pub returns : goal.returns
returns c = law
