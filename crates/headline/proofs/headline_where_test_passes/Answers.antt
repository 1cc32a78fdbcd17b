use Rattle.headline.proofs.Standing.{passes_law}
use Rattle.headline.proofs.headline_where_test_passes.Goals as goal

pub returns : goal.returns
returns c = passes_law
