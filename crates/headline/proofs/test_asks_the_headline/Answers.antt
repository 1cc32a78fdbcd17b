use Rattle.headline.proofs.Tied.{test_law}
use Rattle.headline.proofs.test_asks_the_headline.Goals as goal

pub returns : goal.returns
returns c = test_law
