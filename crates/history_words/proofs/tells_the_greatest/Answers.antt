use Rattle.history_words.proofs.Beginning.{tells_the_greatest as law}
use Rattle.history_words.proofs.tells_the_greatest.Goals as goal

pub returns : goal.returns
returns c = law
