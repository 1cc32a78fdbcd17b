use Rattle.history_words.proofs.Lone.{refuses_while_lone as law}
use Rattle.history_words.proofs.refuses_while_lone.Goals as goal

pub returns : goal.returns
returns c = law
