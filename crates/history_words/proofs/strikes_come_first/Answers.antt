use Rattle.history_words.proofs.Beginning.{strikes_come_first as law}
use Rattle.history_words.proofs.strikes_come_first.Goals as goal

pub returns : goal.returns
returns c = law
