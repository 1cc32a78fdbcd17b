use Rattle.history_words.proofs.Notices.{gets_its_own as law}
use Rattle.history_words.proofs.gets_its_own.Goals as goal

pub returns : goal.returns
returns c = law
