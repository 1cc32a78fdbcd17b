use Rattle.history_words.proofs.Stood.{legal_says_what_stood as law}
use Rattle.history_words.proofs.legal_says_what_stood.Goals as goal

pub returns : goal.returns
returns c = law
