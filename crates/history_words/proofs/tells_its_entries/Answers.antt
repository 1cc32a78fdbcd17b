use Rattle.history_words.proofs.Entries.{tells_its_entries as law}
use Rattle.history_words.proofs.tells_its_entries.Goals as goal

pub returns : goal.returns
returns c = law
