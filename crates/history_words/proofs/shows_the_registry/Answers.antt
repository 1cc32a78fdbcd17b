use Rattle.history_words.proofs.Shown.{shows_the_registry as law}
use Rattle.history_words.proofs.shows_the_registry.Goals as goal

pub returns : goal.returns
returns c = law
