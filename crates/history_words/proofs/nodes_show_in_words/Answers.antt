use Rattle.history_words.proofs.Shown.{nodes_show_in_words as law}
use Rattle.history_words.proofs.nodes_show_in_words.Goals as goal

pub returns : goal.returns
returns c = law
