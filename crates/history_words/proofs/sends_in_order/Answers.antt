use Rattle.history_words.proofs.Notices.{sends_in_order as law}
use Rattle.history_words.proofs.sends_in_order.Goals as goal

pub returns : goal.returns
returns c = law
