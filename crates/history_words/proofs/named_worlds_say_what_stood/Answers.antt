use Rattle.history_words.proofs.Stood.{named_worlds_say_what_stood as law}
use Rattle.history_words.proofs.named_worlds_say_what_stood.Goals as goal

pub returns : goal.returns
returns c = law
