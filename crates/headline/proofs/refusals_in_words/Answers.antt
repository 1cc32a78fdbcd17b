use Rattle.headline.proofs.Reasons.{refusals_in_words as law}
use Rattle.headline.proofs.refusals_in_words.Goals as goal

pub returns : goal.returns
returns c = law
