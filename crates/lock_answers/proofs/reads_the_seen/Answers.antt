use Rattle.lock_answers.proofs.Waiting.{reads_the_seen as law}
use Rattle.lock_answers.proofs.reads_the_seen.Goals as goal

pub returns : goal.returns
returns c = law
