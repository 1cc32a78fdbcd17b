use Rattle.registry_model.proofs.Replies.{reply_law}
use Rattle.registry_model.proofs.shared.reply.Goals as goal

pub returns : goal.returns
returns c = reply_law
