use Rattle.std.proofs.Common.{inr}
use Rattle.server.proofs.staying.worker.Worker.talk.Goals as goal

pub returns-in-None : goal.returns-in-None
returns-in-None g c = inr c.in-None.ensures
