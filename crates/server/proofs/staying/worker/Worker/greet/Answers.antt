use Rattle.server.proofs.Welcoming.{answered, unheard}
use Rattle.server.proofs.staying.worker.Worker.greet.Goals as goal

pub returns-in-Some : goal.returns-in-Some
returns-in-Some g c = answered _ _ _ _ _ _ _ c.in-Some.found c.answer.result c.in-Some.ensures c.answer.ensures

pub returns-in-None : goal.returns-in-None
returns-in-None g c = unheard _ _ _ _ _ _ c.in-None.ensures
