use Rattle.server.proofs.GivingOut.{gives_none}
use Rattle.server.proofs.staying.seats.lending_of.Goals as goal

pub returns-in_err-bells : goal.returns-in_err-bells
returns-in_err-bells c = gives_none c.args.cluster.now
