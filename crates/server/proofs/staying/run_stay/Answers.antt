use Rattle.server.proofs.GivingOut.{all_kept, all_nodes, stays}
use Rattle.server.proofs.staying.run_stay.Goals as goal

pub serve-requires-clause-all : goal.serve-requires-clause-all
serve-requires-clause-all g c = all_kept c.set_of_all-nodes.result c.in-Ok.running c.hire.new.cluster c.hire.ensures.seats
    (all_nodes c.args.cluster.now c.args.lone.now c.set_of_all-nodes.result c.in-Ok.running
    c.requires c.in-Ok.ensures.cluster c.in-Ok.ensures.lone c.set_of_all-nodes.ensures)

pub returns-in-Ok-hire : goal.returns-in-Ok-hire
returns-in-Ok-hire g c = stays c.args.cluster.now c.args.lone.now c.in-Ok.running c.in-Ok.ensures.cluster c.in-Ok.ensures.lone
    c.in-Ok.ensures.crew c.in-Ok.ensures.seats c.hire.new.cluster c.hire.ensures.seats c.args.listening.now _ _ c.serve.result c.serve.ensures
