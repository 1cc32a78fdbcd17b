use Rattle.server.proofs.GivingOut.{gives_none, gives_both}
use Rattle.server.proofs.staying.seats.Seats.of.Goals as goal

pub loop-node-init : goal.loop-node-init
loop-node-init c = gives_none c.args.cluster.now

pub returns-in_err-lending_of : goal.returns-in_err-lending_of
returns-in_err-lending_of c = gives_both c.args.cluster.now c.loop-node.cluster c.lending_of.new.cluster c.loop-node.invariant c.lending_of.ensures

pub loop-node-preserved : goal.loop-node-preserved
loop-node-preserved c = gives_both c.args.cluster.now c.loop-node.cluster c.lending_of.new.cluster c.loop-node.invariant c.lending_of.ensures
