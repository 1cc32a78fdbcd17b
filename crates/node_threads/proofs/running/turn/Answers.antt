use Rattle.std.proofs.Common.{refl, inl}
use Rattle.node_loop.proofs.Links.{turn_keeps}
use Rattle.node_threads.specs.Ends.{leads_inside, fixed}
use Rattle.node_threads.specs.Dealings.{dealt_of}
use Rattle.node_threads.specs.Traffics.{Posts, Refuses, Takes, Misses}
use Rattle.node_loop.proofs.Moving.{turn_of}
use Rattle.node_threads.proofs.Coming.{comes_by_turn, came_to}
use Rattle.node_threads.proofs.Dealing.{deals, fixed_by_post, fixed_by_taking}
use Rattle.node_threads.proofs.Turns.{turned}
use Rattle.node_seats.proofs.Onward.{comes_by, comes_from_itself}
use Rattle.node_threads.proofs.running.turn.Goals as goal

pub returns-clause-node : goal.returns-clause-node
returns-clause-node g c = turned _ _ _ refl (turn_of Posts Refuses Takes Misses _ _ _ _ _ _ c.turn.ensures.turned)

pub returns-clause-came : goal.returns-clause-came
returns-clause-came g c = comes_by_turn Posts Refuses Takes Misses _ _ _ _ _ _ _ c.turn.ensures.turned

pub returns-clause-comes : goal.returns-clause-comes
returns-clause-comes g c =
    comes_by _ _ _ (comes_from_itself c.args.node.now) (inl (turn_of Posts Refuses Takes Misses _ _ _ _ _ _ c.turn.ensures.turned))

pub returns-clause-came_to : goal.returns-clause-came_to
returns-clause-came_to g c = came_to Posts Refuses Takes Misses _ _ _ _ _ _ c.turn.ensures.turned

pub returns-clause-sound : goal.returns-clause-sound
returns-clause-sound g c = λ o here. c.turn.ensures.sound o (leads_inside o) dealt_of (deals o) here.0 here.1

pub returns-clause-same : goal.returns-clause-same
returns-clause-same g c = turn_keeps Posts Refuses Takes Misses _ fixed fixed_by_post fixed_by_taking _ _ _ _ _ c.turn.ensures.turned
