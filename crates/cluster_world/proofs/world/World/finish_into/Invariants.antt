use Rattle.std.proofs.Common.{None}
use Rattle.cluster_world.specs.Finishing.{next_to_finish}
use Rattle.cluster_world.specs.Playing.{Keeps, WaitsOn}
use Rattle.cluster_world.specs.Seen.{names_of, named}
use Rattle.cluster_world.specs.Settling.{PlaysOn}
use Rattle.cluster_world.proofs.world.World.finish_into.Given as goal
use Rattle.getting_through.specs.WorldsOfNames.{of_names}
use Rattle.getting_through.specs.Pending.{pending}

-- events were played, and no letter waits
abbrev pub invariant-loop-self : goal.invariant-loop-self
invariant-loop-self g l = record {
  kept : Keeps l.fn.self l.self;
  made : PlaysOn next_to_finish l.fn.self l.self l.fn.answers.items l.answers.items;
  quiet : WaitsOn None l.self;
}

-- each retry lowers what is pending
abbrev pub decreases-loop-self : goal.decreases-loop-self
decreases-loop-self g l = pending (of_names (names_of l.self)) (named l.self)
