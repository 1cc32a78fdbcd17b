use Rattle.getting_through.specs.NamedScript.{next_named}
use Rattle.getting_through.specs.NamedNoDeadEnd.{named_work}
use Rattle.cluster_world.specs.Playing.{Keeps}
use Rattle.cluster_world.specs.Seen.{names_of, named}
use Rattle.cluster_world.specs.Settling.{PlaysOn}
use Rattle.cluster_world.proofs.world.World.settle_into.Given as goal

-- deliveries were made
abbrev pub invariant-loop : goal.invariant-loop
invariant-loop g l = record {
  kept : Keeps l.fn.self l.self;
  made : PlaysOn next_named l.fn.self l.self l.fn.answers.items l.answers.items;
}

-- each lowers the work that is left
abbrev pub decreases-loop : goal.decreases-loop
decreases-loop g l = named_work (names_of l.self) (named l.self)
