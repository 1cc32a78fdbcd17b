use Rattle.std.proofs.Common.{◌≡◌, map, take, drop}
use Rattle.cluster_world.specs.Restarting.{replaced_in}
use Rattle.cluster_world.proofs.world.replace_in.Given as goal

abbrev pub invariant-loop-core : goal.invariant-loop-core
invariant-loop-core g l = record {
  done : take l.core-index l.cores ≡ map (replaced_in l.departed l.older l.next) (take l.core-index l.initial.cores);
  left : drop l.core-index l.cores ≡ drop l.core-index l.initial.cores;
}
