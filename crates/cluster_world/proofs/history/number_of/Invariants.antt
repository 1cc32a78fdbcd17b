use Rattle.std.proofs.Common.{◌≡◌, drop}
use Rattle.cluster_world.specs.Cores.{core_of}
use Rattle.cluster_world.proofs.history.number_of.Given as goal

-- the core isn't among those before
abbrev pub invariant-loop-core : goal.invariant-loop-core
invariant-loop-core g l = core_of l.node (drop l.core-index l.cores) ≡ core_of l.node l.cores
