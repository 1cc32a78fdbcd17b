use Rattle.std.proofs.Common.{◌≡◌, take}
use Rattle.world_history.proofs.kept_names.KeptNames.keep.Given as goal

abbrev pub invariant-loop-name : goal.invariant-loop-name
invariant-loop-name l = l.kept.items ≡ take l.name-index l.names.names.items
