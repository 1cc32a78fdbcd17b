-- The words for which worlds aren't started.
use Rattle.std.specs.Prelude.{ℕ, List, codes}
use Rattle.world_events.specs.declared.opening.StartFault.{StartFault}
use Rattle.world_events.specs.declared.opening.StartFault.TheVariants.{NoNode, SameNode, TooManyNodes, Memory}

-- the word for which a world isn't started
abbrev pub start_word : StartFault → List ℕ
start_word NoNode = codes "no_node"
start_word SameNode = codes "same_node"
start_word TooManyNodes = codes "too_many_nodes"
start_word Memory = codes "memory"
