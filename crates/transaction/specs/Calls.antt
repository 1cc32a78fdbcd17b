-- Lock calls, as the protocol has them.
use Rattle.std.specs.Prelude.{Bool, true, false, map}
use Rattle.protocol_model.specs.Node.{Target, Retries as AnyRetries}
use Rattle.term.specs.Nodes.{nodes_of}
use Rattle.transaction.specs.declared.nodes.Nodes.{Nodes}
use Rattle.transaction.specs.declared.nodes.Nodes.TheVariants.{All, Named}
use Rattle.transaction.specs.declared.nodes.Retries.{Retries}
use Rattle.transaction.specs.declared.nodes.Retries.TheVariants.{Times, Endless}

-- whom it asks; a name stands for all nodes that have it
abbrev pub target_of : Nodes → Target
target_of All = Target.All
target_of (Named names) = Target.Named (map nodes_of names)

-- whether it is a list of nodes
abbrev pub is_named : Nodes → Bool
is_named All = false
is_named (Named names) = true

abbrev pub retries_of : Retries → AnyRetries
retries_of (Times n) = AnyRetries.Times n
retries_of Endless = AnyRetries.Endless
