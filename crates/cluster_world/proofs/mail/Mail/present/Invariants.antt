use Rattle.std.proofs.Common.{◌≡◌, drop}
use Rattle.term.specs.NodeSets.{names_in}
use Rattle.cluster_world.proofs.mail.Mail.present.Given as goal

-- none of the nodes before has the name
abbrev pub invariant-loop-node : goal.invariant-loop-node
invariant-loop-node l = names_in l.node-items l.name ≡ names_in (drop l.node-index l.node-items) l.name
