use Rattle.std.proofs.Common.{take}
use Rattle.term.specs.NodeSets.{with_older}
use Rattle.cluster_world.specs.Links.{IsLeastOpen}
use Rattle.cluster_world.proofs.mail.Outbox.first_receiver.Given as goal

abbrev pub invariant-loop-to : goal.invariant-loop-to
invariant-loop-to l = IsLeastOpen (with_older l.departed) (take l.to-index l.to-items) l.first
