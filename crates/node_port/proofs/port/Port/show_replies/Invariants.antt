use Rattle.std.proofs.Common.{◌≡◌, length}
use Rattle.node_port.specs.Working.{ShowsStill}
use Rattle.node_port.proofs.port.Port.show_replies.Given as goal

-- the replies so far are to be printed
abbrev pub invariant-loop-reply : goal.invariant-loop-reply
invariant-loop-reply l = ShowsStill l.fn.self l.self × (l.self.node.owed ≡ l.fn.self.node.owed)

-- each is one less
abbrev pub decreases-loop-reply : goal.decreases-loop-reply
decreases-loop-reply l = length l.self.node.desk.replies
