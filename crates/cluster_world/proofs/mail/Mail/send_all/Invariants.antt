use Rattle.std.specs.VecDeque.{deque_len}
use Rattle.cluster_world.proofs.Mails.{IsSending}
use Rattle.cluster_world.proofs.mail.Mail.send_all.Given as goal

abbrev pub invariant-loop-receiver : goal.invariant-loop-receiver
invariant-loop-receiver l = IsSending l.sender l.fn.self l.fn.letters.items (record {
  nodes = l.self-inside.nodes;
  departed = l.self-inside.departed;
  mesh = l.self-inside.mesh;
  unsent = l.self-inside.unsent;
}) l.letters.items

abbrev pub decreases-loop-receiver : goal.decreases-loop-receiver
decreases-loop-receiver l = deque_len l.letters
