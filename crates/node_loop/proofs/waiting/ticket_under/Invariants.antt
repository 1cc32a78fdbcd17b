use Rattle.std.proofs.Common.{◌≡◌, drop}
use Rattle.node_loop.specs.Waiting.{ticket_under}
use Rattle.node_loop.proofs.waiting.ticket_under.Given as goal

abbrev pub invariant-loop-call : goal.invariant-loop-call
invariant-loop-call l = ticket_under l.number (drop l.call-index l.calls) ≡ ticket_under l.number l.calls
