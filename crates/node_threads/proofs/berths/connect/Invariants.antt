use Rattle.std.proofs.Common.{◌≡◌, length}
use Rattle.node_threads.proofs.Connecting.{AreConnected}
use Rattle.node_threads.proofs.berths.connect.Given as goal

abbrev pub invariant-loop-place : goal.invariant-loop-place
invariant-loop-place g l = record {
  connected : AreConnected l.fn.berths l.place l.berths;
  ends : l.place-end ≡ length l.fn.berths;
}
