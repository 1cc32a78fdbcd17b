use Rattle.link.proofs.Waiting.{NoneFrom}
use Rattle.link.proofs.mesh.Mesh.first_sender.Given as goal

abbrev pub invariant-loop-place : goal.invariant-loop-place
invariant-loop-place g l = NoneFrom l.place l.to l.self
