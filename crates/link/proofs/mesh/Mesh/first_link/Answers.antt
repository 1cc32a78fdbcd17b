use Rattle.std.proofs.Common.{Option, Some, ℕ, ◌<◌, length, ap, subst, arith}
use Rattle.link.specs.MeshState.{MeshState, IsWhole, WaitsFrom}
use Rattle.link.proofs.Waiting.{waits_here}
use Rattle.link.proofs.mesh.Mesh.first_link.Goals as goal

pub returns-in-Some : goal.returns-in-Some
returns-in-Some g c =
    let h = c.args.self.now in
    let whole = subst (λ (h : MeshState g.row.L.Denot). IsWhole h) c.self.view_is c.self.invariant in
    let nodes = ap (λ (h : MeshState g.row.L.Denot). h.nodes) c.self.view_is in
    let here : WaitsFrom c.loop-sender.sender (Some c.in-Some.receiver) h =
    subst (λ (o : Option ℕ). WaitsFrom c.loop-sender.sender o h) c.in-Some.is c.first_receiver.ensures in
    let within : c.loop-sender.sender < length h.nodes = omega (arith, c.loop-sender-test.true, c.len-sender-end.ensures, ap length nodes) in
    ((within, here.0), waits_here h c.loop-sender.sender c.in-Some.receiver whole within c.loop-sender.invariant here)
