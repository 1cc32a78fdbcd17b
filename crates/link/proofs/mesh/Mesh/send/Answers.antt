use Rattle.std.proofs.Common.{ℕ, ◌≡◌, subst}
use Rattle.std.specs.Prelude.{OnOk, IfErr}
use Rattle.protocol_model.specs.Links.{posted}
use Rattle.link.specs.Faults.{IsUnsent}
use Rattle.link.specs.MeshState.{seen, only_to}
use Rattle.link.proofs.Places.{found_at}
use Rattle.link.proofs.mesh.Mesh.send.Goals as goal

pub returns-in-Some-clause-ok : goal.returns-in-Some-clause-ok
returns-in-Some-clause-ok g c =
    let sender = found_at c.args.self.now c.args.from.now c.in-Some.sender c.place.result c.place.ensures c.in-Some.is in
    subst (λ (f : ℕ). OnOk c.send_from.result (seen c.send_from.new.self
    ≡ posted f (only_to c.args.to.now c.args.letter) (seen c.args.self.now))) sender.1 c.send_from.ensures.ok

pub returns-in-Some-clause-err : goal.returns-in-Some-clause-err
returns-in-Some-clause-err g c =
    let sender = found_at c.args.self.now c.args.from.now c.in-Some.sender c.place.result c.place.ensures c.in-Some.is in
    subst (λ (f : ℕ). IfErr c.send_from.result (λ unsent. IsUnsent unsent.fault f c.args.to.now c.args.self.now))
    sender.1 c.send_from.ensures.err
