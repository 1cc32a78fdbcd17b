use Rattle.link.proofs.Places.{found_link}
use Rattle.link.proofs.mesh.Mesh.link.Goals as goal

pub returns : goal.returns
returns g c =
    found_link c.args.self.now c.args.from.now c.args.to.now c.in_ok-sender.sender c.in_ok-receiver.receiver
    c.place.result c.place-2.result c.place.ensures c.place-2.ensures c.in_ok-sender.was c.in_ok-receiver.was
