use Rattle.link.proofs.Places.{nothing_on}
use Rattle.link.proofs.mesh.Mesh.deliver.Goals as goal

pub returns-in-None-clause-err : goal.returns-in-None-clause-err
returns-in-None-clause-err g c = (
  c.in-Some.ensures.0,
  nothing_on c.args.self.now c.in-Some.link c.args.from.now c.args.to.now c.in-Some.ensures.2 c.in-Some.ensures.3
      c.in-None.ensures.oldest,
)
