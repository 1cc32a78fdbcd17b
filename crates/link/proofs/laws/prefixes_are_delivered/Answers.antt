use Rattle.link.proofs.Prefixes.{prefixes_are_delivered as law}
use Rattle.link.proofs.laws.prefixes_are_delivered.Goals as goal

pub returns : goal.returns
returns g c = law
