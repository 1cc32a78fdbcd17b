use Rattle.link.proofs.StampedPrefixes.{stamped_prefixes_are_delivered as law}
use Rattle.link.proofs.laws.stamped_prefixes_are_delivered.Goals as goal

pub returns : goal.returns
returns g c = law
