use Rattle.closings.proofs.Vouching.{vouched_ends_are_consistent as law}
use Rattle.closings.proofs.vouched_ends_are_consistent.Goals as goal

pub returns : goal.returns
returns g c = law g.T.Relied.fits
