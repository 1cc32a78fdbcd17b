use Rattle.closings.proofs.Fitting.{guarded_ends_are_consistent as law}
use Rattle.closings.proofs.guarded_ends_are_consistent.Goals as goal

pub returns : goal.returns
returns g c = law g.T.Relied.fits
