use Rattle.creations.proofs.Always.{accepted_events_are_played as law}
use Rattle.creations.proofs.accepted_events_are_played.Goals as goal

pub returns : goal.returns
returns c = law
