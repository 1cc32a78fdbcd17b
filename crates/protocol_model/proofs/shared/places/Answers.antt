use Rattle.protocol_model.proofs.Places.{tells_its_places}
use Rattle.protocol_model.proofs.shared.places.Goals as goal

pub returns : goal.returns
returns c = tells_its_places
