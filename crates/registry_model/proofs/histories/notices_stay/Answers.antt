use Rattle.registry_model.proofs.NoticesStay.{notices_law}
use Rattle.registry_model.proofs.histories.notices_stay.Goals as goal

pub returns : goal.returns
returns c = notices_law
