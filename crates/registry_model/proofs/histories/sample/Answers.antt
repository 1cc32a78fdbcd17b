use Rattle.std.proofs.Common.{refl}
use Rattle.registry_model.proofs.histories.sample.Goals as goal

pub returns : goal.returns
returns c = record { legal = refl; given_up = refl; killed = refl; held = refl; refused = refl }
