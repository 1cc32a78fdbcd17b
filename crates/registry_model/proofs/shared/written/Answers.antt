use Rattle.registry_model.proofs.Changes.{put_all_law}
use Rattle.registry_model.proofs.shared.written.Goals as goal

pub returns : goal.returns
returns c = put_all_law
