use Rattle.named_events.proofs.Printing.{printing_is_by_name as law}
use Rattle.named_events.proofs.printing_is_by_name.Goals as goal

pub returns : goal.returns
returns c = law
