use Rattle.table_steps.proofs.Steps.{events_keep}
use Rattle.table_steps.proofs.events_keep_tables.Goals as goal

pub returns : goal.returns
returns c = events_keep
