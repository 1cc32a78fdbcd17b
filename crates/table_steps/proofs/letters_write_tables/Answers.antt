use Rattle.table_steps.proofs.Steps.{letters_write}
use Rattle.table_steps.proofs.letters_write_tables.Goals as goal

pub returns : goal.returns
returns c = letters_write
