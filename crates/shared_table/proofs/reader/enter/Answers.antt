use Rattle.shared_table.proofs.Keeping.{enters}
use Rattle.shared_table.proofs.reader.enter.Goals as goal

pub enter_as-requires : goal.enter_as-requires
enter_as-requires c x = enters _ _ x
