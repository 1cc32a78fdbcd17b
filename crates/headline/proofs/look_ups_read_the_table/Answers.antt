use Rattle.headline.proofs.LookingUp.{look_ups_read_the_table as law}
use Rattle.headline.proofs.look_ups_read_the_table.Goals as goal

pub returns : goal.returns
returns c = law
