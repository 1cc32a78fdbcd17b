use Rattle.std.specs.Prelude.{refl}
use Rattle.protocol_model.proofs.rows.one_requester_has_the_lock.Goals as goal

pub returns-clause-first_at_its_node : goal.returns-clause-first_at_its_node
returns-clause-first_at_its_node start = refl

pub returns-clause-second_at_its_node : goal.returns-clause-second_at_its_node
returns-clause-second_at_its_node start = refl

pub returns-clause-first_at_all : goal.returns-clause-first_at_all
returns-clause-first_at_all start = refl

pub returns-clause-second_at_one : goal.returns-clause-second_at_one
returns-clause-second_at_one start = refl
