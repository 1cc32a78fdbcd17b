use Rattle.std.specs.Prelude.{refl}
use Rattle.protocol_model.proofs.rows.tries_are_told.Goals as goal

pub returns-clause-before_any : goal.returns-clause-before_any
returns-clause-before_any start = refl

pub returns-clause-tried : goal.returns-clause-tried
returns-clause-tried start = refl

pub returns-clause-met : goal.returns-clause-met
returns-clause-met start = refl

pub returns-clause-met_by_its_request_alone : goal.returns-clause-met_by_its_request_alone
returns-clause-met_by_its_request_alone start = refl

pub returns-clause-met_by_a_departure : goal.returns-clause-met_by_a_departure
returns-clause-met_by_a_departure start = refl
