use Rattle.std.specs.Prelude.{refl}
use Rattle.protocol_model.proofs.rows.locks_are_counted_for_each_holder.Goals as goal

pub returns-clause-first_holder : goal.returns-clause-first_holder
returns-clause-first_holder start = refl

pub returns-clause-second_holder : goal.returns-clause-second_holder
returns-clause-second_holder start = refl

pub returns-clause-other_requester : goal.returns-clause-other_requester
returns-clause-other_requester start = refl

pub returns-clause-departed_holder : goal.returns-clause-departed_holder
returns-clause-departed_holder start = refl

pub returns-clause-holder_after_it : goal.returns-clause-holder_after_it
returns-clause-holder_after_it start = refl
