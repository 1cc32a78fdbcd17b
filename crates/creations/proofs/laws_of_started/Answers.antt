use Rattle.creations.proofs.SomeStarted.{agreement, exclusion, client_locks, nothing_is_left}
use Rattle.creations.proofs.laws_of_started.Goals as goal

pub returns-clause-agrees : goal.returns-clause-agrees
returns-clause-agrees c = agreement

pub returns-clause-excludes : goal.returns-clause-excludes
returns-clause-excludes c = exclusion

pub returns-clause-locks : goal.returns-clause-locks
returns-clause-locks c = client_locks

pub returns-clause-nothing_is_left : goal.returns-clause-nothing_is_left
returns-clause-nothing_is_left c = nothing_is_left
