use Rattle.lock_table.proofs.Holders.{one_requester, counted, positive}
use Rattle.lock_table.proofs.laws.sound_tables_tell_who_holds.Goals as goal

pub returns-clause-one_requester : goal.returns-clause-one_requester
returns-clause-one_requester c = one_requester

pub returns-clause-positive : goal.returns-clause-positive
returns-clause-positive c = positive

pub returns-clause-counted : goal.returns-clause-counted
returns-clause-counted c = counted
