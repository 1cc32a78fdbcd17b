use Rattle.std.specs.Prelude.{refl}
use Rattle.protocol_model.proofs.rows.client_locks_are_shared_by_requester.Goals as goal

pub returns-clause-holders_are_counted : goal.returns-clause-holders_are_counted
returns-clause-holders_are_counted start = record { prints = refl; keeps = refl }

pub returns-clause-retries_and_a_dead_holder : goal.returns-clause-retries_and_a_dead_holder
returns-clause-retries_and_a_dead_holder start = record { prints = refl; keeps = refl }

pub returns-clause-one_lock_call_at_a_time : goal.returns-clause-one_lock_call_at_a_time
returns-clause-one_lock_call_at_a_time start = record { prints = refl; keeps = refl }

pub returns-clause-locks_at_named_nodes : goal.returns-clause-locks_at_named_nodes
returns-clause-locks_at_named_nodes start = record { prints = refl; keeps = refl }

pub returns-clause-retries_without_end : goal.returns-clause-retries_without_end
returns-clause-retries_without_end start = record { prints = refl; keeps = refl }

pub returns-clause-set_twice_deleted_twice : goal.returns-clause-set_twice_deleted_twice
returns-clause-set_twice_deleted_twice start = record { prints = refl; keeps = refl }

pub returns-clause-refused_lock_call_gives_all_back : goal.returns-clause-refused_lock_call_gives_all_back
returns-clause-refused_lock_call_gives_all_back start = record { prints = refl; keeps = refl }

pub returns-clause-two_requesters_at_once : goal.returns-clause-two_requesters_at_once
returns-clause-two_requesters_at_once start = record { prints = refl; keeps = refl }

pub returns-clause-all_members_are_asked : goal.returns-clause-all_members_are_asked
returns-clause-all_members_are_asked start = record { prints = refl; keeps = refl }

pub returns-clause-retry_asks_the_members_of_now : goal.returns-clause-retry_asks_the_members_of_now
returns-clause-retry_asks_the_members_of_now start = record { prints = refl; keeps = refl }

pub returns-clause-asked_behind_a_deletion : goal.returns-clause-asked_behind_a_deletion
returns-clause-asked_behind_a_deletion start = record { prints = refl; keeps = refl }
