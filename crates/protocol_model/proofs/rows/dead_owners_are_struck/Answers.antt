use Rattle.std.specs.Prelude.{refl}
use Rattle.protocol_model.proofs.rows.dead_owners_are_struck.Goals as goal

pub returns-clause-second_name_and_both_struck : goal.returns-clause-second_name_and_both_struck
returns-clause-second_name_and_both_struck start = record { prints = refl; keeps = refl }

pub returns-clause-owner_dies_while_its_call_waits : goal.returns-clause-owner_dies_while_its_call_waits
returns-clause-owner_dies_while_its_call_waits start = record { prints = refl; keeps = refl }

pub returns-clause-dead_owner_is_struck : goal.returns-clause-dead_owner_is_struck
returns-clause-dead_owner_is_struck start = record { prints = refl; keeps = refl }

pub returns-clause-strike_comes_before_waiting_calls : goal.returns-clause-strike_comes_before_waiting_calls
returns-clause-strike_comes_before_waiting_calls start = record { prints = refl; keeps = refl }

pub returns-clause-dead_caller_is_not_answered : goal.returns-clause-dead_caller_is_not_answered
returns-clause-dead_caller_is_not_answered start = record { prints = refl; keeps = refl }

pub returns-clause-lone_node_strikes_in_a_round : goal.returns-clause-lone_node_strikes_in_a_round
returns-clause-lone_node_strikes_in_a_round start = record { prints = refl; keeps = refl }

pub returns-clause-dead_at_once : goal.returns-clause-dead_at_once
returns-clause-dead_at_once start = record { prints = refl; keeps = refl }
