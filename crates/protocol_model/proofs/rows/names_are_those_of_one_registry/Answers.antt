use Rattle.std.specs.Prelude.{refl}
use Rattle.protocol_model.proofs.rows.names_are_those_of_one_registry.Goals as goal

pub returns-clause-registered_name_is_found : goal.returns-clause-registered_name_is_found
returns-clause-registered_name_is_found start = record { prints = refl; keeps = refl }

pub returns-clause-write_is_found_at_once : goal.returns-clause-write_is_found_at_once
returns-clause-write_is_found_at_once start = record { prints = refl; keeps = refl }

pub returns-clause-nothing_is_registered_yet : goal.returns-clause-nothing_is_registered_yet
returns-clause-nothing_is_registered_yet start = record { prints = refl; keeps = refl }

pub returns-clause-every_node_finds_the_name : goal.returns-clause-every_node_finds_the_name
returns-clause-every_node_finds_the_name start = record { prints = refl; keeps = refl }

pub returns-clause-process_has_one_name : goal.returns-clause-process_has_one_name
returns-clause-process_has_one_name start = record { prints = refl; keeps = refl }

pub returns-clause-nothing_to_unregister : goal.returns-clause-nothing_to_unregister
returns-clause-nothing_to_unregister start = record { prints = refl; keeps = refl }

pub returns-clause-owner_on_a_lone_node : goal.returns-clause-owner_on_a_lone_node
returns-clause-owner_on_a_lone_node start = record { prints = refl; keeps = refl }

pub returns-clause-who_gets_no_name : goal.returns-clause-who_gets_no_name
returns-clause-who_gets_no_name start = record { prints = refl; keeps = refl }

pub returns-clause-name_moves_and_goes : goal.returns-clause-name_moves_and_goes
returns-clause-name_moves_and_goes start = record { prints = refl; keeps = refl }

pub returns-clause-name_moves_to_members_alone : goal.returns-clause-name_moves_to_members_alone
returns-clause-name_moves_to_members_alone start = record { prints = refl; keeps = refl }

pub returns-clause-lone_node_refuses_in_a_round : goal.returns-clause-lone_node_refuses_in_a_round
returns-clause-lone_node_refuses_in_a_round start = record { prints = refl; keeps = refl }
