use Rattle.std.specs.Prelude.{refl}
use Rattle.protocol_model.proofs.rows.lone_nodes_join.Goals as goal

pub returns-clause-cluster_wins_the_clash : goal.returns-clause-cluster_wins_the_clash
returns-clause-cluster_wins_the_clash start = record { prints = refl; keeps = refl }

pub returns-clause-joiner_wins_the_clash : goal.returns-clause-joiner_wins_the_clash
returns-clause-joiner_wins_the_clash start = record { prints = refl; keeps = refl }

pub returns-clause-members_grow_during_a_round : goal.returns-clause-members_grow_during_a_round
returns-clause-members_grow_during_a_round start = record { prints = refl; keeps = refl }

pub returns-clause-refused_joins : goal.returns-clause-refused_joins
returns-clause-refused_joins start = record { prints = refl; keeps = refl }

pub returns-clause-owner_leaves_during_an_admission : goal.returns-clause-owner_leaves_during_an_admission
returns-clause-owner_leaves_during_an_admission start = record { prints = refl; keeps = refl }

pub returns-clause-member_joins_again : goal.returns-clause-member_joins_again
returns-clause-member_joins_again start = record { prints = refl; keeps = refl }

pub returns-clause-welcome_on_its_way : goal.returns-clause-welcome_on_its_way
returns-clause-welcome_on_its_way start = record { prints = refl; keeps = refl }

pub returns-clause-joiner_leaves_early : goal.returns-clause-joiner_leaves_early
returns-clause-joiner_leaves_early start = record { prints = refl; keeps = refl }

pub returns-clause-killed_holder_keeps_no_lock : goal.returns-clause-killed_holder_keeps_no_lock
returns-clause-killed_holder_keeps_no_lock start = record { prints = refl; keeps = refl }

pub returns-clause-killed_before_it_was_spawned : goal.returns-clause-killed_before_it_was_spawned
returns-clause-killed_before_it_was_spawned start = record { prints = refl; keeps = refl }

pub returns-clause-departure_learnt_by_a_welcome : goal.returns-clause-departure_learnt_by_a_welcome
returns-clause-departure_learnt_by_a_welcome start = record { prints = refl; keeps = refl }

pub returns-clause-contact_known_to_have_left : goal.returns-clause-contact_known_to_have_left
returns-clause-contact_known_to_have_left start = record { prints = refl; keeps = refl }

pub returns-clause-departed_node_is_not_read : goal.returns-clause-departed_node_is_not_read
returns-clause-departed_node_is_not_read start = record { prints = refl; keeps = refl }

pub returns-clause-one_join_at_a_time : goal.returns-clause-one_join_at_a_time
returns-clause-one_join_at_a_time start = record { prints = refl; keeps = refl }

pub returns-clause-admitted_joiner_has_left : goal.returns-clause-admitted_joiner_has_left
returns-clause-admitted_joiner_has_left start = record { prints = refl; keeps = refl }
