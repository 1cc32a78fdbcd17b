use Rattle.std.specs.Prelude.{refl}
use Rattle.protocol_model.proofs.rows.departures_are_taken_in.Goals as goal

pub returns-clause-boss_leaves_while_asked : goal.returns-clause-boss_leaves_while_asked
returns-clause-boss_leaves_while_asked start = record { prints = refl; keeps = refl }

pub returns-clause-owner_leaves_between_grant_and_write : goal.returns-clause-owner_leaves_between_grant_and_write
returns-clause-owner_leaves_between_grant_and_write start = record { prints = refl; keeps = refl }

pub returns-clause-no_leave_in_a_hold : goal.returns-clause-no_leave_in_a_hold
returns-clause-no_leave_in_a_hold start = record { prints = refl; keeps = refl }

pub returns-clause-departed_holder_keeps_nothing : goal.returns-clause-departed_holder_keeps_nothing
returns-clause-departed_holder_keeps_nothing start = record { prints = refl; keeps = refl }

pub returns-clause-one_notice_ends_many_rounds : goal.returns-clause-one_notice_ends_many_rounds
returns-clause-one_notice_ends_many_rounds start = record { prints = refl; keeps = refl }

pub returns-clause-no_node_left_to_ask : goal.returns-clause-no_node_left_to_ask
returns-clause-no_node_left_to_ask start = record { prints = refl; keeps = refl }

pub returns-clause-round_goes_on_without_a_departed_node : goal.returns-clause-round_goes_on_without_a_departed_node
returns-clause-round_goes_on_without_a_departed_node start = record { prints = refl; keeps = refl }

pub returns-clause-boss_leaves_after_its_grant : goal.returns-clause-boss_leaves_after_its_grant
returns-clause-boss_leaves_after_its_grant start = record { prints = refl; keeps = refl }

pub returns-clause-deletion_goes_on_without_a_departed_node :
    goal.returns-clause-deletion_goes_on_without_a_departed_node
returns-clause-deletion_goes_on_without_a_departed_node start = record { prints = refl; keeps = refl }
