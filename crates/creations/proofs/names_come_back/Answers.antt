use Rattle.std.specs.Prelude.{refl}
use Rattle.creations.proofs.names_come_back.Goals as goal

pub returns-clause-name_comes_back : goal.returns-clause-name_comes_back
returns-clause-name_comes_back start = record { prints = refl; keeps = refl }

pub returns-clause-restart_waits_for_all : goal.returns-clause-restart_waits_for_all
returns-clause-restart_waits_for_all start = record { prints = refl; keeps = refl }

pub returns-clause-older_node_is_another : goal.returns-clause-older_node_is_another
returns-clause-older_node_is_another start = record { prints = refl; keeps = refl }

pub returns-clause-retry_asks_the_new_node : goal.returns-clause-retry_asks_the_new_node
returns-clause-retry_asks_the_new_node start = record { prints = refl; keeps = refl }

pub returns-clause-name_without_a_member : goal.returns-clause-name_without_a_member
returns-clause-name_without_a_member start = record { prints = refl; keeps = refl }

pub returns-clause-older_letters_are_dropped : goal.returns-clause-older_letters_are_dropped
returns-clause-older_letters_are_dropped start = record { prints = refl; keeps = refl }
