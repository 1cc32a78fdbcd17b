use Rattle.std.specs.Prelude.{refl}
use Rattle.protocol_model.proofs.rows.rounds_give_the_lock_to_one.Goals as goal

pub returns-clause-boss_decides : goal.returns-clause-boss_decides
returns-clause-boss_decides start = record { prints = refl; keeps = refl }

pub returns-clause-failed_round_gives_all_back : goal.returns-clause-failed_round_gives_all_back
returns-clause-failed_round_gives_all_back start = record { prints = refl; keeps = refl }

pub returns-clause-nothing_to_retry : goal.returns-clause-nothing_to_retry
returns-clause-nothing_to_retry start = record { prints = refl; keeps = refl }

pub returns-clause-settle_has_a_limit : goal.returns-clause-settle_has_a_limit
returns-clause-settle_has_a_limit start = record { prints = refl; keeps = refl }

pub returns-clause-no_such_event : goal.returns-clause-no_such_event
returns-clause-no_such_event start = record { prints = refl; keeps = refl }
