use Rattle.std.specs.Prelude.{refl}
use Rattle.protocol_model.proofs.rows.rules_decide_clashes.Goals as goal

pub returns-clause-loser_is_notified : goal.returns-clause-loser_is_notified
returns-clause-loser_is_notified start = record { prints = refl; keeps = refl }

pub returns-clause-both_are_notified : goal.returns-clause-both_are_notified
returns-clause-both_are_notified start = record { prints = refl; keeps = refl }

pub returns-clause-winner_keeps_its_rule : goal.returns-clause-winner_keeps_its_rule
returns-clause-winner_keeps_its_rule start = record { prints = refl; keeps = refl }

pub returns-clause-notices_of_who_isnt_there : goal.returns-clause-notices_of_who_isnt_there
returns-clause-notices_of_who_isnt_there start = record { prints = refl; keeps = refl }

pub returns-clause-name_goes_at_each_member : goal.returns-clause-name_goes_at_each_member
returns-clause-name_goes_at_each_member start = record { prints = refl; keeps = refl }
