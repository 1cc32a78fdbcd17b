use Rattle.std.specs.Prelude.{refl}
use Rattle.history_words.proofs.notices_of_one_join.Goals as goal

pub returns-clause-two_notices_of_one_join : goal.returns-clause-two_notices_of_one_join
returns-clause-two_notices_of_one_join start = record { prints = refl; keeps = refl }

pub returns-clause-both_are_sent_two : goal.returns-clause-both_are_sent_two
returns-clause-both_are_sent_two start = record { prints = refl; keeps = refl }
