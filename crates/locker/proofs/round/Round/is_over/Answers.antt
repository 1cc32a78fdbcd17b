use Rattle.std.proofs.Common.{ap, ◌∙◌}
use Rattle.std.specs.Prelude.{not}
use Rattle.locker.proofs.Rounds.{has_granted-boss, is_settled-granted, is_over-is_settled}
use Rattle.locker.proofs.round.Round.is_over.Goals as goal

pub returns-in-Granted-clause-value : goal.returns-in-Granted-clause-value
returns-in-Granted-clause-value c = ap not c.is_owed.ensures
    ∙ is_settled-granted c.args.self.now
    (has_granted-boss c.args.self.now c.boss_mark.result c.boss_mark.ensures.value c.in-Granted.is)

pub returns-in-Granted-clause-protocol : goal.returns-in-Granted-clause-protocol
returns-in-Granted-clause-protocol c = λ n below. returns-in-Granted-clause-value c
    ∙ is_over-is_settled c.args.self.now c.boss_mark.ensures.round n below
