use Rattle.std.proofs.Common.{◌∙◌}
use Rattle.locker.proofs.Rounds.{asked_now-rest, has_granted-boss}
use Rattle.locker.proofs.round.Round.asked_now.Goals as goal

pub returns-in-Granted-clause-protocol : goal.returns-in-Granted-clause-protocol
returns-in-Granted-clause-protocol c =
    c.rest.ensures.protocol
    ∙ asked_now-rest c.args.self.now
    (has_granted-boss c.args.self.now c.boss_mark.result c.boss_mark.ensures.value c.in-Granted.is)
