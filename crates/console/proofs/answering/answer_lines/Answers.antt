use Rattle.console.proofs.Leaving.{ended_behind_exits}
use Rattle.console.proofs.answering.answer_lines.Goals as goal

pub returns : goal.returns
returns g c =
    ended_behind_exits g.A.Attendant.answers g.A.Attendant.stands _ _ _ _ _ _ _ _ _ _ _ c.answer_each-ended.result c.new-links.ensures
    c.answer_each-ended.ensures c.exit_all.ensures
