use Rattle.std.proofs.Common.{ap, ◌∙◌}
use Rattle.std.specs.List.{list_any}
use Rattle.protocol_model.specs.Round.{is_refused}
use Rattle.locker.specs.RoundState.{as_mark}
use Rattle.locker.proofs.Marks.{any_mark}
use Rattle.locker.proofs.round.Round.is_refused.Goals as goal

pub returns : goal.returns
returns c =
    c.is_some_refused.ensures ∙ ap (list_any (λ m. is_refused (as_mark m))) c.marks_of_all.ensures.value
    ∙ any_mark c.args.self.now c.marks_of_all.ensures.round is_refused
