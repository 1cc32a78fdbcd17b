use Rattle.std.proofs.Common.{string_bytes}
use Rattle.console.proofs.Choosing.{names_said}
use Rattle.console.proofs.answering.chosen_names.Goals as goal

pub returns : goal.returns
returns g c = names_said g.A.Attendant.answers string_bytes c.args.prefix.now (g.A.Attendant.state c.args.attendant.now)
    (g.A.Attendant.state c.ask-outcome.new.self) c.ask-outcome.result c.chosen_line.result c.ask-outcome.ensures c.chosen_line.ensures
