use Rattle.std.proofs.Common.{string_bytes}
use Rattle.console.specs.Consoles.{talk}
use Rattle.console.specs.Links.{linked_in}
use Rattle.console.proofs.Leaving.{spawn_said}
use Rattle.console.proofs.answering.reply_to_spawn_link.Goals as goal

pub returns : goal.returns
returns g c =
    let s = talk (g.A.Attendant.state c.args.attendant.now) (linked_in c.args.links.now) in
    let outcome = c.spawn_linked-outcome in
    let t = talk (g.A.Attendant.state outcome.new.attendant) (linked_in outcome.new.links) in
    spawn_said g.A.Attendant.answers string_bytes s t outcome.result c.outcome_line.result c.if-is_full.ensures
    outcome.ensures c.outcome_line.ensures
