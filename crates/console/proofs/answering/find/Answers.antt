use Rattle.std.proofs.Common.{List, ℕ, string_bytes, refl}
use Rattle.console.specs.Consoles.{FindsName}
use Rattle.console.specs.Describing.{look_up_text}
use Rattle.console.proofs.Choosing.{said_or_not}
use Rattle.console.proofs.answering.find.Goals as goal

pub returns : goal.returns
returns g c =
    let s = g.A.Attendant.state c.args.attendant.now in
    let t = g.A.Attendant.state c.ask-outcome.new.self in
    let outcome = c.ask-outcome.result in
    let said = c.said_of-said.result in
    said_or_not string_bytes
    (λ (line : List ℕ). FindsName g.A.Attendant.answers g.A.Attendant.stands c.args.name s line t)
    (look_up_text outcome said) c.look_up_line.result (outcome, c.ask-outcome.ensures, said, c.said_of-said.ensures, refl)
    c.look_up_line.ensures
