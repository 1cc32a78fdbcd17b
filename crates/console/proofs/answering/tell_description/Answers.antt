use Rattle.std.proofs.Common.{List, ℕ, string_bytes, refl}
use Rattle.console.specs.Consoles.{TellsOfProcess}
use Rattle.console.specs.Describing.{description_text}
use Rattle.console.proofs.Choosing.{said_or_not}
use Rattle.console.proofs.answering.tell_description.Goals as goal

pub returns : goal.returns
returns g c =
    let s = g.A.Attendant.state c.args.attendant.now in
    let said = c.description-said.result in
    said_or_not string_bytes
    (λ (line : List ℕ). TellsOfProcess g.A.Attendant.answers g.A.Attendant.stands c.args.process.now s line s)
    (description_text said) c.description_line.result (said, c.description-said.ensures, refl, refl) c.description_line.ensures
