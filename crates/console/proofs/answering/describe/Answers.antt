use Rattle.std.proofs.Common.{List, ℕ, string_bytes, refl}
use Rattle.console.specs.Consoles.{SaysOfProcess}
use Rattle.console.specs.Describing.{describe_text}
use Rattle.console.proofs.Choosing.{said_or_not}
use Rattle.console.proofs.answering.describe.Goals as goal

pub returns : goal.returns
returns g c =
    let s = g.A.Attendant.state c.args.attendant.now in
    let outcome = c.describe-outcome.result in
    said_or_not string_bytes
    (λ (line : List ℕ). SaysOfProcess g.A.Attendant.answers g.A.Attendant.stands c.args.process.now c.args.text.now s line s)
    (describe_text outcome) c.describe_line.result (outcome, c.describe-outcome.ensures, refl, refl) c.describe_line.ensures
