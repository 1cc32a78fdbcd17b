use Rattle.command_lines.specs.Commands.{asked_by}
use Rattle.cluster_script.proofs.Headers.{read_or_memory}
use Rattle.cluster_script.proofs.Runs.{ComesTo-read}
use Rattle.cluster_script.proofs.script.play_line.Goals as goal

pub returns : goal.returns
returns g c = λ bytes k.
    let p = c.play_command.ensures in (
      p.0,
      ComesTo-read bytes (asked_by c.read_command-command.result) p.0
          (read_or_memory bytes c.read_command-command.result (λ n. c.read_command-command.ensures.asks n bytes k)) p.1,
      p.2,
    )
