use Rattle.std.proofs.Common.{ℕ, List, None, refl}
use Rattle.std.specs.Prelude.{string_bytes}
use Rattle.text_lines.proofs.Written.{AppendsPart-none}
use Rattle.cluster_main.specs.Listening.{listening_line}
use Rattle.cluster_main.proofs.serving.serve_at.Goals as goal

-- nothing is printed where there is no memory for the line
pub returns-in-Err-clause-serves : goal.returns-in-Err-clause-serves
returns-in-Err-clause-serves g c =
    let address : List ℕ = string_bytes c.args.options.now.listen in (
      listening_line address,
      record { port = None; told = address; tells = refl; socket = λ path is. refl; is = refl },
      AppendsPart-none (g.W.Write.contents c.args.writer.now) (listening_line address),
    )
