use Rattle.std.proofs.Common.{Option, subst}
use Rattle.std.specs.Io.Buffered.{reader_remaining}
use Rattle.text_lines.specs.declared.lines.Line.{Line}
use Rattle.cluster_script.specs.Played.{ReadsOn}
use Rattle.cluster_script.proofs.Headers.{ReadsLone-by}
use Rattle.cluster_script.proofs.header.read_behind.Goals as goal

pub returns-in-Some-clause-read : goal.returns-in-Some-clause-read
returns-in-Some-clause-read g c =
    let input = reader_remaining g.R.Read.remaining c.args.reader.now in
    let rest = reader_remaining g.R.Read.remaining c.next_line.new.reader in
    let t = subst (λ (o : Option Line). ReadsOn input rest c.args.left.now c.next_line.new.left o) c.in-Some.is
    c.in_ok-line.ensures.read in
    ReadsLone-by c.args.cluster.nodes.items input rest c.args.left.now c.next_line.new.left t.0 t.1 t.4 t.5 t.3
    c.open_lone.result (c.open_lone.ensures t.1 t.2)
