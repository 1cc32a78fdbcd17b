use Rattle.std.proofs.Common.{Option, subst}
use Rattle.std.proofs.lemmas.Result.{err_from_is_err_and}
use Rattle.std.specs.Io.Buffered.{reader_remaining}
use Rattle.text_lines.specs.declared.lines.Line.{Line}
use Rattle.node_port.specs.Working.{TakesNext}
use Rattle.node_port.proofs.Ends.{each_rises, no_line, stopped_first, from_first, node_stops}
use Rattle.node_port.proofs.running.run_node.Goals as goal

pub returns-in_default : goal.returns-in_default
returns-in_default g c =
    let input = reader_remaining g.R.Read.remaining c.args.reader.now in
    let rest = reader_remaining g.R.Read.remaining c.next_line.new.reader in
    let old = g.W.Write.contents c.args.writer.now in
    let w0 = g.W.Write.contents c.next_line.new.writer in
    let t = subst (λ (o : Option Line). TakesNext input rest o) c.in_default.is c.in_ok-first.ensures.read in
    no_line c.args.node.now c.args.names.now (each_rises c.args.node.now c.args.names.now c.requires.first c.len-count.ensures.set.rising) input rest old w0 t.0 t.1 c.in_ok-first.ensures.kept

pub returns-in_err-first : goal.returns-in_err-first
returns-in_err-first g c =
    let input = reader_remaining g.R.Read.remaining c.args.reader.now in
    let rest = reader_remaining g.R.Read.remaining c.next_line.new.reader in
    let old = g.W.Write.contents c.args.writer.now in
    let w0 = g.W.Write.contents c.next_line.new.writer in
    let p = err_from_is_err_and c.from_residual.result c.from_residual.ensures.1 in
    node_stops c.args.node.now c.args.names.now input rest old w0 c.from_residual.result p.0 p.1
    (stopped_first c.args.node.now c.args.names.now (each_rises c.args.node.now c.args.names.now c.requires.first c.len-count.ensures.set.rising) input rest old w0 p.0 c.in_err-first.ensures.read
    c.in_err-first.ensures.kept)

pub returns : goal.returns
returns g c =
    let input = reader_remaining g.R.Read.remaining c.args.reader.now in
    let mid = reader_remaining g.R.Read.remaining c.next_line.new.reader in
    let rest = reader_remaining g.R.Read.remaining c.run_from.new.reader in
    let old = g.W.Write.contents c.args.writer.now in
    let w0 = g.W.Write.contents c.next_line.new.writer in
    let new = g.W.Write.contents c.run_from.new.writer in
    let t = subst (λ (o : Option Line). TakesNext input mid o) c.in-Some.is c.in_ok-first.ensures.read in
    from_first c.args.node.now c.args.names.now (each_rises c.args.node.now c.args.names.now c.requires.first c.len-count.ensures.set.rising) t.0 input mid rest old w0 new t.2 t.3 c.in_ok-first.ensures.kept
    c.run_from.result (c.run_from.ensures t.0 t.1)
