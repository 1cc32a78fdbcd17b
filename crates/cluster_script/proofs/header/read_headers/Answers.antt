use Rattle.std.proofs.Common.{ℕ, List, Option, Result, subst, sym}
use Rattle.std.specs.Io.Buffered.{reader_remaining}
use Rattle.std.proofs.KnownBytes.{Keeps-trans}
use Rattle.text_lines.specs.declared.lines.Line.{Line}
use Rattle.command_lines.specs.declared.faults.LineFault.{LineFault}
use Rattle.cluster_script.specs.declared.header.Cluster.{Cluster}
use Rattle.cluster_script.specs.Headers.{OpensCluster}
use Rattle.cluster_script.specs.Script.{OpensNone}
use Rattle.cluster_script.specs.Played.{ReadsOn}
use Rattle.cluster_script.proofs.Headers.{headers_behind}
use Rattle.cluster_script.proofs.header.read_headers.Goals as goal

pub read_behind-requires-clause-opening : goal.read_behind-requires-clause-opening
read_behind-requires-clause-opening g c =
    let input = reader_remaining g.R.Read.remaining c.args.reader.now in
    let rest = reader_remaining g.R.Read.remaining c.next_line.new.reader in
    let t = subst (λ (o : Option Line). ReadsOn input rest c.args.left.now c.next_line.new.left o) c.in-Some.is
    c.in_ok-line.ensures.read in
    let o = subst (λ (r : Result Cluster LineFault). OpensCluster t.1 r) c.in-Ok.is (c.open_cluster.ensures t.1 t.2) in
    o.1

pub returns-in-Ok-clause-read : goal.returns-in-Ok-clause-read
returns-in-Ok-clause-read g c =
    let input = reader_remaining g.R.Read.remaining c.args.reader.now in
    let mid = reader_remaining g.R.Read.remaining c.next_line.new.reader in
    let rest = reader_remaining g.R.Read.remaining c.read_behind.new.reader in
    let t = subst (λ (o : Option Line). ReadsOn input mid c.args.left.now c.next_line.new.left o) c.in-Some.is
    c.in_ok-line.ensures.read in
    let o = subst (λ (r : Result Cluster LineFault). OpensCluster t.1 r) c.in-Ok.is (c.open_cluster.ensures t.1 t.2) in
    headers_behind input mid rest c.args.left.now c.next_line.new.left t.0 t.1 c.in-Ok.cluster.nodes.items t.4 t.5 t.3
    o.0 o.1.0 c.read_behind.new.left c.read_behind.result c.read_behind.ensures.read

pub returns-in-Ok-clause-kept : goal.returns-in-Ok-clause-kept
returns-in-Ok-clause-kept g c =
    Keeps-trans (g.W.Write.contents c.args.writer.now) (g.W.Write.contents c.next_line.new.writer)
    (g.W.Write.contents c.read_behind.new.writer) c.in_ok-line.ensures.kept c.read_behind.ensures.kept

pub returns-clause-read : goal.returns-clause-read
returns-clause-read g c =
    let input = reader_remaining g.R.Read.remaining c.args.reader.now in
    let rest = reader_remaining g.R.Read.remaining c.next_line.new.reader in
    let t = subst (λ (o : Option Line). ReadsOn input rest c.args.left.now c.next_line.new.left o) c.in-Some.is
    c.in_ok-line.ensures.read in
    let o = subst (λ (r : Result Cluster LineFault). OpensCluster t.1 r) c.in-Err.is
    (c.open_cluster.ensures t.1 t.2) in
    (t.0, t.4, t.5, subst (λ (xs : List (List ℕ)). OpensNone xs rest c.in-Err.fault) (sym t.3) o)
