use Rattle.std.proofs.Common.{Option, subst}
use Rattle.std.proofs.KnownBytes.{Keeps-refl}
use Rattle.std.proofs.lemmas.Result.{err_from_is_err_and}
use Rattle.std.specs.Io.Buffered.{reader_remaining}
use Rattle.text_lines.specs.declared.lines.Line.{Line}
use Rattle.text_lines.proofs.Known.{LosesLines-nil}
use Rattle.node_port.specs.Working.{stand_of, TakesNext, PrintsLine}
use Rattle.node_port.specs.declared.port.Standing.{Standing}
use Rattle.node_port.specs.declared.port.Standing.TheVariants.{Runs}
use Rattle.node_port.proofs.Playing.{plays_none, plays_end, plays_line, stops_read, stops_line, stops_here, lines_stop, left_ends, broken_ends}
use Rattle.node_port.proofs.running.play_lines.Goals as goal

pub loop-init : goal.loop-init
loop-init g c = (
  plays_none (stand_of c.args.port.now) (reader_remaining g.R.Read.remaining c.args.reader.now) (g.W.Write.contents c.args.writer.now),
  c.requires,
)

pub returns-in_default : goal.returns-in_default
returns-in_default g c =
    let input = reader_remaining g.R.Read.remaining c.args.reader.now in
    let mid = reader_remaining g.R.Read.remaining c.loop.reader in
    let rest = reader_remaining g.R.Read.remaining c.next_line.new.reader in
    let old = g.W.Write.contents c.args.writer.now in
    let w1 = g.W.Write.contents c.loop.writer in
    let w2 = g.W.Write.contents c.next_line.new.writer in
    let t = subst (λ (o : Option Line). TakesNext mid rest o) c.in_default.is c.in_ok-line.ensures.read in (
      Runs,
      plays_end (stand_of c.args.port.now) (stand_of c.loop.port) input mid rest old w1 w2 c.loop.invariant.0 c.in_ok-line.ensures.kept t.0,
      t.1,
    )

pub returns-in_err-line : goal.returns-in_err-line
returns-in_err-line g c =
    let input = reader_remaining g.R.Read.remaining c.args.reader.now in
    let mid = reader_remaining g.R.Read.remaining c.loop.reader in
    let rest = reader_remaining g.R.Read.remaining c.next_line.new.reader in
    let old = g.W.Write.contents c.args.writer.now in
    let w1 = g.W.Write.contents c.loop.writer in
    let w2 = g.W.Write.contents c.next_line.new.writer in
    let a = stand_of c.args.port.now in
    let b = stand_of c.loop.port in
    let p = err_from_is_err_and c.from_residual.result c.from_residual.ensures.1 in
    lines_stop a b input rest old w2 c.from_residual.result p.0 p.1
    (stops_read a b input mid rest old w1 w2 c.loop.invariant.0 c.in_err-line.ensures.kept c.in_err-line.ensures.read)

pub returns : goal.returns
returns g c =
    let input = reader_remaining g.R.Read.remaining c.args.reader.now in
    let mid = reader_remaining g.R.Read.remaining c.loop.reader in
    let old = g.W.Write.contents c.args.writer.now in
    let w1 = g.W.Write.contents c.loop.writer in
    stops_here (stand_of c.args.port.now) (stand_of c.loop.port) input mid mid old w1 w1 c.loop.invariant.0 (Keeps-refl w1) (LosesLines-nil mid)

pub returns-in_err-play_line : goal.returns-in_err-play_line
returns-in_err-play_line g c =
    let input = reader_remaining g.R.Read.remaining c.args.reader.now in
    let mid = reader_remaining g.R.Read.remaining c.loop.reader in
    let rest = reader_remaining g.R.Read.remaining c.next_line.new.reader in
    let old = g.W.Write.contents c.args.writer.now in
    let w1 = g.W.Write.contents c.loop.writer in
    let w2 = g.W.Write.contents c.next_line.new.writer in
    let w3 = g.W.Write.contents c.play_line.new.writer in
    let a = stand_of c.args.port.now in
    let b = stand_of c.loop.port in
    let d = stand_of c.play_line.new.port in
    let t = subst (λ (o : Option Line). TakesNext mid rest o) c.in-Some.is c.in_ok-line.ensures.read in
    let p = err_from_is_err_and c.from_residual-in_err-play_line.result c.from_residual-in_err-play_line.ensures.1 in
    lines_stop a d input rest old w3 c.from_residual-in_err-play_line.result p.0 p.1
    (stops_line a b input mid rest old w1 w2 c.loop.invariant.0 c.in_ok-line.ensures.kept t.0 t.2 w3 t.3
    (c.in_err-play_line.ensures.played t.0 t.1))

pub returns-in-HasLeft : goal.returns-in-HasLeft
returns-in-HasLeft g c =
    let input = reader_remaining g.R.Read.remaining c.args.reader.now in
    let mid = reader_remaining g.R.Read.remaining c.loop.reader in
    let rest = reader_remaining g.R.Read.remaining c.next_line.new.reader in
    let old = g.W.Write.contents c.args.writer.now in
    let w1 = g.W.Write.contents c.loop.writer in
    let w2 = g.W.Write.contents c.next_line.new.writer in
    let w3 = g.W.Write.contents c.play_line.new.writer in
    let a = stand_of c.args.port.now in
    let b = stand_of c.loop.port in
    let d = stand_of c.play_line.new.port in
    let t = subst (λ (o : Option Line). TakesNext mid rest o) c.in-Some.is c.in_ok-line.ensures.read in
    let s = c.in_ok-play_line.field-0 in (
      s,
      plays_line a b input mid rest old w1 w2 c.loop.invariant.0 c.in_ok-line.ensures.kept t.0 t.2 s d w3
          (c.in_ok-play_line.ensures.played t.0 t.1),
      left_ends s rest c.in-HasLeft.is,
    )

pub returns-in-Broken : goal.returns-in-Broken
returns-in-Broken g c =
    let input = reader_remaining g.R.Read.remaining c.args.reader.now in
    let mid = reader_remaining g.R.Read.remaining c.loop.reader in
    let rest = reader_remaining g.R.Read.remaining c.next_line.new.reader in
    let old = g.W.Write.contents c.args.writer.now in
    let w1 = g.W.Write.contents c.loop.writer in
    let w2 = g.W.Write.contents c.next_line.new.writer in
    let w3 = g.W.Write.contents c.play_line.new.writer in
    let a = stand_of c.args.port.now in
    let b = stand_of c.loop.port in
    let d = stand_of c.play_line.new.port in
    let t = subst (λ (o : Option Line). TakesNext mid rest o) c.in-Some.is c.in_ok-line.ensures.read in
    let s = c.in_ok-play_line.field-0 in (
      s,
      plays_line a b input mid rest old w1 w2 c.loop.invariant.0 c.in_ok-line.ensures.kept t.0 t.2 s d w3
          (c.in_ok-play_line.ensures.played t.0 t.1),
      broken_ends s rest c.in-Broken.is,
    )

pub loop-preserved : goal.loop-preserved
loop-preserved g c =
    let input = reader_remaining g.R.Read.remaining c.args.reader.now in
    let mid = reader_remaining g.R.Read.remaining c.loop.reader in
    let rest = reader_remaining g.R.Read.remaining c.next_line.new.reader in
    let old = g.W.Write.contents c.args.writer.now in
    let w1 = g.W.Write.contents c.loop.writer in
    let w2 = g.W.Write.contents c.next_line.new.writer in
    let w3 = g.W.Write.contents c.play_line.new.writer in
    let a = stand_of c.args.port.now in
    let b = stand_of c.loop.port in
    let d = stand_of c.play_line.new.port in
    let t = subst (λ (o : Option Line). TakesNext mid rest o) c.in-Some.is c.in_ok-line.ensures.read in (
      plays_line a b input mid rest old w1 w2 c.loop.invariant.0 c.in_ok-line.ensures.kept t.0 t.2 Runs d w3
          (subst (λ (s : Standing). PrintsLine t.0 s b d w2 w3) c.in-Runs.is (c.in_ok-play_line.ensures.played t.0 t.1)),
      c.in_ok-play_line.ensures.empty,
    )
