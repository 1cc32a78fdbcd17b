use Rattle.std.proofs.Common.{ℕ, List, ap, subst, sym, refl, arith}
use Rattle.std.specs.Io.KnownBytes.{Appends}
use Rattle.std.specs.Io.Buffered.{reader_remaining}
use Rattle.std.proofs.lemmas.Result.{err_from_is_err_and}
use Rattle.term.specs.declared.limits.TheConstants.{MOST_LINES}
use Rattle.text_lines.specs.declared.faults.StreamFault.{StreamFault}
use Rattle.text_lines.specs.Lines.{spoken}
use Rattle.text_lines.specs.Writing.{AppendsPart}
use Rattle.command_lines.specs.Printing.{error_line}
use Rattle.cluster_script.specs.declared.header.Headers.{Headers}
use Rattle.cluster_script.specs.Headers.{ReadsHeaders}
use Rattle.cluster_script.specs.Script.{Stopped}
use Rattle.cluster_script.proofs.Runs.{Appends-behind, AppendsPart-kept, Ran-ended, Ran-refused, Ran-played, Stopped-opening, Stopped-refused, Stopped-writing, Stopped-err, opened_by}
use Rattle.cluster_script.proofs.script.run_script.Goals as goal

pub returns-in_err-world : goal.returns-in_err-world
returns-in_err-world g c =
    let input = reader_remaining g.R.Read.remaining c.args.reader.now in
    let rest = reader_remaining g.R.Read.remaining c.read_headers.new.reader in
    let old = g.W.Write.contents c.args.writer.now in
    let same = g.W.Write.contents c.read_headers.new.writer in
    let p = err_from_is_err_and c.from_residual.result c.from_residual.ensures.1 in
    Stopped-err input rest old same c.from_residual.result p.0 p.1
    (subst (λ (f : StreamFault). Stopped input rest old same f) (sym p.2)
    (Stopped-opening input rest old same c.in_err-world.ensures.kept c.in_err-world.field-0.0
    c.in_err-world.ensures.read))

pub returns-in_err-write_refusal-in-Refused : goal.returns-in_err-write_refusal-in-Refused
returns-in_err-write_refusal-in-Refused g c =
    let input = reader_remaining g.R.Read.remaining c.args.reader.now in
    let rest = reader_remaining g.R.Read.remaining c.read_headers.new.reader in
    let old = g.W.Write.contents c.args.writer.now in
    let same = g.W.Write.contents c.read_headers.new.writer in
    let new = g.W.Write.contents c.write_refusal.new.writer in
    let p = err_from_is_err_and c.from_residual-in_err-write_refusal-in-Refused.result
    c.from_residual-in_err-write_refusal-in-Refused.ensures.1 in
    let t = subst (λ (h : Headers). ReadsHeaders input rest MOST_LINES c.read_headers.new.left h) c.in-Refused.is
    c.in_ok-world.ensures.read in
    Stopped-err input rest old new c.from_residual-in_err-write_refusal-in-Refused.result p.0 p.1
    (Stopped-writing input rest old new c.in_err-write_refusal-in-Refused.field-0.0 p.0 p.2
    (Stopped-refused input rest MOST_LINES c.read_headers.new.left (omega arith) old new t.0 t.1 t.2 c.in-Refused.fault t.3
    (AppendsPart-kept old same new _ c.in_ok-world.ensures.kept
    (subst (λ (x : List ℕ). AppendsPart same new x) (ap error_line c.word.ensures)
    c.in_err-write_refusal-in-Refused.ensures))) refl)

pub returns-in-Open : goal.returns-in-Open
returns-in-Open g c =
    let input = reader_remaining g.R.Read.remaining c.args.reader.now in
    let rest = reader_remaining g.R.Read.remaining c.read_headers.new.reader in
    let last = reader_remaining g.R.Read.remaining c.play_all.new.reader in
    let old = g.W.Write.contents c.args.writer.now in
    let same = g.W.Write.contents c.read_headers.new.writer in
    let new = g.W.Write.contents c.play_all.new.writer in
    let t = subst (λ (h : Headers). ReadsHeaders input rest MOST_LINES c.read_headers.new.left h) c.in-Open.is
    c.in_ok-world.ensures.read in
    let q = opened_by (spoken t.0) rest c.in-Open.world c.in-Open.first t.3 in
    let p = c.play_all.ensures in
    Ran-played input rest MOST_LINES c.read_headers.new.left (omega arith) old new t.0 t.1 t.2 q.0 q.1 q.2 q.3 q.4
    c.in-Open.world c.in-Open.first q.5 p.0 p.1 last same c.in_ok-world.ensures.kept c.play_all.new.world
    c.play_all.new.left c.play_all.result refl p.2

pub returns-in-Ended : goal.returns-in-Ended
returns-in-Ended g c =
    let input = reader_remaining g.R.Read.remaining c.args.reader.now in
    let rest = reader_remaining g.R.Read.remaining c.read_headers.new.reader in
    let old = g.W.Write.contents c.args.writer.now in
    let same = g.W.Write.contents c.read_headers.new.writer in
    let t = subst (λ (h : Headers). ReadsHeaders input rest MOST_LINES c.read_headers.new.left h) c.in-Ended.is
    c.in_ok-world.ensures.read in
    Ran-ended input rest MOST_LINES c.read_headers.new.left (omega arith) old same t.0 t.1 t.2 t.3
    c.in_ok-world.ensures.kept

pub returns-in_ok-write_refusal-in-Refused : goal.returns-in_ok-write_refusal-in-Refused
returns-in_ok-write_refusal-in-Refused g c =
    let input = reader_remaining g.R.Read.remaining c.args.reader.now in
    let rest = reader_remaining g.R.Read.remaining c.read_headers.new.reader in
    let old = g.W.Write.contents c.args.writer.now in
    let same = g.W.Write.contents c.read_headers.new.writer in
    let new = g.W.Write.contents c.write_refusal.new.writer in
    let t = subst (λ (h : Headers). ReadsHeaders input rest MOST_LINES c.read_headers.new.left h) c.in-Refused.is
    c.in_ok-world.ensures.read in
    Ran-refused input rest MOST_LINES c.read_headers.new.left (omega arith) old new t.0 t.1 t.2 c.in-Refused.fault t.3
    (Appends-behind old same new _ c.in_ok-world.ensures.kept
    (subst (λ (x : List ℕ). Appends same new x) (ap error_line c.word.ensures)
    c.in_ok-write_refusal-in-Refused.ensures))
