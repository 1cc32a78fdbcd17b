use Rattle.std.proofs.Common.{ℕ, List, subst}
use Rattle.std.proofs.lemmas.Result.{err_from_is_err_and}
use Rattle.std.specs.Io.KnownBytes.{Appends}
use Rattle.text_lines.specs.Writing.{AppendsPart}
use Rattle.text_lines.proofs.Written.{Writes-err, part-first, part-second, line-written}
use Rattle.text_lines.proofs.writing.write_line.Goals as goal

pub returns-in_err-write_text : goal.returns-in_err-write_text
returns-in_err-write_text g c =
    let a = g.W.Write.contents c.args.writer.now in
    let b = g.W.Write.contents c.write_text.new.writer in
    let p = err_from_is_err_and c.from_residual.result c.from_residual.ensures.1 in
    let wrote = subst (λ (t : List ℕ). AppendsPart a b t) c.as_bytes.ensures.value c.in_err-write_text.ensures in
    Writes-err a b c.from_residual.result p.0 _ p.1 (part-first a b c.args.first.now c.args.second.now wrote)

pub returns-in_err-write_text-2 : goal.returns-in_err-write_text-2
returns-in_err-write_text-2 g c =
    let a = g.W.Write.contents c.args.writer.now in
    let b = g.W.Write.contents c.write_text.new.writer in
    let d = g.W.Write.contents c.write_text-2.new.writer in
    let r = c.from_residual-in_err-write_text-2 in
    let p = err_from_is_err_and r.result r.ensures.1 in
    let wrote = subst (λ (t : List ℕ). Appends a b t) c.as_bytes.ensures.value c.in_ok-write_text.ensures in
    let more = subst (λ (t : List ℕ). AppendsPart b d t) c.as_bytes-2.ensures.value c.in_err-write_text-2.ensures in
    Writes-err a d r.result p.0 _ p.1 (part-second a b d c.args.first.now c.args.second.now wrote more)

pub returns : goal.returns
returns g c =
    let a = g.W.Write.contents c.args.writer.now in
    let b = g.W.Write.contents c.write_text.new.writer in
    let d = g.W.Write.contents c.write_text-2.new.writer in
    let wrote = subst (λ (t : List ℕ). Appends a b t) c.as_bytes.ensures.value c.in_ok-write_text.ensures in
    let more = subst (λ (t : List ℕ). Appends b d t) c.as_bytes-2.ensures.value c.in_ok-write_text-2.ensures in
    line-written a b d (g.W.Write.contents c.write_text-3.new.writer) c.write_text-3.result c.args.first.now
    c.args.second.now wrote more c.write_text-3.ensures
