use Rattle.std.proofs.Common.{ℕ, List, ◌++◌, subst, string_bytes}
use Rattle.std.proofs.lemmas.Result.{err_from_is_err_and}
use Rattle.std.specs.Io.KnownBytes.{Appends}
use Rattle.text_lines.specs.Writing.{AppendsPart, Writes}
use Rattle.text_lines.proofs.Written.{AppendsPart-more, Writes-err, Writes-behind}
use Rattle.node_port.proofs.output.Output.write.Goals as goal

pub returns-in_err-write_text : goal.returns-in_err-write_text
returns-in_err-write_text g c =
    let w0 = g.W.Write.contents c.args.writer.now in
    let w1 = g.W.Write.contents c.write_text.new.writer in
    let changes = string_bytes c.args.self.now.changes in
    let rest = c.args.orders.now ++ (c.args.lines.now ++ string_bytes c.args.self.now.answers) in
    let r = c.from_residual.result in
    let p = err_from_is_err_and r c.from_residual.ensures.1 in
    Writes-err w0 w1 r p.0 (changes ++ rest) p.1
    (AppendsPart-more w0 w1 changes rest
    (subst (λ (t : List ℕ). AppendsPart w0 w1 t) c.as_bytes.ensures.value c.in_err-write_text.ensures))

pub returns-in_err-write_text-2 : goal.returns-in_err-write_text-2
returns-in_err-write_text-2 g c =
    let w0 = g.W.Write.contents c.args.writer.now in
    let w1 = g.W.Write.contents c.write_text.new.writer in
    let w2 = g.W.Write.contents c.write_text-2.new.writer in
    let rest = c.args.lines.now ++ string_bytes c.args.self.now.answers in
    let r = c.from_residual-in_err-write_text-2.result in
    let p = err_from_is_err_and r c.from_residual-in_err-write_text-2.ensures.1 in
    Writes-behind w0 w1 w2 r (string_bytes c.args.self.now.changes) (c.args.orders.now ++ rest)
    (subst (λ (t : List ℕ). Appends w0 w1 t) c.as_bytes.ensures.value c.in_ok-write_text.ensures)
    (Writes-err w1 w2 r p.0 (c.args.orders.now ++ rest) p.1
    (AppendsPart-more w1 w2 c.args.orders.now rest
    (subst (λ (t : List ℕ). AppendsPart w1 w2 t) c.as_bytes-2.ensures.value c.in_err-write_text-2.ensures)))

pub returns-in_err-write_text-3 : goal.returns-in_err-write_text-3
returns-in_err-write_text-3 g c =
    let w0 = g.W.Write.contents c.args.writer.now in
    let w1 = g.W.Write.contents c.write_text.new.writer in
    let w2 = g.W.Write.contents c.write_text-2.new.writer in
    let w3 = g.W.Write.contents c.write_text-3.new.writer in
    let answers = string_bytes c.args.self.now.answers in
    let r = c.from_residual-in_err-write_text-3.result in
    let p = err_from_is_err_and r c.from_residual-in_err-write_text-3.ensures.1 in
    Writes-behind w0 w1 w3 r (string_bytes c.args.self.now.changes) (c.args.orders.now ++ (c.args.lines.now ++ answers))
    (subst (λ (t : List ℕ). Appends w0 w1 t) c.as_bytes.ensures.value c.in_ok-write_text.ensures)
    (Writes-behind w1 w2 w3 r c.args.orders.now (c.args.lines.now ++ answers)
    (subst (λ (t : List ℕ). Appends w1 w2 t) c.as_bytes-2.ensures.value c.in_ok-write_text-2.ensures)
    (Writes-err w2 w3 r p.0 (c.args.lines.now ++ answers) p.1
    (AppendsPart-more w2 w3 c.args.lines.now answers
    (subst (λ (t : List ℕ). AppendsPart w2 w3 t) c.as_bytes-3.ensures.value c.in_err-write_text-3.ensures))))

pub returns : goal.returns
returns g c =
    let w0 = g.W.Write.contents c.args.writer.now in
    let w1 = g.W.Write.contents c.write_text.new.writer in
    let w2 = g.W.Write.contents c.write_text-2.new.writer in
    let w3 = g.W.Write.contents c.write_text-3.new.writer in
    let w4 = g.W.Write.contents c.write_text-4.new.writer in
    let answers = string_bytes c.args.self.now.answers in
    let r = c.write_text-4.result in
    Writes-behind w0 w1 w4 r (string_bytes c.args.self.now.changes) (c.args.orders.now ++ (c.args.lines.now ++ answers))
    (subst (λ (t : List ℕ). Appends w0 w1 t) c.as_bytes.ensures.value c.in_ok-write_text.ensures)
    (Writes-behind w1 w2 w4 r c.args.orders.now (c.args.lines.now ++ answers)
    (subst (λ (t : List ℕ). Appends w1 w2 t) c.as_bytes-2.ensures.value c.in_ok-write_text-2.ensures)
    (Writes-behind w2 w3 w4 r c.args.lines.now answers
    (subst (λ (t : List ℕ). Appends w2 w3 t) c.as_bytes-3.ensures.value c.in_ok-write_text-3.ensures)
    (subst (λ (t : List ℕ). Writes w3 w4 r t) c.as_bytes-4.ensures.value c.write_text-4.ensures)))
