use Rattle.std.proofs.Common.{List, [], ℕ, Option, refl, string_bytes, subst, inl, inr}
use Rattle.std.proofs.lemmas.Result.{err_from_is_err_and}
use Rattle.std.specs.Io.KnownBytes.{Appends, Keeps}
use Rattle.std.proofs.KnownBytes.{Appends-kept, Appends-nil, Appends-trans}
use Rattle.text_lines.specs.Writing.{AppendsPart}
use Rattle.text_lines.proofs.Known.{MatchResult-err}
use Rattle.text_lines.proofs.Written.{AppendsPart-behind}
use Rattle.console.specs.Consoles.{Tells, TellStops, talk}
use Rattle.console.specs.Links.{linked_in}
use Rattle.console.proofs.Heeding.{unwritten}
use Rattle.console.proofs.answering.answer.Goals as goal

-- known bytes that stay grow by nothing
none : (a b : Option (List ℕ)) → Keeps a b → Appends a b []
none a b k = Appends-kept a a b [] (Appends-nil a) k

pub returns-in_err-text : goal.returns-in_err-text
returns-in_err-text g c = λ bytes k.
    let old = g.W.Write.contents c.args.writer.now in
    let same = g.W.Write.contents c.hand_on_before.new.writer in
    let answers = g.A.Attendant.answers in
    let stands = g.A.Attendant.stands in
    let stays = c.args.stays in
    let s = talk (g.A.Attendant.state c.args.attendant.now) (linked_in c.args.links.now) in
    let t = talk (g.A.Attendant.state c.reply_to.new.attendant) (linked_in c.reply_to.new.links) in
    let r = c.from_residual.result in
    let p = err_from_is_err_and r c.from_residual.ensures.1 in
    MatchResult-err (Tells answers stands stays bytes old same s t) (TellStops answers stands stays bytes old same s t) r p.0 p.1 (elim (c.in_err-text.ensures bytes k) [
      | inl e ↦ inr (record { same = e; fault_is = p.2; wrote = none old same c.hand_on_before.ensures })
      | inr e ↦ inl (record {
        text = e.0;
        ended = e.1;
        answered = e.2;
        wrote = ([], e.0, refl, none old same c.hand_on_before.ensures);
        fault_is = inr p.2;
      })
    ])

pub returns-in_err-write_answer : goal.returns-in_err-write_answer
returns-in_err-write_answer g c = λ bytes k.
    let old = g.W.Write.contents c.args.writer.now in
    let same = g.W.Write.contents c.hand_on_before.new.writer in
    let new = g.W.Write.contents c.write_answer.new.writer in
    let answers = g.A.Attendant.answers in
    let stands = g.A.Attendant.stands in
    let stays = c.args.stays in
    let s = talk (g.A.Attendant.state c.args.attendant.now) (linked_in c.args.links.now) in
    let t = talk (g.A.Attendant.state c.reply_to.new.attendant) (linked_in c.reply_to.new.links) in
    let r = c.from_residual-in_err-write_answer.result in
    let p = err_from_is_err_and r c.from_residual-in_err-write_answer.ensures.1 in
    MatchResult-err (Tells answers stands stays bytes old new s t) (TellStops answers stands stays bytes old new s t) r p.0 p.1 (inl (record {
      text = string_bytes c.in_ok-text.text;
      ended = c.in_ok-text.ended;
      answered = c.in_ok-text.ensures bytes k;
      wrote = AppendsPart-behind old same new [] _ (none old same c.hand_on_before.ensures)
          (subst (λ (t : List ℕ). AppendsPart same new t) c.as_bytes.ensures.value c.in_err-write_answer.ensures);
      fault_is = unwritten c.in_err-write_answer.field-0.0 p.0 p.2;
    }))

pub returns : goal.returns
returns g c = λ bytes k.
    let old = g.W.Write.contents c.args.writer.now in
    let same = g.W.Write.contents c.hand_on_before.new.writer in
    let new = g.W.Write.contents c.write_answer.new.writer in (
      string_bytes c.in_ok-text.text,
      c.in_ok-text.ensures bytes k,
      Appends-trans old same new [] _ (none old same c.hand_on_before.ensures)
          (subst (λ (t : List ℕ). Appends same new t) c.as_bytes.ensures.value c.in_ok-write_answer.ensures),
    )
