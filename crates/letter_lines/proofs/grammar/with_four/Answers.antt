use Rattle.std.proofs.Common.{◌∷◌, [], ◌∙◌, Err, ap, inl, inr}
use Rattle.std.proofs.lemmas.Result.{err_from_is_err_and}
use Rattle.letter_lines.specs.declared.faults.LetterFault.{LetterFault}
use Rattle.letter_lines.specs.Grammar.{Resource, Requester, Pid, Granted, Ack}
use Rattle.letter_lines.proofs.Exits.{refused_before}
use Rattle.letter_lines.proofs.grammar.with_four.Goals as goal

pub returns-in_err-id-in-answer : goal.returns-in_err-id-in-answer
returns-in_err-id-in-answer c =
    let p = err_from_is_err_and c.from_residual.result c.from_residual.ensures.1 in
    let fault = c.in_err-id-in-answer.field-0.0 in
    let refused = refused_before (Resource ∷ Requester ∷ Pid ∷ []) (Granted ∷ [])
    (c.args.resource.now ∷ c.args.requester.now ∷ c.args.holder.now ∷ []) (c.args.flag.now ∷ []) fault
    c.in_err-id-in-answer.ensures in
    rw c.in-answer.is
    (inl (((_, c.in-Some.ensures), tt), inr (fault, refused, p.1 ∙ ap (λ (f : LetterFault). Err f) p.2)))

pub returns-in_err-id-in-give : goal.returns-in_err-id-in-give
returns-in_err-id-in-give c =
    let p = err_from_is_err_and c.from_residual-in_err-id-in-give.result c.from_residual-in_err-id-in-give.ensures.1 in
    let fault = c.in_err-id-in-give.field-0.0 in
    let refused = refused_before (Resource ∷ Requester ∷ Pid ∷ []) (Ack ∷ [])
    (c.args.resource.now ∷ c.args.requester.now ∷ c.args.holder.now ∷ []) (c.args.flag.now ∷ []) fault
    c.in_err-id-in-give.ensures in
    rw c.in-give.is
    (inl (((_, c.in-Some-parse_ack.ensures), tt), inr (fault, refused, p.1 ∙ ap (λ (f : LetterFault). Err f) p.2)))
