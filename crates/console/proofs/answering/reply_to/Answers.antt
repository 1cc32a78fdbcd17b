use Rattle.std.proofs.Common.{None, refl, subst, inr, Result, Ok}
use Rattle.std.proofs.lemmas.Result.{err_from_is_err_and}
use Rattle.text_lines.proofs.Known.{MatchResult-err}
use Rattle.command_lines.specs.declared.faults.LineFault.{LineFault}
use Rattle.console.specs.Commands.{LineSays}
use Rattle.console.specs.Links.{linked_in, own_text}
use Rattle.console.specs.Outcomes.{outcome_text}
use Rattle.console.specs.declared.orders.Command.{Command}
use Rattle.console.specs.declared.orders.Command.TheVariants.{Ask, NamesFrom, Inquire}
use Rattle.console.proofs.Leaving.{MayAnswer-spawned}
use Rattle.console.proofs.answering.reply_to.Goals as goal

pub returns-in_err-text-in-Ok-Ask : goal.returns-in_err-text-in-Ok-Ask
returns-in_err-text-in-Ok-Ask g c = λ bytes k.
    let r = c.from_residual-in_err-text-in-Ok-Ask.result in
    let p = err_from_is_err_and r c.from_residual-in_err-text-in-Ok-Ask.ensures.1 in
    MatchResult-err _ _ r p.0 p.1 (inr (
      outcome_text c.ask-outcome.result,
      None,
      (
        Ok (Ask c.in-Ok-Ask.order),
        subst (λ (said : Command). LineSays c.args.stays (own_text (linked_in c.args.links.now)) bytes (Ok said)) c.in-Ok-Ask.field-0-is
            (subst (λ (said : Result Command LineFault). LineSays c.args.stays (own_text (linked_in c.args.links.now)) bytes said) c.in-Ok-Ask.is
            (c.in_ok-order.ensures bytes k)),
        (c.ask-outcome.result, c.ask-outcome.ensures.answered, c.ask-outcome.ensures.links, refl, refl),
      ),
    ))

pub returns-in_err-text-in-Ok-SpawnLink : goal.returns-in_err-text-in-Ok-SpawnLink
returns-in_err-text-in-Ok-SpawnLink g c = λ bytes k.
    let r = c.from_residual-in_err-text-in-Ok-SpawnLink.result in
    let p = err_from_is_err_and r c.from_residual-in_err-text-in-Ok-SpawnLink.ensures.1 in
    let own = own_text (linked_in c.args.links.now) in
    let says = subst (λ (said : Command). LineSays c.args.stays own bytes (Ok said)) c.in-Ok-SpawnLink.field-0-is
    (subst (λ (said : Result Command LineFault). LineSays c.args.stays own bytes said) c.in-Ok-SpawnLink.is
    (c.in_ok-order.ensures bytes k)) in
    MatchResult-err _ _ r p.0 p.1
    (MayAnswer-spawned g.A.Attendant.answers g.A.Attendant.stands c.args.stays bytes _ _ says c.in_err-text-in-Ok-SpawnLink.ensures)

pub returns-in_err-text-in-Ok-NamesFrom : goal.returns-in_err-text-in-Ok-NamesFrom
returns-in_err-text-in-Ok-NamesFrom g c = λ bytes k.
    let r = c.from_residual-in_err-text-in-Ok-NamesFrom.result in
    let p = err_from_is_err_and r c.from_residual-in_err-text-in-Ok-NamesFrom.ensures.1 in
    let own = own_text (linked_in c.args.links.now) in
    let says = subst (λ (said : Command). LineSays c.args.stays own bytes (Ok said)) c.in-Ok-NamesFrom.field-0-is
    (subst (λ (said : Result Command LineFault). LineSays c.args.stays own bytes said) c.in-Ok-NamesFrom.is
    (c.in_ok-order.ensures bytes k)) in
    let chosen = c.in_err-text-in-Ok-NamesFrom.ensures in
    MatchResult-err _ _ r p.0 p.1 (inr (chosen.0, None, (Ok (NamesFrom c.in-Ok-NamesFrom.prefix), says, (chosen.1, refl, refl))))

pub returns-in_err-text-in-Ok-Inquire : goal.returns-in_err-text-in-Ok-Inquire
returns-in_err-text-in-Ok-Inquire g c = λ bytes k.
    let r = c.from_residual-in_err-text-in-Ok-Inquire.result in
    let p = err_from_is_err_and r c.from_residual-in_err-text-in-Ok-Inquire.ensures.1 in
    let own = own_text (linked_in c.args.links.now) in
    let says = subst (λ (said : Command). LineSays c.args.stays own bytes (Ok said)) c.in-Ok-Inquire.field-0-is
    (subst (λ (said : Result Command LineFault). LineSays c.args.stays own bytes said) c.in-Ok-Inquire.is
    (c.in_ok-order.ensures bytes k)) in
    let heeded = c.in_err-text-in-Ok-Inquire.ensures in
    MatchResult-err _ _ r p.0 p.1 (inr (heeded.0, None, (Ok (Inquire c.in-Ok-Inquire.inquiry), says, (heeded.1, refl, refl))))
