use Rattle.std.proofs.Common.{Bool, List, ℕ, string_bytes, refl, subst}
use Rattle.console.specs.Consoles.{HeedsInquiry}
use Rattle.console.specs.Links.{linked_in}
use Rattle.console.specs.Outcomes.{outcome_text}
use Rattle.console.specs.declared.orders.Inquiry.TheVariants as inquiry
use Rattle.console.specs.declared.orders.Order.TheVariants as order
use Rattle.console.proofs.Choosing.{said_or_not}
use Rattle.console.proofs.answering.wait.Goals as goal

pub returns : goal.returns
returns g c =
    let s = g.A.Attendant.state c.args.attendant.now in
    let t = g.A.Attendant.state c.ask-outcome.new.self in
    let outcome = c.ask-outcome.result in
    let asked = subst (λ (linked : Bool). g.A.Attendant.answers s (order.Wait c.args.awaited) linked outcome t) c.may_wait-linked.ensures
    c.ask-outcome.ensures in
    said_or_not string_bytes
    (λ (text : List ℕ). HeedsInquiry g.A.Attendant.answers g.A.Attendant.stands s (linked_in c.args.links.now) (inquiry.Wait c.args.awaited) text t)
    (outcome_text outcome) c.outcome_line.result (outcome, asked, refl) c.outcome_line.ensures
