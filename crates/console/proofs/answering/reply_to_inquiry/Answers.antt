use Rattle.std.proofs.Common.{List, ℕ, string_bytes, MatchResult, sym, subst}
use Rattle.console.specs.Consoles.{HeedsInquiry}
use Rattle.console.specs.Links.{linked_in}
use Rattle.console.specs.declared.orders.Inquiry.{Inquiry}
use Rattle.console.proofs.answering.reply_to_inquiry.Goals as goal

pub returns-in-Describe : goal.returns-in-Describe
returns-in-Describe g c =
    let s = g.A.Attendant.state c.args.attendant.now in
    subst (λ (i : Inquiry). MatchResult c.describe.result
    (λ text. HeedsInquiry g.A.Attendant.answers g.A.Attendant.stands s (linked_in c.args.links.now) i (string_bytes text) s)
    (λ _. (text : List ℕ) × HeedsInquiry g.A.Attendant.answers g.A.Attendant.stands s (linked_in c.args.links.now) i text s))
    (sym c.in-Describe.is) c.describe.ensures

pub returns-in-Find : goal.returns-in-Find
returns-in-Find g c =
    let s = g.A.Attendant.state c.args.attendant.now in
    let t = g.A.Attendant.state c.find.new.attendant in
    subst (λ (i : Inquiry). MatchResult c.find.result
    (λ text. HeedsInquiry g.A.Attendant.answers g.A.Attendant.stands s (linked_in c.args.links.now) i (string_bytes text) t)
    (λ _. (text : List ℕ) × HeedsInquiry g.A.Attendant.answers g.A.Attendant.stands s (linked_in c.args.links.now) i text t))
    (sym c.in-Find.is) c.find.ensures
