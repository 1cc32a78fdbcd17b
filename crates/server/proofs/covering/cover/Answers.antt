use Rattle.std.proofs.Common.{ℕ, ◌≡◌, get_or, subst, sym, ap, ◌∙◌}
use Rattle.node_threads.specs.Books.{Known}
use Rattle.node_threads.specs.Moments.{EndsAt}
use Rattle.server.proofs.Covered.{stands_there}
use Rattle.server.proofs.Witnessing.{of_some}
use Rattle.server.proofs.covering.cover.Goals as goal

pub returns-in-Some-get : goal.returns-in-Some-get
returns-in-Some-get c = λ i p at below end ends.
    let pasts = c.args.pasts.now in
    let past = c.in-Some-get.past.now in
    let index : c.in-Some.index ≡ i = of_some (sym c.in-Some.is ∙ c.index_of.ensures ∙ at) in
    let is : past ≡ get_or pasts i p = c.in-Some-get.ensures.lookup.1 ∙ ap (λ (k : ℕ). get_or pasts k past) index
    ∙ stands_there pasts i past p below in
    c.covers.ensures.past end (subst (λ (k : Known). EndsAt k.log end) (sym is) ends)
