use Rattle.std.proofs.Common.{◌≡◌, List, ap, subst}
use mathlib.Core.List.{IsPrefix}
use Rattle.node_books.specs.declared.moment.Moment.{Moment}
use Rattle.node_books.specs.Moments.{AreMoments}
use Rattle.node_books.specs.Books.{Known}
use Rattle.node_books.proofs.Rising.{sealed, begins_past}
use Rattle.node_books.proofs.node_past.Past.covers.Goals as goal

pub returns-clause-begins : goal.returns-clause-begins
returns-clause-begins c =
    let me = c.self.inside.seen.log in
    let all = c.learn.new.self.log in
    let mine : IsPrefix me all = subst (λ (l : List Moment). IsPrefix l all) (ap (λ s. s.log) c.again-all.ensures) c.learn.ensures.2 in
    let same : me ≡ all = sealed me all mine c.learn.ensures.4.1.moments c.self.invariant.1 in
    subst (λ (k : Known). IsPrefix c.args.token.now.log k.log) c.self.view_is (rw same c.learn.ensures.3)

pub returns-clause-past : goal.returns-clause-past
returns-clause-past c end is =
    let are : AreMoments c.args.self.now.log = subst (λ (k : Known). AreMoments k.log) c.self.view_is c.self.invariant.0 in
    begins_past c.args.token.now.log c.args.self.now.log end (returns-clause-begins c) are is
