use Rattle.std.proofs.Common.{true, sym, subst}
use Rattle.node_books.specs.Moments.{Follows}
use Rattle.node_books.specs.Books.{Known}
use Rattle.node_books.proofs.Rising.{moments_snoc, ended_snoc}
use Rattle.node_books.proofs.scribe.Scribe.seal.Goals as goal

pub invariant_of-result : goal.invariant_of-result
invariant_of-result g c =
    let me = c.self.inside.seen.log in
    let node = c.args.node.now in
    let inv = c.self.invariant in
    let wrote = c.in_ok-seen.ensures in
    let may : Follows me node = subst (λ (k : Known). Follows k.log node) (sym c.self.view_is) c.requires in
    (rw wrote.log (moments_snoc true me node inv.2 inv.3 may), rw wrote.log (ended_snoc me node))
