use Rattle.std.proofs.Common.{false, ◌∷◌, [], sym, subst, arith, length-append}
use Rattle.node_books.specs.Moments.{moment, Follows}
use Rattle.node_books.specs.Books.{Known}
use Rattle.node_books.proofs.Rising.{moments_snoc, open_snoc}
use Rattle.node_books.proofs.scribe.Scribe.add.Goals as goal

pub invariant_of-self : goal.invariant_of-self
invariant_of-self g c =
    let me = c.self.inside.seen.log in
    let node = c.args.node.now in
    let inv = c.self.invariant in
    let wrote = c.in_ok-self-inside.ensures in
    let may : Follows me node = subst (λ (k : Known). Follows k.log node) (sym c.self.view_is) c.requires in (
      rw wrote.book inv.0,
      rw wrote.log (omega (arith, inv.1, length-append me (moment false node ∷ []))),
      rw wrote.log (moments_snoc false me node inv.2 inv.3 may),
      rw wrote.log (open_snoc me node),
    )
