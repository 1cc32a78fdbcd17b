use Rattle.std.proofs.Common.{◌∙◌, sym, ap}
use Rattle.node_books.specs.Books.{Known}
use Rattle.shared_table.proofs.Lying.{puts, of_one}
use Rattle.shared_table.proofs.chute.Chute.push.Goals as goal

pub push_as-requires-clause-rule : goal.push_as-requires-clause-rule
push_as-requires-clause-rule g c =
    let of = c.self.invariant.1 in (
      puts g.T.Booked.token _ _ _ c.args.item
          (λ s e. c.requires ∙ (ap (λ (k : Known). k.book) (sym c.self.view_is) ∙ of_one g.T.Booked.token c.self.inside.origin.book _ of.0 s of.1 of.2 e)),
      λ items views held at. tt,
    )
