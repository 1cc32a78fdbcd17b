use Rattle.std.proofs.Common.{sym, ◌∙◌, ap}
use Rattle.node_books.proofs.Adding.{writes}
use Rattle.node_books.proofs.scribe.write.Goals as goal

pub compare_exchange-found-requires : goal.compare_exchange-found-requires
compare_exchange-found-requires g c =
    let h = c.requires.head in
    let offer = c.plain-offer.ensures in
    let pen = c.no_pen-pen.ensures in
    let copy = c.again-all.ensures in
    let book = ap (λ s. s.book) copy ∙ sym (ap (λ w. w.book) h) in (
      ap (λ w. w.tracked) h,
      book,
      pen.0 ∙ book,
      offer.0,
      rw (ap (λ w. w.key) h, pen.1, offer.1, offer.3, copy) (writes c.args.ended c.args.seen.now.log c.args.node.now c.args.count (sym c.requires.count) c.requires.open c.requires.follows),
    )
