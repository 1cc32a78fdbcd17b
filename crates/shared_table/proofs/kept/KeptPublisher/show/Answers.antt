use Rattle.std.proofs.Common.{◌≡◌, ◌∙◌, false, not, List, [], ◌∷◌, ◌++◌, ap, sym, subst}
use Rattle.node_books.specs.Books.{Known}
use Rattle.node_books.specs.declared.moment.Moment.{Moment}
use Rattle.node_books.specs.Moments.{moment, Follows, shown_at}
use Rattle.node_books.specs.Owing.{Owes}
use Rattle.shared_table.proofs.Publishing.{when_ok}
use Rattle.shared_table.proofs.kept.KeptPublisher.show.Goals as goal

pub returns-clause-publishes : goal.returns-clause-publishes
returns-clause-publishes g c = subst (λ (k : Known). Follows k.log c.note.new.node × Owes c.note.new.node (shown_at k.log))
    (sym c.publish-publisher.ensures.known) c.note.ensures.follows

pub returns-clause-shown : goal.returns-clause-shown
returns-clause-shown g c = λ done.
    when_ok c.publish-publisher.result.1 _ c.publish-publisher.ensures.shown (sym c.is_ok.ensures.value ∙ done)
    ∙ (ap (λ (k : Known). shown_at k.log) c.publish-publisher.ensures.known
    ∙ when_ok c.note.result _ c.note.ensures.ok (c.is_err.ensures.negation ∙ ap not c.if-is_err.false))

pub returns-clause-all : goal.returns-clause-all
returns-clause-all g c = λ done. when_ok c.publish-publisher.result.1 _ c.publish-publisher.ensures.shown (sym c.is_ok.ensures.value ∙ done)

pub returns-clause-written : goal.returns-clause-written
returns-clause-written g c = λ done.
    subst (λ (k : Known). (before : List Moment) × (k.log ≡ before ++ moment false c.note.new.node ∷ [])) (sym c.publish-publisher.ensures.known)
    (when_ok c.note.result _ c.note.ensures.written (c.is_err.ensures.negation ∙ ap not c.if-is_err.false))
