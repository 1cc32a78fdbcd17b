use Rattle.std.proofs.Common.{◌≡◌, ◌∙◌, not, false, drop, [], ◌∷◌, ◌++◌, length, sym, ap, subst, arith, length-append}
use Rattle.node_books.specs.Owing.{shown_by}
use Rattle.node_books.specs.Books.{Known}
use Rattle.node_books.specs.Moments.{moment, shown_at}
use Rattle.shared_table.specs.Publishing.{Progress, Publishes, held_back}
use Rattle.shared_table.specs.Rule.{mark_at}
use Rattle.node_books.proofs.Taking.{shown_behind}
use Rattle.shared_table.proofs.Publishing.{sound_again, when_ok, when_err}
use Rattle.shared_table.proofs.Noting.{follows_again, follows_as}
use Rattle.shared_table.proofs.publisher.Publisher.write.Goals as goal

pub add-requires : goal.add-requires
add-requires g c = (subst (λ (p : Progress). Publishes c.args.node.now p) (sym c.self.view_is) c.requires.follows).0

pub invariant_of-self-2 : goal.invariant_of-self-2
invariant_of-self-2 g c =
    let me = c.self.inside in
    let b = c.args.node.now in
    let added : c.add.new.self ≡ record me.scribe { log = me.scribe.log ++ moment false b ∷ [] } =
    when_ok c.add.result _ c.add.ensures.ok (c.is_err.ensures.negation ∙ ap not c.if-is_err.false) in (
      omega (arith, c.self.invariant.0, ap (λ (k : Known). length k.log) added, length-append me.scribe.log (moment false b ∷ [])),
      c.self.invariant.1 ∙ sym (ap (λ (k : Known). k.book) added),
      c.self.invariant.2,
      sound_again me.scribe c.add.new.self me.writer.desk.shown.value (drop me.writer.behind me.writer.log.items ++ held_back me.held)
          (mark_at me.writer.desk.place) b c.self.invariant.3 added
          (subst (λ (p : Progress). shown_at p.known.log ≡ shown_by b) (sym c.self.view_is) c.requires.nothing),
    )

pub returns-clause-ok : goal.returns-clause-ok
returns-clause-ok g c =
    let added : c.add.new.self ≡ record c.self.inside.scribe { log = c.self.inside.scribe.log ++ moment false c.args.node.now ∷ [] } =
    when_ok c.add.result _ c.add.ensures.ok (c.is_err.ensures.negation ∙ ap not c.if-is_err.false) in
    ap (λ (k : Known). shown_at k.log) added ∙ shown_behind c.self.inside.scribe.log c.args.node.now

pub returns-clause-written : goal.returns-clause-written
returns-clause-written g c =
    let added : c.add.new.self ≡ record c.self.inside.scribe { log = c.self.inside.scribe.log ++ moment false c.args.node.now ∷ [] } =
    when_ok c.add.result _ c.add.ensures.ok (c.is_err.ensures.negation ∙ ap not c.if-is_err.false) in
    (c.self.inside.scribe.log, ap (λ (k : Known). k.log) added)

pub returns-clause-follows : goal.returns-clause-follows
returns-clause-follows g c =
    let me = c.self.inside in
    let added : c.add.new.self ≡ record me.scribe { log = me.scribe.log ++ moment false c.args.node.now ∷ [] } =
    when_ok c.add.result _ c.add.ensures.ok (c.is_err.ensures.negation ∙ ap not c.if-is_err.false) in
    let req = subst (λ (p : Progress). Publishes c.args.node.now p) (sym c.self.view_is) c.requires.follows in
    follows_again c.args.node.now me.scribe c.add.new.self req.1
    (subst (λ (p : Progress). shown_at p.known.log ≡ shown_by c.args.node.now) (sym c.self.view_is) c.requires.nothing) added

pub returns-then-is_err-clause-follows : goal.returns-then-is_err-clause-follows
returns-then-is_err-clause-follows g c = follows_as c.args.node.now c.self.inside.scribe c.add.new.self
    (when_err c.add.result _ c.add.ensures.unchanged (sym c.is_err.ensures.value ∙ c.if-is_err.true))
    (subst (λ (p : Progress). Publishes c.args.node.now p) (sym c.self.view_is) c.requires.follows)
