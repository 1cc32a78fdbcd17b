use Rattle.std.proofs.Common.{◌≡◌, ◌∙◌, not, List, [], ◌∷◌, ◌++◌, length, drop, false, sym, ap, subst}
use Rattle.node_books.specs.declared.moment.Moment.{Moment}
use Rattle.node_books.specs.Books.{Known}
use Rattle.node_books.specs.Moments.{moment, shown_at, Follows}
use Rattle.shared_table.specs.declared.shown.Front.{Front}
use Rattle.shared_table.specs.Editions.{front_of, IsSo}
use Rattle.shared_table.specs.Rule.{mark_at}
use Rattle.shared_table.proofs.Keeping.{begins}
use Rattle.shared_table.proofs.Publishing.{first_so, opens_so, publishes_all, sound_published, all_shown, only_ok, when_ok}
use Rattle.shared_table.proofs.publisher.Publisher.new.Goals as goal

pub add-requires : goal.add-requires
add-requires g c = subst (λ (l : List Moment). Follows l c.args.node.now) (sym c.new-scribe.ensures) c.requires.came

pub new-requires-clause-rule : goal.new-requires-clause-rule
new-requires-clause-rule g c =
    let added : c.add.new.self ≡ record c.new-scribe.result { log = c.new-scribe.result.log ++ moment false c.args.node.now ∷ [] } =
    when_ok c.add.result _ c.add.ensures.ok (c.is_err.ensures.negation ∙ ap not c.if-is_err.false) in
    let log : c.again.result.log ≡ moment false c.args.node.now ∷ [] = ap (λ s. s.log) c.again.ensures ∙ (c.token-seen.ensures.log
    ∙ (ap (λ (k : Known). k.log) added ∙ ap (λ (l : List Moment). l ++ moment false c.args.node.now ∷ []) c.new-scribe.ensures)) in
    begins c.new-first.result (first_so c.new-first.result c.args.node.now c.node.result.now c.again.result c.new-first.ensures c.node.ensures c.requires.opens log)

pub publish_as-writer-requires : goal.publish_as-writer-requires
publish_as-writer-requires g c next is =
    let w = c.in_ok-writer.writer in
    let added : c.add.new.self ≡ record c.new-scribe.result { log = c.new-scribe.result.log ++ moment false c.args.node.now ∷ [] } =
    when_ok c.add.result _ c.add.ensures.ok (c.is_err.ensures.negation ∙ ap not c.if-is_err.false) in
    let log : c.again.result.log ≡ moment false c.args.node.now ∷ [] = ap (λ s. s.log) c.again.ensures ∙ (c.token-seen.ensures.log
    ∙ (ap (λ (k : Known). k.log) added ∙ ap (λ (l : List Moment). l ++ moment false c.args.node.now ∷ []) c.new-scribe.ensures)) in
    let first : IsSo (front_of c.new-first.result) =
    first_so c.new-first.result c.args.node.now c.node.result.now c.again.result c.new-first.ensures c.node.ensures c.requires.opens log in
    let opens = opens_so c.add.new.self w.desk.shown.value c.new-first.result (drop w.behind w.log.items) c.in_ok-writer.ensures.0 c.in_ok-writer.ensures.1 first
    (ap (λ (f : Front). f.seen.book) c.new-first.ensures ∙ (ap (λ s. s.book) c.again.ensures ∙ c.token-seen.ensures.book))
    (ap (λ (f : Front). f.seen.log) c.new-first.ensures ∙ (ap (λ s. s.log) c.again.ensures ∙ c.token-seen.ensures.log)) in
    publishes_all c.add.new.self w.desk.shown.value (drop w.behind w.log.items) [] opens.0 w.desk.place.id (mark_at w.desk.place) next is

pub invariant_of-result : goal.invariant_of-result
invariant_of-result g c =
    let w = c.in_ok-writer.writer in
    let n = c.publish_as-writer.result.0 in
    let added : c.add.new.self ≡ record c.new-scribe.result { log = c.new-scribe.result.log ++ moment false c.args.node.now ∷ [] } =
    when_ok c.add.result _ c.add.ensures.ok (c.is_err.ensures.negation ∙ ap not c.if-is_err.false) in
    let all : c.add.new.self.log ≡ moment false c.args.node.now ∷ [] =
    ap (λ (k : Known). k.log) added ∙ ap (λ (l : List Moment). l ++ moment false c.args.node.now ∷ []) c.new-scribe.ensures in
    let log : c.again.result.log ≡ moment false c.args.node.now ∷ [] = ap (λ s. s.log) c.again.ensures ∙ (c.token-seen.ensures.log ∙ all) in
    let first : IsSo (front_of c.new-first.result) =
    first_so c.new-first.result c.args.node.now c.node.result.now c.again.result c.new-first.ensures c.node.ensures c.requires.opens log in
    let opens = opens_so c.add.new.self w.desk.shown.value c.new-first.result (drop w.behind w.log.items) c.in_ok-writer.ensures.0 c.in_ok-writer.ensures.1 first
    (ap (λ (f : Front). f.seen.book) c.new-first.ensures ∙ (ap (λ s. s.book) c.again.ensures ∙ c.token-seen.ensures.book))
    (ap (λ (f : Front). f.seen.log) c.new-first.ensures ∙ (ap (λ s. s.log) c.again.ensures ∙ c.token-seen.ensures.log)) in (
      sym (ap (λ (l : List Moment). length l) all),
      c.token-origin.ensures.book ∙ ap (λ (k : Known). k.book) (sym added),
      c.token-origin.ensures.log ∙ c.new-scribe.ensures,
      only_ok _ _ c.publish_as-writer.result.1 (c.is_err-2.ensures.negation ∙ ap not c.if-is_err-2.false) c.publish_as-writer.ensures.values
          c.publish_as-writer.ensures.rule (λ x values rule. sound_published c.add.new.self w.desk.shown.value (drop w.behind w.log.items) [] opens.0 opens.1
          n.desk.shown.value (drop n.behind n.log.items) (mark_at n.desk.place) values.0 values.1 rule),
    )

pub returns-clause-log : goal.returns-clause-log
returns-clause-log g c =
    let added : c.add.new.self ≡ record c.new-scribe.result { log = c.new-scribe.result.log ++ moment false c.args.node.now ∷ [] } =
    when_ok c.add.result _ c.add.ensures.ok (c.is_err.ensures.negation ∙ ap not c.if-is_err.false) in
    ap (λ (k : Known). k.log) added ∙ ap (λ (l : List Moment). l ++ moment false c.args.node.now ∷ []) c.new-scribe.ensures

pub returns-clause-shown : goal.returns-clause-shown
returns-clause-shown g c =
    let n = c.publish_as-writer.result.0 in
    let all : c.add.new.self.log ≡ moment false c.args.node.now ∷ [] = returns-clause-log g c in
    only_ok _ _ c.publish_as-writer.result.1 (c.is_err-2.ensures.negation ∙ ap not c.if-is_err-2.false) c.publish_as-writer.ensures.values
    c.publish_as-writer.ensures.rule (λ x values rule. all_shown c.add.new.self n.desk.shown.value (drop n.behind n.log.items ++ [])
    (mark_at n.desk.place) (invariant_of-result g c).3 (ap (λ l. l ++ []) values.1))
    ∙ ap shown_at all
