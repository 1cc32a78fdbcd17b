use Rattle.std.proofs.Common.{List, ◌++◌, drop, sym, ap, subst, ◌∙◌}
use Rattle.shared_table.specs.declared.shown.Stamp.{Stamp}
use Rattle.shared_table.specs.declared.shown.Shown.{Shown}
use Rattle.shared_table.specs.Editions.{edition_of}
use Rattle.shared_table.specs.Publishing.{Progress, IsAllShown, held_back}
use Rattle.shared_table.specs.Rule.{mark_at}
use Rattle.shared_table.proofs.Publishing.{publishes_all, sound_published, sound_same, all_shown, either_way, on_ok, on_err, none_held, none_waits}
use Rattle.shared_table.proofs.publisher.Publisher.publish.Goals as goal

pub publish_as-writer-requires : goal.publish_as-writer-requires
publish_as-writer-requires g c next is =
    let me = c.self.inside in
    publishes_all me.scribe me.writer.desk.shown.value (drop me.writer.behind me.writer.log.items) (held_back me.held) c.self.invariant.3.so
    me.writer.desk.place.id (mark_at me.writer.desk.place) next is

pub invariant_of-publisher : goal.invariant_of-publisher
invariant_of-publisher g c =
    let me = c.self.inside in
    let us = drop me.writer.behind me.writer.log.items in
    let n = c.publish_as-writer.result.0 in (
      c.self.invariant.0,
      c.self.invariant.1,
      c.self.invariant.2,
      either_way c.publish_as-writer.result.1 c.publish_as-writer.ensures.values c.publish_as-writer.ensures.rule
          (λ x values rule. sound_published me.scribe me.writer.desk.shown.value us (held_back me.held) c.self.invariant.3.so c.self.invariant.3.last
          n.desk.shown.value (drop n.behind n.log.items) (mark_at n.desk.place) values.0 values.1 rule)
          (λ e values rule. sound_same me.scribe me.writer.desk.shown.value n.desk.shown.value us (drop n.behind n.log.items) (held_back me.held)
          (mark_at me.writer.desk.place) (mark_at n.desk.place) c.self.invariant.3 values.0 values.1 rule),
    )

pub returns-then-not-has_pending_operations-clause-shown : goal.returns-then-not-has_pending_operations-clause-shown
returns-then-not-has_pending_operations-clause-shown g c =
    let me = c.self.inside in
    let us = drop me.writer.behind me.writer.log.items in
    subst (λ (p : Progress). IsAllShown p) c.self.view_is
    (all_shown me.scribe me.writer.desk.shown.value (us ++ held_back me.held) (mark_at me.writer.desk.place) c.self.invariant.3
    (ap (λ (l : List Stamp). l ++ held_back me.held)
    (none_waits us c.has_pending_operations.result c.has_pending_operations.ensures c.if-not-has_pending_operations.true)
    ∙ none_held me.held (sym c.is_some.ensures ∙ c.if-is_some.false)))

pub returns-clause-shown : goal.returns-clause-shown
returns-clause-shown g c =
    let me = c.self.inside in
    let n = c.publish_as-writer.result.0 in
    on_ok _ _ c.publish_as-writer.result.1 c.publish_as-writer.ensures.values
    (λ x values. all_shown me.scribe n.desk.shown.value (drop n.behind n.log.items ++ held_back me.held) (mark_at n.desk.place)
    (invariant_of-publisher g c).3
    (ap (λ (l : List Stamp). l ++ held_back me.held) values.1 ∙ none_held me.held (sym c.is_some.ensures ∙ c.if-is_some.false)))

pub returns-clause-unchanged : goal.returns-clause-unchanged
returns-clause-unchanged g c = on_err _ _ c.publish_as-writer.result.1 c.publish_as-writer.ensures.values
    (λ e values. ap (λ (s : Shown). edition_of s) values.0 ∙ ap (λ (p : Progress). p.shown) c.self.view_is)
