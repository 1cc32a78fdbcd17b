use Rattle.std.proofs.Common.{◌≡◌, ◌+◌, ◌∙◌, not, false, drop, Option, Some, [], ◌∷◌, ◌++◌, length, sym, ap, subst, arith, length-append}
use Rattle.node_books.specs.declared.Update.{Update}
use Rattle.node_books.specs.Owing.{Owes, TakesUpdate}
use Rattle.node_books.specs.Books.{Known}
use Rattle.node_books.specs.Moments.{moment, Follows, shown_at}
use Rattle.node_books.proofs.Taking.{took_follows, owed_whole, owes_whole, by_handing_over, follows_on, shown_behind}
use Rattle.shared_table.specs.declared.shown.Stamp.{Stamp}
use Rattle.shared_table.specs.Publishing.{Progress, Publishes, held_back}
use Rattle.shared_table.specs.Rule.{mark_at}
use Rattle.shared_table.proofs.Publishing.{sound_written, when_ok, when_err}
use Rattle.shared_table.proofs.Noting.{follows_as, follows_noted}
use Rattle.shared_table.proofs.publisher.Publisher.note.Goals as goal

pub add-requires : goal.add-requires
add-requires g c =
    let a = c.args.node.now in
    let b = c.next_update.new.self in
    let taken : TakesUpdate (Some c.in-Some.update) a b = subst (λ (o : Option Update). TakesUpdate o a b) c.in-Some.is c.in_ok-update.ensures.ok in
    let req = subst (λ (p : Progress). Publishes a p) (sym c.self.view_is) c.requires in
    took_follows a b c.in-Some.update taken c.self.inside.scribe.log req.0 req.1

pub returns-then-is_err-clause-follows : goal.returns-then-is_err-clause-follows
returns-then-is_err-clause-follows g c =
    let ms = c.self.inside.scribe.log in
    let a = c.args.node.now in
    let b = c.next_update.new.self in
    let z = c.owe_whole.new.self in
    let taken : TakesUpdate (Some c.in-Some.update) a b = subst (λ (o : Option Update). TakesUpdate o a b) c.in-Some.is c.in_ok-update.ensures.ok in
    let req = subst (λ (p : Progress). Publishes a p) (sym c.self.view_is) c.requires in
    let owes : Owes z (shown_at ms) = owes_whole a b c.in-Some.update taken z c.owe_whole.ensures (shown_at ms) req.1 in
    let came : Follows ms z = follows_on ms a z req.0 (by_handing_over a z (owed_whole a b c.in-Some.update taken z c.owe_whole.ensures)) owes in
    follows_as z c.self.inside.scribe c.add.new.self
    (when_err c.add.result _ c.add.ensures.unchanged (sym c.is_err.ensures.value ∙ c.if-is_err.true)) (came, owes)

pub invariant_of-self-then-is_some-2 : goal.invariant_of-self-then-is_some-2
invariant_of-self-then-is_some-2 g c =
    let me = c.self.inside in
    let a = c.args.node.now in
    let b = c.next_update.new.self in
    let one = c.put_in.new.writer in
    let two = c.append.new.writer in
    let taken : TakesUpdate (Some c.in-Some.update) a b = subst (λ (o : Option Update). TakesUpdate o a b) c.in-Some.is c.in_ok-update.ensures.ok in
    let req = subst (λ (p : Progress). Publishes a p) (sym c.self.view_is) c.requires in
    let s : Stamp = record { update = c.in-Some.update; seen = c.token.result; count = me.count + 1 } in
    let added : c.add.new.self ≡ record me.scribe { log = me.scribe.log ++ moment false b ∷ [] } =
    when_ok c.add.result _ c.add.ensures.ok (c.is_err.ensures.negation ∙ ap not c.if-is_err.false) in (
      omega (arith, c.self.invariant.0, ap (λ (k : Known). length k.log) added, length-append me.scribe.log (moment false b ∷ [])),
      c.self.invariant.1 ∙ sym (ap (λ (k : Known). k.book) added),
      c.self.invariant.2,
      sound_written me.scribe c.add.new.self me.writer.desk.shown.value one.desk.shown.value two.desk.shown.value
          (drop me.writer.behind me.writer.log.items) (drop one.behind one.log.items) (drop two.behind two.log.items) me.held c.put_in.result
          c.append.result (mark_at me.writer.desk.place) (mark_at one.desk.place) (mark_at two.desk.place) b s c.self.invariant.3
          (ap (λ d. d.shown.value) c.put_in.ensures.desk)
          (c.put_in.ensures.waiting ∙ ap (λ (o : Option Stamp). drop me.writer.behind me.writer.log.items ++ held_back o) c.take-held.ensures.value)
          (ap (λ d. mark_at d.place) c.put_in.ensures.desk) (sym c.is_some.ensures ∙ c.if-is_some.false) added c.token.ensures.book c.token.ensures.log
          (ap (λ n. n + 1) c.self.invariant.0) (taken.2 (shown_at me.scribe.log) req.1).0 (ap (λ d. d.shown.value) c.append.ensures.desk)
          c.append.ensures.waiting (ap (λ d. mark_at d.place) c.append.ensures.desk),
    )

pub returns-then-is_some-2-clause-follows : goal.returns-then-is_some-2-clause-follows
returns-then-is_some-2-clause-follows g c =
    let me = c.self.inside in
    let a = c.args.node.now in
    let b = c.next_update.new.self in
    let taken : TakesUpdate (Some c.in-Some.update) a b = subst (λ (o : Option Update). TakesUpdate o a b) c.in-Some.is c.in_ok-update.ensures.ok in
    let req = subst (λ (p : Progress). Publishes a p) (sym c.self.view_is) c.requires in
    follows_noted a b c.in-Some.update taken me.scribe c.add.new.self req.1
    (when_ok c.add.result _ c.add.ensures.ok (c.is_err.ensures.negation ∙ ap not c.if-is_err.false))

pub invariant_of-self-2 : goal.invariant_of-self-2
invariant_of-self-2 g c =
    let me = c.self.inside in
    let a = c.args.node.now in
    let b = c.next_update.new.self in
    let one = c.put_in.new.writer in
    let two = c.append.new.writer in
    let taken : TakesUpdate (Some c.in-Some.update) a b = subst (λ (o : Option Update). TakesUpdate o a b) c.in-Some.is c.in_ok-update.ensures.ok in
    let req = subst (λ (p : Progress). Publishes a p) (sym c.self.view_is) c.requires in
    let s : Stamp = record { update = c.in-Some.update; seen = c.token.result; count = me.count + 1 } in
    let added : c.add.new.self ≡ record me.scribe { log = me.scribe.log ++ moment false b ∷ [] } =
    when_ok c.add.result _ c.add.ensures.ok (c.is_err.ensures.negation ∙ ap not c.if-is_err.false) in (
      omega (arith, c.self.invariant.0, ap (λ (k : Known). length k.log) added, length-append me.scribe.log (moment false b ∷ [])),
      c.self.invariant.1 ∙ sym (ap (λ (k : Known). k.book) added),
      c.self.invariant.2,
      sound_written me.scribe c.add.new.self me.writer.desk.shown.value one.desk.shown.value two.desk.shown.value
          (drop me.writer.behind me.writer.log.items) (drop one.behind one.log.items) (drop two.behind two.log.items) me.held c.put_in.result
          c.append.result (mark_at me.writer.desk.place) (mark_at one.desk.place) (mark_at two.desk.place) b s c.self.invariant.3
          (ap (λ d. d.shown.value) c.put_in.ensures.desk)
          (c.put_in.ensures.waiting ∙ ap (λ (o : Option Stamp). drop me.writer.behind me.writer.log.items ++ held_back o) c.take-held.ensures.value)
          (ap (λ d. mark_at d.place) c.put_in.ensures.desk) (sym c.is_some.ensures ∙ c.if-is_some.false) added c.token.ensures.book c.token.ensures.log
          (ap (λ n. n + 1) c.self.invariant.0) (taken.2 (shown_at me.scribe.log) req.1).0 (ap (λ d. d.shown.value) c.append.ensures.desk)
          c.append.ensures.waiting (ap (λ d. mark_at d.place) c.append.ensures.desk),
    )

pub returns-clause-ok : goal.returns-clause-ok
returns-clause-ok g c =
    let me = c.self.inside in
    let b = c.next_update.new.self in
    let added : c.add.new.self ≡ record me.scribe { log = me.scribe.log ++ moment false b ∷ [] } =
    when_ok c.add.result _ c.add.ensures.ok (c.is_err.ensures.negation ∙ ap not c.if-is_err.false) in
    ap (λ (k : Known). shown_at k.log) added ∙ shown_behind me.scribe.log b

pub returns-clause-follows : goal.returns-clause-follows
returns-clause-follows g c =
    let me = c.self.inside in
    let a = c.args.node.now in
    let b = c.next_update.new.self in
    let taken : TakesUpdate (Some c.in-Some.update) a b = subst (λ (o : Option Update). TakesUpdate o a b) c.in-Some.is c.in_ok-update.ensures.ok in
    let req = subst (λ (p : Progress). Publishes a p) (sym c.self.view_is) c.requires in
    follows_noted a b c.in-Some.update taken me.scribe c.add.new.self req.1
    (when_ok c.add.result _ c.add.ensures.ok (c.is_err.ensures.negation ∙ ap not c.if-is_err.false))

pub returns-clause-written : goal.returns-clause-written
returns-clause-written g c =
    let me = c.self.inside in
    let b = c.next_update.new.self in
    let added : c.add.new.self ≡ record me.scribe { log = me.scribe.log ++ moment false b ∷ [] } =
    when_ok c.add.result _ c.add.ensures.ok (c.is_err.ensures.negation ∙ ap not c.if-is_err.false) in
    (me.scribe.log, ap (λ (k : Known). k.log) added)
