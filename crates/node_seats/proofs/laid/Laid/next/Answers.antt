use Rattle.std.proofs.Common.{◌≡◌, ◌∙◌, ◌<◌, List, [], ◌∷◌, length, All, ap, sym, subst, arith}
use Rattle.std.specs.Prelude.{Contains}
use Rattle.std.proofs.lemmas.List.Elements.{All-nil, All-head, All-rest}
use Rattle.shared_table.specs.declared.Edition.{Edition}
use Rattle.shared_table.specs.declared.Moment.{Moment}
use Rattle.shared_table.specs.Moments.{shown_at}
use Rattle.shared_table.specs.Told.{told_by}
use Rattle.node_seats.specs.Replies.{replies_at}
use Rattle.node_seats.proofs.Coming.{handed_out, by_handing_out, by_nothing}
use Rattle.node_seats.proofs.Telling.{some_held}
use Rattle.node_seats.proofs.laid.Laid.next.Goals as goal

pub returns-clause-came : goal.returns-clause-came
returns-clause-came g c =
    handed_out c.args.node.now.log.node c.args.node.now c.next_reply.new.self (told_by c.in_ok-reply.reply) c.requires.came
    c.in_ok-reply.ensures.oldest c.next_reply.ensures.rest

pub returns-clause-comes : goal.returns-clause-comes
returns-clause-comes g c =
    by_handing_out c.args.node.now c.next_reply.new.self (told_by c.in_ok-reply.reply) c.in_ok-reply.ensures.oldest c.next_reply.ensures.rest

pub returns-in_err-reply-clause-comes : goal.returns-in_err-reply-clause-comes
returns-in_err-reply-clause-comes g c = by_nothing c.args.node.now c.next_reply.new.self c.in_err-reply.ensures.oldest c.next_reply.ensures.rest

pub returns-clause-held : goal.returns-clause-held
returns-clause-held g c = All-rest (Contains (replies_at c.args.publisher.now.known.log)) (told_by c.in_ok-reply.reply) c.next_reply.new.self.desk.replies
    c.args.node.now.desk.replies c.in_ok-reply.ensures.oldest c.requires.held

pub returns-in_err-reply-clause-held : goal.returns-in_err-reply-clause-held
returns-in_err-reply-clause-held g c = subst (All (Contains (replies_at c.args.publisher.now.known.log))) (sym c.in_err-reply.ensures.oldest.1)
    (All-nil (Contains (replies_at c.args.publisher.now.known.log)))

pub invariant_of-result : goal.invariant_of-result
invariant_of-result g c =
    let log = c.args.publisher.now.known.log in
    let told = told_by c.in_ok-reply.reply in
    let held : Contains (replies_at log) told = All-head (Contains (replies_at log)) told c.next_reply.new.self.desk.replies
    (subst (All (Contains (replies_at log))) c.in_ok-reply.ensures.oldest c.requires.held) in
    let some : 0 < length log = some_held log told held in record {
      held = subst (λ (ms : List Moment). Contains (replies_at ms) told) (sym c.token.ensures.log) held;
      count_is = c.count.ensures ∙ ap (λ (ms : List Moment). length ms) (sym c.token.ensures.log);
      some = omega (arith, some, c.count.ensures);
      long_is = c.shown_length.ensures ∙ (ap (λ (e : Edition). e.length) c.requires.shown
          ∙ ap (λ (ms : List Moment). (shown_at ms).length) (sym c.token.ensures.log));
    }
