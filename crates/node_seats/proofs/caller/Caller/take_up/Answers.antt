use Rattle.std.proofs.Common.{ℕ, ◌≡◌, ◌∙◌, ◌<◌, length, ap, sym, subst, arith}
use Rattle.shared_table.specs.Readers.{Seen, Hears}
use Rattle.shared_table.specs.Rule.{Token}
use Rattle.shared_table.specs.Told.{told_by}
use Rattle.node_seats.proofs.Telling.{tells, hear_told, learns}
use Rattle.node_seats.proofs.caller.Caller.take_up.Goals as goal

pub hear-requires-clause-book : goal.hear-requires-clause-book
hear-requires-clause-book g c =
    ap (λ (t : Token). t.book) c.in_ok-heard.ensures.seen ∙ (c.in_ok-laid.ensures.stamped ∙ c.args.self.now.same)

pub hear-requires-clause-count : goal.hear-requires-clause-count
hear-requires-clause-count g c = c.in_ok-heard.ensures.held.count_is

pub hear-requires-clause-some : goal.hear-requires-clause-some
hear-requires-clause-some g c = c.in_ok-heard.ensures.held.some

pub hear-requires-clause-long : goal.hear-requires-clause-long
hear-requires-clause-long g c = c.in_ok-heard.ensures.held.long_is

pub returns-clause-told : goal.returns-clause-told
returns-clause-told g c =
    let me = c.args.self.now in
    let heard = c.in_ok-heard.heard in
    tells me.node (told_by (record { ticket = c.args.ticket; outcome = heard.outcome })) heard.seen.log me.reader.seen c.hear.new.self.seen
    (subst (λ (n : ℕ). Hears n heard.seen.log me.reader.seen c.hear.new.self.seen) me.own c.hear.ensures.hears) c.in_ok-heard.ensures.held.held

pub returns-clause-learns : goal.returns-clause-learns
returns-clause-learns g c = learns c.args.self.now.reader.node c.in_ok-heard.heard.seen.log c.args.self.now.reader.seen c.hear.new.self.seen c.hear.ensures.hears

pub invariant_of-self-2 : goal.invariant_of-self-2
invariant_of-self-2 g c =
    let me = c.args.self.now in
    let heard = c.in_ok-heard.heard in
    let hears : Hears me.node heard.seen.log me.reader.seen c.hear.new.self.seen =
    subst (λ (n : ℕ). Hears n heard.seen.log me.reader.seen c.hear.new.self.seen) me.own c.hear.ensures.hears in
    let some : 0 < length heard.seen.log = omega (arith, c.in_ok-heard.ensures.held.some, c.in_ok-heard.ensures.held.count_is) in record {
      shown = hear_told me.node heard.seen.log me.reader.seen c.hear.new.self.seen hears some me.shown;
      own = c.hear.ensures.node ∙ me.own;
      same = ap (λ k. k.book) c.pop.ensures.same ∙ (me.same ∙ sym c.hear.ensures.hears.book);
      counted = me.counted;
    }
