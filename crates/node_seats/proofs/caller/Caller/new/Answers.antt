use Rattle.std.proofs.Common.{ℕ, length, sym, ◌∙◌, ap, subst}
use Rattle.shared_table.specs.declared.Item.{Item}
use Rattle.shared_table.specs.Readers.{Placed}
use Rattle.node_seats.specs.Addresses.{Reached}
use Rattle.node_seats.specs.Lines.{Sent, events_on}
use Rattle.node_seats.specs.Replies.{HasShown}
use Rattle.node_seats.proofs.ShownLengths.{nothing_told}
use Rattle.node_seats.proofs.caller.Caller.new.Goals as goal

pub invariant_of-result : goal.invariant_of-result
invariant_of-result c = record {
  shown = subst (λ (r : Placed). HasShown c.copy.result r.seen.told) (sym c.requires.reader) (nothing_told c.copy.result);
  own = ap (λ (r : Placed). r.node) c.requires.reader
      ∙ sym (c.copy.ensures ∙ (c.receiver.ensures ∙ (ap (λ (l : Sent Item). l.receiver) c.in_ok-line.ensures.ok
      ∙ ap (λ (a : Reached Item). a.node) c.slot.ensures.same)));
  same = c.in_ok-replies.ensures.slot ∙ sym (ap (λ (r : Placed). r.seen.known.book) c.requires.reader);
  counted = ap (λ (l : Sent Item). length (events_on l)) (sym c.in_ok-line.ensures.ok);
}
