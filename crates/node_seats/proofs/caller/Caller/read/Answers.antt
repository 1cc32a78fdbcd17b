use Rattle.std.proofs.Common.{ℕ, ◌∙◌, sym, subst}
use Rattle.shared_table.specs.Readers.{Finds}
use Rattle.node_seats.proofs.ShownLengths.{still_told, same_book}
use Rattle.node_seats.proofs.caller.Caller.read.Goals as goal

pub returns-clause-finds : goal.returns-clause-finds
returns-clause-finds c = subst
    (λ (n : ℕ). Finds c.whereis.result n c.args.name.now c.args.self.now.reader.seen c.whereis.new.self.seen) c.args.self.now.own c.whereis.ensures.finds

pub invariant_of-self : goal.invariant_of-self
invariant_of-self c = record {
  shown = still_told c.whereis.result c.args.self.now.node c.args.name.now c.args.self.now.reader.seen c.whereis.new.self.seen
      (subst (λ (n : ℕ). Finds c.whereis.result n c.args.name.now c.args.self.now.reader.seen c.whereis.new.self.seen)
      c.args.self.now.own c.whereis.ensures.finds)
      c.args.self.now.shown;
  own = c.whereis.ensures.node ∙ c.args.self.now.own;
  same = c.args.self.now.same
      ∙ sym (same_book c.whereis.result c.args.self.now.reader.node c.args.name.now c.args.self.now.reader.seen c.whereis.new.self.seen
      c.whereis.ensures.finds);
  counted = c.args.self.now.counted;
}
