use Rattle.std.proofs.Common.{List, ap, subst, arith}
use mathlib.Core.List.{IsPrefix}
use Rattle.node_books.specs.declared.moment.Moment.{Moment}
use Rattle.shared_table.specs.Readers.{Placed}
use Rattle.shared_table.proofs.Reading.{from_some, is_behind}
use Rattle.shared_table.proofs.reader.TableReader.whereis.Goals as goal

pub returns-then-length-self-clause-finds : goal.returns-then-length-self-clause-finds
returns-then-length-self-clause-finds c =
    let home = c.self.inside.home.log in
    let got = c.in-Some-entry.field-0.seen.log in
    let both = c.learn.new.self.log in
    let begins : IsPrefix home both = subst (λ (l : List Moment). IsPrefix l both) c.token-both.ensures.log c.learn.ensures.2 in
    let found = (from_some _ _ c.enter-reader.result.1 c.in-Some-entry.field-0 c.in-Some-entry.is c.enter-reader.ensures.found).0 in
    is_behind home got both begins c.learn.ensures.3 c.learn.ensures.4.1.moments c.self.invariant.6 (omega (arith, found.some, found.count))
    c.args.self.now.node (ap (λ (p : Placed). p.node) c.self.view_is) c.args.self.now.seen _ (ap (λ (p : Placed). p.seen) c.self.view_is)
    (omega (arith, c.if-length-self.true, found.long, ap (λ (p : Placed). p.seen.told) c.self.view_is))
