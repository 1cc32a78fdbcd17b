use Rattle.std.proofs.Common.{◌≤◌, refl, sym, ap, subst, arith, List, length}
use Rattle.std.proofs.lemmas.Bool.Decides.{nat_tests}
use mathlib.Core.List.{IsPrefix}
use Rattle.node_books.specs.declared.moment.Moment.{Moment}
use Rattle.node_books.specs.Moments.{shown_at}
use Rattle.node_books.proofs.Beginnings.{prefix_trans}
use Rattle.shared_table.specs.Readers.{Placed}
use Rattle.shared_table.proofs.Reading.{hears_new, hears_old, reads_new, reads_old, old_shows}
use Rattle.shared_table.proofs.reader.TableReader.hear.Goals as goal

pub returns-then-self-count-clause-hears : goal.returns-then-self-count-clause-hears
returns-then-self-count-clause-hears c =
    let me = c.self.inside.seen.log in
    let got = c.args.seen.log in
    let home = c.self.inside.home.log in
    let both = c.learn-2.new.self.log in
    let first : IsPrefix home c.learn.new.self.log = subst (λ (l : List Moment). IsPrefix l c.learn.new.self.log) c.token-both.ensures.log c.learn.ensures.2 in
    let begins : IsPrefix home both = prefix_trans home c.learn.new.self.log both first c.learn-2.ensures.2 in
    let mine : IsPrefix me both = prefix_trans me c.learn.new.self.log both c.learn.ensures.3 c.learn-2.ensures.2 in
    let less : length me ≤ length got = grind (arith, nat_tests, c.if-self-count.true, c.self.invariant.1, c.requires.count) in
    hears_new home me got both begins mine c.learn-2.ensures.3 c.learn-2.ensures.4.1.moments c.self.invariant.6 c.args.self.now.node
    (ap (λ (p : Placed). p.node) c.self.view_is) c.args.self.now.seen _ c.requires.book (ap (λ (p : Placed). p.seen.known.log) (sym c.self.view_is))
    (omega (arith, c.requires.some, c.requires.count))
    (omega (arith, c.max-self-inside.ensures, c.requires.long, ap (λ (p : Placed). p.seen.told) c.self.view_is)) less (λ i. got)

pub returns-else-self-count-clause-hears : goal.returns-else-self-count-clause-hears
returns-else-self-count-clause-hears c =
    let me = c.self.inside.seen.log in
    let got = c.args.seen.log in
    let home = c.self.inside.home.log in
    let both = c.learn-2.new.self.log in
    let first : IsPrefix home c.learn.new.self.log = subst (λ (l : List Moment). IsPrefix l c.learn.new.self.log) c.token-both.ensures.log c.learn.ensures.2 in
    let begins : IsPrefix home both = prefix_trans home c.learn.new.self.log both first c.learn-2.ensures.2 in
    let mine : IsPrefix me both = prefix_trans me c.learn.new.self.log both c.learn.ensures.3 c.learn-2.ensures.2 in
    let less : length got ≤ length me = grind (arith, nat_tests, c.if-self-count.false, c.self.invariant.1, c.requires.count) in
    hears_old home me got both begins mine c.learn-2.ensures.3 c.learn-2.ensures.4.1.moments c.self.invariant.6 c.args.self.now.node
    (ap (λ (p : Placed). p.node) c.self.view_is) c.args.self.now.seen _ (ap (λ (p : Placed). p.seen.known.book) c.self.view_is)
    (ap (λ (p : Placed). p.seen.known.log) (sym c.self.view_is)) (omega (arith, c.requires.some, c.requires.count))
    (omega (arith, c.max-self-inside.ensures, c.requires.long, ap (λ (p : Placed). p.seen.told) c.self.view_is)) less (λ i. me)

pub returns-then-self-count-clause-reads : goal.returns-then-self-count-clause-reads
returns-then-self-count-clause-reads c =
    let me = c.self.inside.seen.log in
    let got = c.args.seen.log in
    let home = c.self.inside.home.log in
    let both = c.learn-2.new.self.log in
    let first : IsPrefix home c.learn.new.self.log = subst (λ (l : List Moment). IsPrefix l c.learn.new.self.log) c.token-both.ensures.log c.learn.ensures.2 in
    let begins : IsPrefix home both = prefix_trans home c.learn.new.self.log both first c.learn-2.ensures.2 in
    let mine : IsPrefix me both = prefix_trans me c.learn.new.self.log both c.learn.ensures.3 c.learn-2.ensures.2 in
    let less : length me ≤ length got = grind (arith, nat_tests, c.if-self-count.true, c.self.invariant.1, c.requires.count) in
    λ late. reads_new home me got both begins mine c.learn-2.ensures.3 c.learn-2.ensures.4.1.moments c.self.invariant.6 c.args.self.now.node
    (ap (λ (p : Placed). p.node) c.self.view_is) c.args.self.now.seen _ c.requires.book (ap (λ (p : Placed). p.seen.known.log) (sym c.self.view_is))
    (omega (arith, c.requires.some, c.requires.count))
    (omega (arith, c.max-self-inside.ensures, c.requires.long, ap (λ (p : Placed). p.seen.told) c.self.view_is, late)) (omega (arith, late, c.requires.long)) less (λ i. got)

pub returns-else-self-count-clause-reads : goal.returns-else-self-count-clause-reads
returns-else-self-count-clause-reads c =
    let me = c.self.inside.seen.log in
    let got = c.args.seen.log in
    let home = c.self.inside.home.log in
    let both = c.learn-2.new.self.log in
    let first : IsPrefix home c.learn.new.self.log = subst (λ (l : List Moment). IsPrefix l c.learn.new.self.log) c.token-both.ensures.log c.learn.ensures.2 in
    let begins : IsPrefix home both = prefix_trans home c.learn.new.self.log both first c.learn-2.ensures.2 in
    let mine : IsPrefix me both = prefix_trans me c.learn.new.self.log both c.learn.ensures.3 c.learn-2.ensures.2 in
    let less : length got ≤ length me = grind (arith, nat_tests, c.if-self-count.false, c.self.invariant.1, c.requires.count) in
    let held : (shown_at me).length ≤ c.args.self.now.seen.told = subst (λ (p : Placed). (shown_at me).length ≤ p.seen.told) c.self.view_is c.self.invariant.2 in
    λ late. reads_old home me got both begins mine c.learn-2.ensures.3 c.learn-2.ensures.4.1.moments c.self.invariant.6 c.args.self.now.node
    (ap (λ (p : Placed). p.node) c.self.view_is) c.args.self.now.seen _ (ap (λ (p : Placed). p.seen.known.book) c.self.view_is)
    (ap (λ (p : Placed). p.seen.known.log) (sym c.self.view_is)) (omega (arith, c.requires.some, c.requires.count))
    (omega (arith, c.max-self-inside.ensures, c.requires.long, ap (λ (p : Placed). p.seen.told) c.self.view_is, late)) (omega (arith, late, c.requires.long)) less held (λ i. me)

pub returns-then-self-count-clause-shows : goal.returns-then-self-count-clause-shows
returns-then-self-count-clause-shows c = λ late. refl

pub returns-else-self-count-clause-shows : goal.returns-else-self-count-clause-shows
returns-else-self-count-clause-shows c =
    let me = c.self.inside.seen.log in
    let got = c.args.seen.log in
    let both = c.learn-2.new.self.log in
    let mine : IsPrefix me both = prefix_trans me c.learn.new.self.log both c.learn.ensures.3 c.learn-2.ensures.2 in
    let less : length got ≤ length me = grind (arith, nat_tests, c.if-self-count.false, c.self.invariant.1, c.requires.count) in
    let held : (shown_at me).length ≤ c.args.self.now.seen.told = subst (λ (p : Placed). (shown_at me).length ≤ p.seen.told) c.self.view_is c.self.invariant.2 in
    λ late. old_shows me got both mine c.learn-2.ensures.3 c.learn-2.ensures.4.1.moments less (omega (arith, c.requires.some, c.requires.count))
    (omega (arith, held, late, c.requires.long))
