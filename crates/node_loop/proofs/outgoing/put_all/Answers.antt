use Rattle.std.proofs.Common.{ℕ, List, subst}
use Rattle.node_log.specs.declared.Letter.{Letter}
use Rattle.node_loop.proofs.Letters.{Puts, puts_one_more}
use Rattle.node_loop.proofs.outgoing.put_all.Goals as goal

pub loop-to-preserved : goal.loop-to-preserved
loop-to-preserved c =
    puts_one_more c.args.stamp c.args.letters.items c.args.tray.now (c.in-Some.to, c.in-Some.letter)
    c.next.new.self.rest.items c.loop-to.tray c.put_one.new.tray
    (subst
    (λ (left : List (ℕ × Letter)). Puts c.args.stamp c.args.letters.items left c.args.tray.now c.loop-to.tray)
    c.in-Some.ensures.steps.0 c.loop-to.invariant)
    c.in_ok-put_one.ensures.ok
