use Rattle.std.proofs.Common.{sym, subst, arith}
use Rattle.cluster_world.specs.Restarting.{CanReplace, replaced_in}
use Rattle.cluster_world.proofs.Replaced.{at_drop, done_more, left_more}
use Rattle.cluster_world.proofs.world.replace_in.Goals as goal

pub replace_one-requires-clause-told : goal.replace_one-requires-clause-told
replace_one-requires-clause-told g c =
    subst (CanReplace c.args.departed.now c.args.older.now)
    (sym (at_drop c.loop-core.cores c.args.cores.now c.loop-core.core-index c.core-item.result c.loop-core.invariant.left))
    (c.requires.told c.loop-core.core-index c.core-item.result (omega (arith, c.loop-core-test.true, c.loop-core.auto.cores)))

pub loop-core-preserved : goal.loop-core-preserved
loop-core-preserved g c = record {
  done = done_more (replaced_in c.args.departed.now c.args.older.now c.args.next.now) c.loop-core.cores c.args.cores.now
      c.loop-core.core-index c.core-item.result c.replace_one.new.core (omega (arith, c.loop-core-test.true, c.loop-core.auto.cores))
      (omega (arith, c.loop-core-test.true, c.loop-core.auto.cores)) c.loop-core.invariant.done c.loop-core.invariant.left
      c.replace_one.ensures;
  left = left_more (replaced_in c.args.departed.now c.args.older.now c.args.next.now) c.loop-core.cores c.args.cores.now
      c.loop-core.core-index c.core-item.result c.replace_one.new.core (omega (arith, c.loop-core-test.true, c.loop-core.auto.cores))
      (omega (arith, c.loop-core-test.true, c.loop-core.auto.cores)) c.loop-core.invariant.done c.loop-core.invariant.left
      c.replace_one.ensures;
}
