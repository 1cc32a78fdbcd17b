use Rattle.std.proofs.lemmas.Result.{err_from_is_err_and}
use Rattle.cluster_world.proofs.Settling.{next_still, delivers_more, keeps_on, at_true, at_false}
use Rattle.cluster_world.proofs.world.World.settle_into.Goals as goal

pub returns-in_err-deliver_into-clause-waits : goal.returns-in_err-deliver_into-clause-waits
returns-in_err-deliver_into-clause-waits g c =
    let p = err_from_is_err_and c.from_residual.result c.from_residual.ensures.1 in
    rw p.1 (next_still c.loop.self c.deliver_into.new.self c.deliver_into.ensures.kept c.in_err-deliver_into.ensures.as_before
    c.in_err-deliver_into.ensures.waits)

pub loop-preserved : goal.loop-preserved
loop-preserved g c = record {
  kept = keeps_on c.args.self.now c.loop.self c.deliver_into.new.self c.loop.invariant.kept c.deliver_into.ensures.kept;
  made = delivers_more c.args.self.now c.loop.self c.deliver_into.new.self c.args.answers.now.items c.loop.answers.items
      c.deliver_into.new.answers.items c.loop.invariant.kept c.loop.invariant.made
      (at_true _ _ c.in_ok-deliver_into.field-0 c.if-branch.true c.in_ok-deliver_into.ensures.delivered);
}

pub returns-clause-settled : goal.returns-clause-settled
returns-clause-settled g c =
    let n = at_false _ _ c.in_ok-deliver_into.field-0 c.if-branch.false c.in_ok-deliver_into.ensures.delivered in
    rw n.1 n.0
