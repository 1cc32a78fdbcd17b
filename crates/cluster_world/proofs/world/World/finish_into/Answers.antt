use Rattle.std.proofs.Common.{◌≡◌, None, List, sym, subst}
use Rattle.std.proofs.lemmas.Result.{err_from_is_err_and}
use Rattle.node_core.specs.declared.Answer.{Answer}
use Rattle.cluster_world.specs.WorldState.{WorldState}
use Rattle.cluster_world.specs.Finishing.{next_to_finish}
use Rattle.cluster_world.specs.Seen.{names_of, named}
use Rattle.cluster_world.specs.Settling.{PlaysOn}
use Rattle.cluster_world.proofs.Settling.{plays_still, keeps_on, at_true, at_false}
use Rattle.cluster_world.proofs.Finishing.{finish_plays, finish_more, finish_lowers, finish_ended, more_delivers, more_still}
use Rattle.cluster_world.proofs.world.World.finish_into.Goals as goal

pub returns-in_err-settle_into-clause-made : goal.returns-in_err-settle_into-clause-made
returns-in_err-settle_into-clause-made g c =
    finish_plays c.args.self.now c.settle_into.new.self c.args.answers.now.items c.settle_into.new.answers.items
    c.settle_into.ensures.made

pub returns-in_err-settle_into-clause-waits : goal.returns-in_err-settle_into-clause-waits
returns-in_err-settle_into-clause-waits g c =
    let p = err_from_is_err_and c.from_residual.result c.from_residual.ensures.1 in
    rw p.1 (more_delivers c.settle_into.new.self c.in_err-settle_into.ensures.waits)

pub loop-self-init : goal.loop-self-init
loop-self-init g c = record {
  kept = c.settle_into.ensures.kept;
  made = finish_plays c.args.self.now c.settle_into.new.self c.args.answers.now.items c.settle_into.new.answers.items
      c.settle_into.ensures.made;
  quiet = c.in_ok-settle_into.ensures.settled;
}

pub returns-in_err-retry_into-clause-made : goal.returns-in_err-retry_into-clause-made
returns-in_err-retry_into-clause-made g c =
    subst (λ (l : List Answer). PlaysOn next_to_finish c.args.self.now c.retry_into.new.self c.args.answers.now.items l)
    (sym c.in_err-retry_into.ensures.unanswered)
    (plays_still next_to_finish c.args.self.now c.loop-self.self c.retry_into.new.self c.args.answers.now.items
    c.loop-self.answers.items c.loop-self.invariant.made c.in_err-retry_into.ensures.as_before)

pub returns-in_err-retry_into-clause-waits : goal.returns-in_err-retry_into-clause-waits
returns-in_err-retry_into-clause-waits g c =
    let p = err_from_is_err_and c.from_residual-in_err-retry_into.result c.from_residual-in_err-retry_into.ensures.1 in
    rw p.1 (more_still c.loop-self.self c.retry_into.new.self c.retry_into.ensures.kept c.in_err-retry_into.ensures.as_before
    c.in_err-retry_into.ensures.waits)

pub loop-self-smaller : goal.loop-self-smaller
loop-self-smaller g c =
    finish_lowers c.loop-self.self c.retry_into.ensures.whole c.retry_into.new.self c.settle_into-in-loop-self.new.self
    c.loop-self.answers.items c.retry_into.new.answers.items c.settle_into-in-loop-self.new.answers.items
    c.loop-self.invariant.quiet (at_true _ _ c.in_ok-retry_into.field-0 c.if-branch.true c.in_ok-retry_into.ensures.retried)
    c.retry_into.ensures.kept c.settle_into-in-loop-self.ensures.kept c.settle_into-in-loop-self.ensures.made
    c.in_ok-settle_into-2.ensures.settled

pub loop-self-preserved : goal.loop-self-preserved
loop-self-preserved g c = record {
  kept = keeps_on c.args.self.now c.retry_into.new.self c.settle_into-in-loop-self.new.self
      (keeps_on c.args.self.now c.loop-self.self c.retry_into.new.self c.loop-self.invariant.kept c.retry_into.ensures.kept)
      c.settle_into-in-loop-self.ensures.kept;
  made = finish_more c.args.self.now c.loop-self.self c.retry_into.new.self c.settle_into-in-loop-self.new.self
      c.args.answers.now.items c.loop-self.answers.items c.retry_into.new.answers.items
      c.settle_into-in-loop-self.new.answers.items c.loop-self.invariant.kept c.loop-self.invariant.made
      c.loop-self.invariant.quiet (at_true _ _ c.in_ok-retry_into.field-0 c.if-branch.true c.in_ok-retry_into.ensures.retried)
      c.retry_into.ensures.kept c.settle_into-in-loop-self.ensures.made;
  quiet = c.in_ok-settle_into-2.ensures.settled;
}

pub returns-in_err-settle_into-2-clause-made : goal.returns-in_err-settle_into-2-clause-made
returns-in_err-settle_into-2-clause-made g c =
    finish_more c.args.self.now c.loop-self.self c.retry_into.new.self c.settle_into-in-loop-self.new.self
    c.args.answers.now.items c.loop-self.answers.items c.retry_into.new.answers.items
    c.settle_into-in-loop-self.new.answers.items c.loop-self.invariant.kept c.loop-self.invariant.made
    c.loop-self.invariant.quiet (at_true _ _ c.in_ok-retry_into.field-0 c.if-branch.true c.in_ok-retry_into.ensures.retried)
    c.retry_into.ensures.kept c.settle_into-in-loop-self.ensures.made

pub returns-in_err-settle_into-2-clause-waits : goal.returns-in_err-settle_into-2-clause-waits
returns-in_err-settle_into-2-clause-waits g c =
    let p = err_from_is_err_and c.from_residual-in_err-settle_into-2.result c.from_residual-in_err-settle_into-2.ensures.1 in
    rw p.1 (more_delivers c.settle_into-in-loop-self.new.self c.in_err-settle_into-2.ensures.waits)

pub returns-clause-finished : goal.returns-clause-finished
returns-clause-finished g c =
    let n = at_false _ _ c.in_ok-retry_into.field-0 c.if-branch.false c.in_ok-retry_into.ensures.retried in
    subst (λ (h : WorldState). next_to_finish (names_of h) (named h) ≡ None) (sym n.1)
    (finish_ended c.loop-self.self c.loop-self.invariant.quiet n.0)
