use Rattle.std.proofs.Common.{List, subst}
use Rattle.node_core.specs.declared.Answer.{Answer}
use Rattle.cluster_world.specs.Finishing.{next_to_finish}
use Rattle.cluster_world.specs.Settling.{PlaysOn}
use Rattle.cluster_world.proofs.Settling.{goes_on}
use Rattle.cluster_world.proofs.Finishing.{finishes}
use Rattle.cluster_world.proofs.world.World.finish.Goals as goal

pub returns-in-Ok-clause-finished : goal.returns-in-Ok-clause-finished
returns-in-Ok-clause-finished g c =
    finishes c.args.self.now c.finish_into.new.self c.finish_into.new.answers.items c.finish_into.ensures.kept
    (subst (λ (l : List Answer). PlaysOn next_to_finish c.args.self.now c.finish_into.new.self l c.finish_into.new.answers.items)
    c.new-answers.ensures.items c.finish_into.ensures.made)
    c.in-Ok.ensures.finished

pub returns-in-Err-clause-stopped : goal.returns-in-Err-clause-stopped
returns-in-Err-clause-stopped g c = record {
  goes_on = goes_on next_to_finish c.args.self.now c.finish_into.new.self c.finish_into.new.answers.items c.finish_into.ensures.kept
      (subst (λ (l : List Answer). PlaysOn next_to_finish c.args.self.now c.finish_into.new.self l c.finish_into.new.answers.items)
      c.new-answers.ensures.items c.finish_into.ensures.made);
  waits = c.in-Err.ensures.waits;
}
