use Rattle.std.proofs.Common.{List, subst}
use Rattle.getting_through.specs.NamedScript.{next_named}
use Rattle.node_core.specs.declared.Answer.{Answer}
use Rattle.cluster_world.specs.Settling.{PlaysOn}
use Rattle.cluster_world.specs.Whole.{IsWhole}
use Rattle.cluster_world.proofs.Settling.{goes_on, settles}
use Rattle.cluster_world.proofs.world.World.settle.Goals as goal

pub returns-in-Ok-clause-settled : goal.returns-in-Ok-clause-settled
returns-in-Ok-clause-settled g c =
    settles c.args.self.now c.settle_into.new.self c.settle_into.new.answers.items (subst IsWhole c.self.view_is c.self.invariant)
    c.settle_into.ensures.kept
    (subst (λ (l : List Answer). PlaysOn next_named c.args.self.now c.settle_into.new.self l c.settle_into.new.answers.items)
    c.new-answers.ensures.items c.settle_into.ensures.made)
    c.in-Ok.ensures.settled

pub returns-in-Err-clause-stopped : goal.returns-in-Err-clause-stopped
returns-in-Err-clause-stopped g c = record {
  goes_on = goes_on next_named c.args.self.now c.settle_into.new.self c.settle_into.new.answers.items c.settle_into.ensures.kept
      (subst (λ (l : List Answer). PlaysOn next_named c.args.self.now c.settle_into.new.self l c.settle_into.new.answers.items)
      c.new-answers.ensures.items c.settle_into.ensures.made);
  waits = c.in-Err.ensures.waits;
}
