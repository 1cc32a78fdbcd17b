use Rattle.node_core.proofs.Stepping.{steps_by_copy}
use Rattle.node_loop.proofs.stepping.step.Goals as goal

pub returns-in-Ok-clause-made : goal.returns-in-Ok-clause-made
returns-in-Ok-clause-made g c = steps_by_copy _ _ _ _ _ c.loop.invariant.core c.in-Ok.ensures.made
