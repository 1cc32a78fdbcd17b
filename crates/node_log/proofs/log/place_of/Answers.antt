use Rattle.std.proofs.Common.{ap, sym, ◌∙◌, Some, ℕ}
use Rattle.node_log.proofs.Answers.{placed}
use Rattle.node_log.proofs.log.place_of.Goals as goal

pub returns : goal.returns
returns c = placed c.args.nodes.now c.in-Ok.place c.args.node.now (sym c.position.ensures ∙ (c.in_ok-place.was ∙ ap (λ (k : ℕ). Some k) (sym c.in-Ok.ensures.1)))
