use Rattle.std.proofs.Common.{◌≡◌, sym, ◌∙◌, arith}
use Rattle.std.proofs.lemmas.Grind.{common_steps}
use Rattle.boss_order.specs.Boss.{boss_of}
use Rattle.boss_order.proofs.Sets.{greatest-set_of}
use Rattle.boss_order.proofs.order.boss.Goals as goal

pub returns-clause-protocol : goal.returns-clause-protocol
returns-clause-protocol c =
    let value : c.copy.result ≡ boss_of c.args.nodes.now = grind (arith, common_steps) in
    λ n below. value ∙ sym (greatest-set_of n c.args.nodes.now c.len.ensures.set.rising below)
