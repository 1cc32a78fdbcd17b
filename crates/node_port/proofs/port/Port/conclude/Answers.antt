use Rattle.std.proofs.Common.{refl, ap, ◌∙◌}
use Rattle.node_port.specs.Shown.{Spends}
use Rattle.node_port.specs.Working.{stands_behind}
use Rattle.node_port.proofs.Growing.{grows_answer}
use Rattle.node_port.proofs.Working.{concludes_made, concludes_spent}
use Rattle.node_port.proofs.port.Port.conclude.Goals as goal

pub returns-in-Ok : goal.returns-in-Ok
returns-in-Ok c =
    concludes_made c.args.outcome _ c.standing_of.result c.args.self.now c.in-Ok.is (c.standing_of.ensures ∙ ap stands_behind c.has_left.ensures)

pub returns-in_ok-push_spent-in-Err-StampsSpent : goal.returns-in_ok-push_spent-in-Err-StampsSpent
returns-in_ok-push_spent-in-Err-StampsSpent c =
    let a = c.args.self.now in
    let b = record a { output = record a.output { answers = c.push_spent.new.text } } in
    concludes_spent c.args.outcome c.in-Err-StampsSpent.field-0 a b c.in-Err-StampsSpent.is (rw c.in-Err-StampsSpent.is at c.in-Err-StampsSpent.field-0-is)
    refl (grows_answer Spends a.output b.output refl c.in_ok-push_spent-in-Err-StampsSpent.ensures)
