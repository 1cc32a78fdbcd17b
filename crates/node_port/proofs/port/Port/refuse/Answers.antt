use Rattle.std.proofs.Common.{[], refl}
use Rattle.std.proofs.lemmas.Result.{on_ok_weaker}
use Rattle.node_port.specs.Commands.{Refused}
use Rattle.node_port.specs.Shown.{Refuses}
use Rattle.node_port.specs.declared.port.Standing.TheVariants.{Runs}
use Rattle.node_port.proofs.Growing.{grows_answer}
use Rattle.node_port.proofs.Working.{answers}
use Rattle.node_port.proofs.port.Port.refuse.Goals as goal

pub returns : goal.returns
returns c =
    let a = c.args.self.now in
    let r = c.args.refused.now in
    let b = record a { output = record a.output { answers = c.push_refusal.new.text } } in
    on_ok_weaker c.push_refusal.result
    (λ e. answers (Refused r.tag r.fault) Runs [] a b refl refl refl (grows_answer (Refuses r.tag r.fault) a.output b.output refl e))
    c.push_refusal.ensures
