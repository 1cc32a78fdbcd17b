use Rattle.std.proofs.Common.{None, [], ◌∷◌, refl, subst}
use Rattle.command_lines.specs.declared.faults.LineFault.{LineFault}
use Rattle.node_port.specs.Shown.{Refuses}
use Rattle.node_port.specs.Working.{Grows}
use Rattle.node_port.proofs.Growing.{grows_answer}
use Rattle.node_port.proofs.port.Port.refuse_part.Goals as goal

pub returns-in_ok-push_refusal-in_default-clause-refused : goal.returns-in_ok-push_refusal-in_default-clause-refused
returns-in_ok-push_refusal-in_default-clause-refused c = λ from number.
    let a = c.args.self.now in
    let b = record a { output = record a.output { answers = c.push_refusal.new.text } } in (
      refl,
      c.in_default.not-Memory,
      subst (λ (f : LineFault). Grows [] (Refuses None f ∷ []) a.output b.output) c.line_fault.ensures
          (grows_answer (Refuses None c.line_fault.result) a.output b.output refl c.in_ok-push_refusal-in_default.ensures),
    )
