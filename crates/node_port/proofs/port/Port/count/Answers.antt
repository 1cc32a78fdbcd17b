use Rattle.std.proofs.Common.{ℕ, [], ◌++◌, ap, refl, ◌∙◌, string_bytes}
use Rattle.node_port.specs.Commands.{Follows}
use Rattle.node_port.specs.Shown.{Counts, shown_line}
use Rattle.node_port.specs.declared.commands.Command.TheVariants.{Steps}
use Rattle.node_port.specs.declared.port.Standing.TheVariants.{Runs}
use Rattle.node_port.proofs.Growing.{grows_answer}
use Rattle.node_port.proofs.Working.{answers}
use Rattle.node_port.proofs.port.Port.count.Goals as goal

pub returns : goal.returns
returns c =
    let a = c.args.self.now in
    let b = record a { output = record a.output { answers = c.push_steps.new.text } } in
    answers (Follows (Steps c.args.tag)) Runs [] a b refl refl refl
    (grows_answer _ a.output b.output refl
    (c.in_ok-push_steps.ensures ∙ ap (λ (n : ℕ). string_bytes a.output.answers ++ shown_line (Counts c.args.tag n)) c.numbers-steps.ensures.steps))
