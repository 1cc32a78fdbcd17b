use Rattle.std.proofs.Common.{◌≡◌, ◌++◌, refl, ap, ◌∙◌, string_bytes}
use Rattle.std.proofs.lemmas.Result.{on_ok_weaker}
use Rattle.node_port.specs.Edits.{Stood}
use Rattle.node_port.specs.Shown.{Shown, Stands, shown_line}
use Rattle.node_port.proofs.Growing.{grows_change}
use Rattle.node_port.proofs.port.Port.show_state.Goals as goal

pub returns-clause-shown : goal.returns-clause-shown
returns-clause-shown c =
    let a = c.args.self.now in
    let b = record a.output { changes = c.push_state.new.text } in
    let now : Shown = Stands a.node.core.joined a.node.core.members in
    let same : Stands c.is_joined-self.result c.copy-self.result ≡ now
    = λ i. Stands (c.is_joined-self.ensures i) ((c.copy-self.ensures ∙ c.members.ensures) i) in
    on_ok_weaker c.push_state.result
    (λ e. grows_change (Stood a.node.core.joined a.node.core.members) now a.output b refl
    (e ∙ ap (λ (s : Shown). string_bytes a.output.changes ++ shown_line s) same) refl)
    c.push_state.ensures
