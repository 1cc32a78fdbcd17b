use Rattle.std.proofs.Common.{◌≡◌, ◌+◌, ◌++◌, ◌∷◌, [], List, subst, take}
use Rattle.std.proofs.lemmas.List.{take_more}
use Rattle.registry_model.specs.Process.{Process}
use Rattle.console.specs.Consoles.{Exits}
use Rattle.console.proofs.Leaving.{Exits-push}
use Rattle.console.proofs.answering.exit_all.Goals as goal

pub loop-process-preserved : goal.loop-process-preserved
loop-process-preserved g c =
    let answers = g.A.Attendant.answers in
    let ps = c.as_slice-process-items.result.now in
    let place = c.loop-process.process-index in
    let more = take_more ps place c.process-item.result c.loop-process-test.true in
    let is : take place ps ++ c.copy.result ∷ [] ≡ take (place + 1) ps = cc (more, c.process-item.is, c.copy.ensures) in
    subst (λ (asked : List Process). Exits answers asked (g.A.Attendant.state c.args.attendant.now) (g.A.Attendant.state c.ask.new.self))
    is (Exits-push answers _ _ _ _ _ _ c.loop-process.invariant c.ask.ensures)
