use Rattle.std.proofs.Common.{◌≡◌, ◌++◌, [], List, sym, ap, ◌∙◌, arith}
use Rattle.std.proofs.lemmas.List.{append-nil, nil_from_length}
use Rattle.node_threads.specs.Berths.{Berthed, wired_of}
use Rattle.node_threads.proofs.crew.launch_each.Goals as goal

pub returns : goal.returns
returns g c =
    let over : c.loop-berth.berth-iterator.rest.items ≡ [] =
    nil_from_length c.loop-berth.berth-iterator.rest.items
    (omega (arith, c.loop-berth.berth-iterator.rest.ok.0, c.in-None.ensures.steps.0)) in
    sym (append-nil c.loop-berth.running.items)
    ∙ ap (λ (l : List Berthed). c.loop-berth.running.items ++ wired_of l) (sym over)
    ∙ c.loop-berth.invariant.started
