use Rattle.std.proofs.Common.{ℕ, true, ◌≡◌, List, sym, ap, ◌∙◌}
use Rattle.term.specs.NodeSets.{with_older}
use Rattle.node_loop.specs.Held.{Looping}
use Rattle.node_loop.proofs.Present.{not_itself}
use Rattle.node_loop.proofs.node_loop.NodeLoop.was_told.Goals as goal

pub returns-clause-another : goal.returns-clause-another
returns-clause-another g c e same =
    let told : with_older c.self.inside.core.told c.args.node.now ≡ true =
    sym (c.reaches.ensures ∙ ap (λ (left : List ℕ). with_older left c.args.node.now) c.told.ensures.told) ∙ e in
    let itself : c.args.node.now ≡ c.self.inside.core.name = same ∙ sym (ap (λ (a : Looping). a.core.name) c.self.view_is) in
    cc (not_itself c.self.inside.core c.told.ensures.whole, ap (with_older c.self.inside.core.told) (sym itself) ∙ told)
