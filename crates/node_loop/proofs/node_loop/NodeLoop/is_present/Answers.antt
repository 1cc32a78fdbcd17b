use Rattle.std.proofs.Common.{ℕ, false, ◌≡◌, List, sym, ap, subst, ◌∙◌}
use Rattle.term.specs.NodeSets.{set_of, with_older}
use Rattle.node_loop.specs.Held.{Looping}
use Rattle.node_loop.proofs.Present.{present_last}
use Rattle.node_loop.proofs.node_loop.NodeLoop.is_present.Goals as goal

pub returns-clause-last : goal.returns-clause-last
returns-clause-last g c e next is = subst (λ (a : Looping). with_older a.core.world next ≡ false) c.self.view_is
    (present_last c.self.inside.core c.world.ensures.whole c.args.node.now next
    (sym (c.contains.ensures ∙ ap (λ (world : List ℕ). set_of world c.args.node.now) c.world.ensures.world) ∙ e) is)
