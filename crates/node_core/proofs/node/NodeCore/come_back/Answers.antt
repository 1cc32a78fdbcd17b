use Rattle.std.proofs.Common.{ℕ, [], ◌∷◌, ap, ◌∙◌}
use Rattle.node_core.proofs.Opening.{alone_of, alone_apart}
use Rattle.node_core.proofs.node.NodeCore.come_back.Goals as goal

pub opened-requires-clause-members : goal.opened-requires-clause-members
opened-requires-clause-members g c =
    alone_of c.args.world.now c.args.node c.one-alone.result
    (c.one-alone.ensures ∙ ap (λ (m : ℕ). m ∷ []) c.copy.ensures) c.requires.known

pub opened-requires-clause-apart : goal.opened-requires-clause-apart
opened-requires-clause-apart g c =
    alone_apart c.args.left.now c.args.node c.one-alone.result
    (c.one-alone.ensures ∙ ap (λ (m : ℕ). m ∷ []) c.copy.ensures) c.requires.stays
