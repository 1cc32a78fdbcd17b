use Rattle.std.proofs.Common.{ℕ, List, ◌∙◌}
use Rattle.std.proofs.Math.Path.{ap₂}
use Rattle.registry_model.specs.Process.{with_node}
use Rattle.term.specs.NodeSets.{set_of}
use Rattle.term.proofs.Algebra.{with_one_more}
use Rattle.term.proofs.node_set.NodeSet.with.Goals as goal

pub returns : goal.returns
returns c =
    with_one_more c.insert-is_new.result c.copy-all.result c.insert-is_new.new.self c.copy.result
    (rw (c.copy-all.ensures, c.copy.ensures) c.requires) c.insert-is_new.ensures.inserted c.insert-is_new.ensures.holds
    ∙ ap₂ (λ (d : ℕ) (ds : List ℕ). with_node d (set_of ds)) c.copy.ensures c.copy-all.ensures
