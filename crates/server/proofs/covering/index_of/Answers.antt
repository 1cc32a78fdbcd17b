use Rattle.std.proofs.Common.{◌==◌, sym, ◌∙◌}
use Rattle.server.proofs.Placing.{place_first, place_second, place_nowhere}
use Rattle.server.proofs.covering.index_of.Goals as goal

pub returns-in_err-index-in-None : goal.returns-in_err-index-in-None
returns-in_err-index-in-None c = c.from_residual.ensures
    ∙ place_nowhere (λ name. name == c.args.node.now) c.args.cluster.now c.args.lone.now
    (sym c.place_of.ensures ∙ c.in-None.is) (sym c.place_of-in-None.ensures ∙ c.in_err-index-in-None.was)

pub returns-in-Some : goal.returns-in-Some
returns-in-Some c = sym (place_first (λ name. name == c.args.node.now) c.args.cluster.now c.args.lone.now c.in-Some.index
    (sym c.place_of.ensures ∙ c.in-Some.is))

pub returns-in_ok-index-in-None : goal.returns-in_ok-index-in-None
returns-in_ok-index-in-None c = sym (place_second (λ name. name == c.args.node.now) c.args.cluster.now c.args.lone.now
    c.in_ok-index-in-None.index (sym c.place_of.ensures ∙ c.in-None.is) (sym c.place_of-in-None.ensures ∙ c.in_ok-index-in-None.was))
