use Rattle.std.proofs.Common.{◌∙◌}
use Rattle.server.proofs.Lending.{served_at}
use Rattle.server.proofs.staying.worker.Worker.serve.Goals as goal

pub returns : goal.returns
returns g c = served_at c.args.node.now c.first.result (c.first.ensures.node ∙ c.copy.ensures) _ _ _ _
    c.serve_staying-ended.result c.of.result c.serve_staying-ended.ensures c.of.ensures
