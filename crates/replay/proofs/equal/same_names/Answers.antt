use Rattle.replay.proofs.Sameness.{names_alike}
use Rattle.replay.proofs.equal.same_names.Goals as goal

pub returns : goal.returns
returns c =
    names_alike c.as_slice.result.now c.as_slice-2.result.now c.args.some.now.names.items c.args.others.now.names.items
    c.eq.result c.as_slice.ensures c.as_slice-2.ensures c.eq.ensures
