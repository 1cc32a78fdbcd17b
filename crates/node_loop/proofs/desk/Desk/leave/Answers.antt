use Rattle.node_loop.proofs.Telling.{leaving_begins, where_refused}
use Rattle.node_loop.proofs.desk.Desk.leave.Goals as goal

pub returns-in_err-tell_leaves-clause-begun : goal.returns-in_err-tell_leaves-clause-begun
returns-in_err-tell_leaves-clause-begun c =
    where_refused c.from_residual.result
    (leaving_begins c.args.self.now _ c.as_slice.result.now c.tell_leaves.new.replies c.as_slice.ensures.value
    c.self.view_is c.in_err-tell_leaves.ensures.begun)
