use Rattle.std.proofs.Common.{refl}
use Rattle.text_lines.proofs.Written.{Writes-partly}
use Rattle.server.proofs.Leaving.{sits_served, sits_unserved}
use Rattle.server.proofs.attending.attend_at.Goals as goal

pub returns-in-Ok-at : goal.returns-in-Ok-at
returns-in-Ok-at g c = sits_served c.args.node.now _ _ _ _ c.args.place c.in-Ok.free c.serve_at.result c.in-Ok.is (record {
  seat = c.in-Ok-at.seat;
  at = c.in-Ok-at.ensures.ok;
  leaves = c.serve_at.ensures;
})

pub returns-in-Err : goal.returns-in-Err
returns-in-Err g c = sits_unserved c.args.node.now _ _ _ _ c.args.place c.in-Err.fault c.in-Err.is (record {
  same = refl;
  wrote = Writes-partly _ _ c.refuse_seat.result _ c.refuse_seat.ensures;
})
