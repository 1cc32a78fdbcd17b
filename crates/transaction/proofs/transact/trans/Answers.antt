use Rattle.std.proofs.Common.{rules, refl}
use Rattle.std.specs.Fn.{FnOnceReturnsAtMut}
use Rattle.transaction.proofs.transact.trans.Goals as goal

pub returns-in-Ok : goal.returns-in-Ok
returns-in-Ok g c =
    let gave : FnOnceReturnsAtMut g.F.FnOnce c.args.f c.set_lock.new.self c.f-given.result c.f-given.new.arg2
    = record { shown = _; shows = refl; left = _; met = c.f-given.ensures; leaves = refl } in
    (c.f-given.new.arg2, (c.set_lock.new.self, search rules, gave), c.in-Ok.ensures)

pub returns-in-Err-del_lock : goal.returns-in-Err-del_lock
returns-in-Err-del_lock g c =
    let gave : FnOnceReturnsAtMut g.F.FnOnce c.args.f c.set_lock.new.self c.f-given.result c.f-given.new.arg2
    = record { shown = _; shows = refl; left = _; met = c.f-given.ensures; leaves = refl } in
    (c.f-given.new.arg2, (c.set_lock.new.self, search rules, gave), c.in-Err-del_lock.ensures)
