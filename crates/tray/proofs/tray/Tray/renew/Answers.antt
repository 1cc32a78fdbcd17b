use Rattle.std.proofs.Common.{arith}
use Rattle.tray.specs.Held.{renewed_where}
use Rattle.term.proofs.Mapping.{mapped_more}
use Rattle.tray.proofs.tray.Tray.renew.Goals as goal

pub loop-slot-preserved : goal.loop-slot-preserved
loop-slot-preserved g c = mapped_more (renewed_where c.args.older.now c.args.next.now) c.loop-slot.slot-items c.deref_mut-slot-items.result.now
    c.loop-slot.slot-index c.slot-item.result c.renew.new.self (omega (arith, c.loop-slot-test.true, c.loop-slot.auto.slot-items))
    c.loop-slot.invariant c.renew.ensures
