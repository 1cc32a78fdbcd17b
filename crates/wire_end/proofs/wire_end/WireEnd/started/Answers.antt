use Rattle.std.proofs.Common.{arith}
use Rattle.wire_end.specs.Starting.{opened_anew}
use Rattle.term.proofs.Mapping.{mapped_more}
use Rattle.wire_end.proofs.wire_end.WireEnd.started.Goals as goal

pub loop-wire-preserved : goal.loop-wire-preserved
loop-wire-preserved c = mapped_more (opened_anew c.args.older.now c.args.next.now) c.loop-wire.wire-items c.deref_mut-wire-items.result.now
    c.loop-wire.wire-index c.wire-item.result c.open_anew.new.self (omega (arith, c.loop-wire-test.true, c.loop-wire.auto.wire-items))
    c.loop-wire.invariant c.open_anew.ensures
