-- A node that stands so.
use Rattle.std.proofs.Common.{◌≡◌}
use Rattle.node_loop.specs.Held.{Looping}
use Rattle.wire_end.specs.declared.wire_end.Wiring.{Wiring}
use Rattle.node_port.specs.Deeds.{Stand}

-- it is its loop and its end
pub stand_is : (a : Stand) (l : Looping) (w : Wiring) → a.loop ≡ l → a.end ≡ w → a ≡ record { loop = l; end = w }
stand_is a l w e f = λ j. record { loop = e j; end = f j }
