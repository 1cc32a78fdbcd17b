use Rattle.std.proofs.Common.{◌≡◌, ◌++◌, map, take, drop}
use Rattle.tray.specs.Held.{renewed_where}
use Rattle.tray.proofs.tray.Tray.renew.Given as goal

abbrev pub invariant-loop-slot : goal.invariant-loop-slot
invariant-loop-slot g l = l.slot-items
    ≡ map (renewed_where l.older l.next) (take l.slot-index l.initial.slot-items) ++ drop l.slot-index l.initial.slot-items
