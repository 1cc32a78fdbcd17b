use Rattle.std.proofs.Common.{◌≡◌, map, take}
use Rattle.tray.specs.Held.{none_for}
use Rattle.tray.proofs.tray.Tray.new.Given as goal

abbrev pub invariant-loop-receiver : goal.invariant-loop-receiver
invariant-loop-receiver g l =
    l.slots.items ≡ map none_for (take l.receiver-index l.receiver-items)
