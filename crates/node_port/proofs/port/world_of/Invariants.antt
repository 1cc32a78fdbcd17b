use Rattle.std.proofs.Common.{◌≡◌, take, map}
use Rattle.node_port.specs.Beginnings.{present_of}
use Rattle.node_port.proofs.port.world_of.Given as goal

-- the nodes at present of the names so far
abbrev pub invariant-loop-name : goal.invariant-loop-name
invariant-loop-name l = l.world ≡ map (present_of l.node l.left) (take l.name-index l.name-items)
