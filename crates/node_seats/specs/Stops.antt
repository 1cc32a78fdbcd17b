-- Why the turns of a node's thread ended.
use Rattle.std.specs.Prelude.{Bool, true, false, not, ◌&&◌}
use Rattle.node_seats.specs.declared.host.Stop.{Stop}
use Rattle.node_seats.specs.declared.host.Stop.TheVariants.{Asked, Failed}

-- a turn failed, and nobody asked for it
abbrev pub is_alone : Stop → Bool
is_alone Asked = false
is_alone Failed = true

-- the thread ended alone: nobody asked for it, and its node hadn't left
abbrev pub ends_alone : Stop → Bool → Bool
ends_alone stop left = is_alone stop && not left
