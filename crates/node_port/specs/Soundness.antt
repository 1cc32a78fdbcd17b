-- A node's loop that is sound over its end of lines.
use Rattle.std.specs.Prelude.{true, ◌≡◌}
use Rattle.protocol_model.specs.World.{Opening}
use Rattle.node_loop.specs.Returning.{Start, IsSoundFrom, EndsSoundFrom}
use Rattle.node_loop.specs.Sound.{IsSound, EndsSound}
use Rattle.wire_end.specs.Dealings.{dealt_of, leads_inside, leads_among}
use Rattle.node_port.specs.Deeds.{Stand}
use Rattle.node_port.specs.declared.port.Standing.{Standing}
use Rattle.node_port.specs.declared.port.Standing.TheVariants.{Spent}

-- its links lead inside the world, and it is sound with what they dealt in
abbrev pub IsSoundAt : Opening → Stand → Type 0
IsSoundAt o a = (leads_inside o a.end ≡ true) × IsSound o a.loop (dealt_of a.end)

-- it ended so
abbrev pub EndsSoundAt : Opening → Stand → Type 0
EndsSoundAt o a = EndsSound o a.loop (dealt_of a.end)

-- it is so where it stands so
abbrev pub IsSoundIn : Standing → Opening → Stand → Type 0
IsSoundIn Spent o a = EndsSoundAt o a
IsSoundIn _ o a = IsSoundAt o a

-- The same where nodes come back: its links lead among the nodes that it knows of, and it is sound from its start on
abbrev pub IsSoundFromAt : Opening → Start → Stand → Type 0
IsSoundFromAt o start a =
    (leads_among a.loop.core.world a.loop.core.name a.end ≡ true) × IsSoundFrom o start a.loop (dealt_of a.end)

abbrev pub EndsSoundFromAt : Opening → Start → Stand → Type 0
EndsSoundFromAt o start a = EndsSoundFrom o start a.loop (dealt_of a.end)

abbrev pub IsSoundFromIn : Standing → Opening → Start → Stand → Type 0
IsSoundFromIn Spent o start a = EndsSoundFromAt o start a
IsSoundFromIn _ o start a = IsSoundFromAt o start a
