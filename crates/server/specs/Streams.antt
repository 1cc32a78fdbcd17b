-- What the system tells of a connection.
use Rattle.std.specs.Prelude.{ℕ, Bool, not, ◌==◌, ◌+◌, bit_and, if◌then◌else◌}
use Rattle.console.specs.declared.client.Peer.{Peer}
use Rattle.console.specs.declared.client.Peer.TheVariants.{Listens, InputEnded, Gone}

-- an error, a hang-up in both directions, and a number that is no connection's
abbrev pub hang_ups : ℕ
hang_ups = 0x8 + 0x10 + 0x20

-- the end of what the client sends
abbrev pub input_end : ℕ
input_end = 0x2000

-- one of these is among the events
abbrev pub tells : ℕ → ℕ → Bool
tells these events = not (bit_and events these == 0)

-- how the client stands by the events: a hang-up tells more than the end of its input
abbrev pub peer_of : ℕ → Peer
peer_of events =
    if tells hang_ups events then Gone else (if tells input_end events then InputEnded else Listens)
