-- What it does to the protocol's links that a node which was closed out comes back.
use Rattle.std.specs.Prelude.{ℕ}
use Rattle.registry_model.specs.Process.{without_node}
use Rattle.protocol_model.specs.Links.{Links}

-- what is put for d stays again; what is on the links stays as it is
abbrev pub reopened : {L : Type 0} → ℕ → Links L → Links L
reopened d links = record { queue = links.queue; closed = without_node d links.closed }
