-- For how long a call waits that was made for a client.
use Rattle.std.specs.Prelude.{Bool, true, false}
use Rattle.console.specs.declared.client.Peer.{Peer}
use Rattle.console.specs.declared.client.Peer.TheVariants.{Listens, InputEnded, Gone}

-- whether it is given up, as its client stands: where that is gone, and where the input has ended of one whose process is linked, since
-- that exits then
abbrev pub is_given_up : Peer → Bool → Bool
is_given_up Listens linked = false
is_given_up InputEnded linked = linked
is_given_up Gone linked = true
