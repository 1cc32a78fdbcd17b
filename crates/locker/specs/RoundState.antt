-- What a round holds, and the protocol's round that it is seen as.
use Rattle.std.specs.Prelude.{ℕ, Bool, not, ◌==◌, ◌≡◌, ◌<◌, ◌&&◌, ◌||◌, Option, Some, None, List, length, slice_index_or}
use Rattle.std.specs.List.{position, list_any}
use Rattle.protocol_model.specs.Round as protocol
use Rattle.protocol_model.specs.Round.{is_refused, is_gone, has_granted, owes}
use Rattle.term.specs.NodeSets.{IsNodeSet}
use Rattle.term.specs.declared.limits.TheConstants.{MOST_NODES}
use Rattle.boss_order.specs.Boss.{boss_of}
use Rattle.locker.specs.declared.mark.Mark.{Mark}
use Rattle.locker.specs.declared.mark.Mark.TheVariants.{Later, Owes, Granted, Refused, Lost, Gone}

-- the nodes that it asks, now or later, and behind each other their marks; what stands behind the last node's is no
-- mark
pub record RoundState : Type 0 where
  pub nodes : List ℕ
  pub marks : List Mark

-- some nodes are asked, and there is room for the marks of the most nodes
pub record IsRound (h : RoundState) : Type 0 where
  pub set : IsNodeSet h.nodes
  pub some : 0 < length h.nodes
  pub room : length h.marks ≡ MOST_NODES

-- the protocol's mark
abbrev pub as_mark : Mark → protocol.Mark
as_mark Later = protocol.Later
as_mark Owes = protocol.Owes
as_mark Granted = protocol.Granted
as_mark Refused = protocol.Refused
as_mark Lost = protocol.Lost
as_mark Gone = protocol.Gone

-- what is known of a node; nothing is of those that aren't asked
abbrev pub as_known : Option Mark → protocol.Mark
as_known None = protocol.Out
as_known (Some mark) = as_mark mark

-- the place of a node among these
abbrev pub place : ℕ → List ℕ → Option ℕ
place c nodes = position (λ m. m == c) nodes

-- the mark at a place
abbrev pub mark_at : Option ℕ → List Mark → protocol.Mark
mark_at None marks = protocol.Out
mark_at (Some i) marks = as_mark (slice_index_or marks i Gone)

-- what is held, as the protocol's round
abbrev pub seen : RoundState → protocol.Round
seen h = record { boss = boss_of h.nodes; mark = λ c. mark_at (place c h.nodes) h.marks }

-- the boss refused, or went down before it answered, or granted and nobody owes an answer
abbrev pub is_settled : RoundState → Bool
is_settled h =
    is_refused ((seen h).mark (boss_of h.nodes)) || is_gone ((seen h).mark (boss_of h.nodes))
    || has_granted ((seen h).mark (boss_of h.nodes)) && not (list_any (owes (seen h)) h.nodes)
