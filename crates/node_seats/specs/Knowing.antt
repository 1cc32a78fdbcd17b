-- What somebody knows of a node, at whichever of its seats.
use Rattle.std.specs.Prelude.{ℕ, max, Option, None}
use Rattle.node_seats.specs.Seats.{Sitting}

-- the length of which node's log he was told of, or has read, and the stamp of the step that granted him a lock last
pub record Known : Type 0 where
  pub node : ℕ
  pub told : ℕ
  pub granted : Option ℕ

-- nothing of this node
abbrev pub nothing_known : ℕ → Known
nothing_known node = record { node = node; told = 0; granted = None }

-- what is known at a seat
abbrev pub known_at : Sitting → Known
known_at s = record { node = s.node; told = s.seen.told; granted = s.granted }

-- it is lent to who knows this: the seat knows no less of the node, and was granted what he was
abbrev pub with_known : Known → Sitting → Sitting
with_known k s = record s { seen = record s.seen { told = max s.seen.told k.told }; granted = k.granted }
