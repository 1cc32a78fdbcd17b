-- Where a loop of a node tells that the node has left, its log says so.
use Rattle.std.proofs.Common.{ℕ, Ok}
use Rattle.shared_table.specs.declared.Ticket.{Ticket}
use Rattle.shared_table.specs.declared.Effect.TheVariants.{Left}
use Rattle.shared_table.specs.Readers.{Seen}
use Rattle.shared_table.proofs.Left.{told_leaves_are_logged}
use Rattle.node_seats.specs.Replies.{IsToldTo, HasLeft}

pub left_where_told : (name : ℕ) (ticket : Ticket) (s : Seen) → IsToldTo name ticket (Ok Left) s → HasLeft name
left_where_told name ticket s told = ∣ record {
  node = told.moment.node;
  came = told.came;
  logged = told_leaves_are_logged name told.moment.node told.came ticket told.held;
} ∣₁
