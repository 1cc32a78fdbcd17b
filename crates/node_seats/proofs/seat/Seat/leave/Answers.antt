use Rattle.std.proofs.Common.{ℕ, ◌∙◌, None, Ok, List, [], ◌∷◌, ◌++◌, ap}
use Rattle.shared_table.specs.declared.LocalEvent.TheVariants.{Leave}
use Rattle.shared_table.specs.declared.WorldEvent.TheVariants.{At}
use Rattle.shared_table.specs.declared.SeatEntry.{SeatEntry}
use Rattle.shared_table.specs.declared.Effect.TheVariants.{Left}
use Rattle.node_seats.proofs.Sittings.{answered_so, grown}
use Rattle.node_seats.proofs.seat.Seat.leave.Goals as goal

pub returns-clause-ok : goal.returns-clause-ok
returns-clause-ok g c = record {
  told = answered_so c.self.inside.caller (g.T.Notes.noted c.self.inside.notes) c.self.inside.granted c.args.self.now c.self.view_is c.leave.new.self
      (g.T.Notes.noted c.put.new.self) c.self.inside.granted (Ok Left)
      c.in_ok-leave.ensures.node c.in_ok-leave.ensures.told c.in_ok-leave.ensures.learns;
  kept = grown c.self.inside.caller (g.T.Notes.noted c.self.inside.notes) c.self.inside.granted c.args.self.now c.self.view_is c.leave.new.self
      (g.T.Notes.noted c.put.new.self) Leave c.event-event.result None c.in_ok-leave.ensures.place c.in_ok-leave.ensures.inbox
      c.in_ok-leave.ensures.nodes c.in_ok-leave.ensures.asked
      (c.event-event.ensures ∙ ap (λ (n : ℕ). At n Leave) c.in_ok-leave.ensures.node)
      (c.put.ensures ∙ ap (λ (l : List SeatEntry). l ++ record { event = c.event-event.result; answer = None } ∷ [])
      c.make_room.ensures.same);
}
