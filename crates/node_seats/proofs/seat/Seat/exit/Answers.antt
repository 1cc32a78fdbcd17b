use Rattle.std.proofs.Common.{ℕ, ◌∙◌, None, Ok, List, [], ◌∷◌, ◌++◌, ap}
use Rattle.registry_model.specs.Process.{Process}
use Rattle.shared_table.specs.declared.LocalEvent.TheVariants.{Exit}
use Rattle.shared_table.specs.declared.WorldEvent.TheVariants.{At}
use Rattle.shared_table.specs.declared.SeatEntry.{SeatEntry}
use Rattle.shared_table.specs.declared.Effect.TheVariants.{Made}
use Rattle.node_seats.proofs.Sittings.{answered_so, grown}
use Rattle.node_seats.proofs.seat.Seat.exit.Goals as goal

pub returns-clause-ok : goal.returns-clause-ok
returns-clause-ok g c = record {
  told = answered_so c.self.inside.caller (g.T.Notes.noted c.self.inside.notes) c.self.inside.granted c.args.self.now c.self.view_is c.exit.new.self
      (g.T.Notes.noted c.put.new.self) c.self.inside.granted (Ok Made)
      c.in_ok-exit.ensures.node c.in_ok-exit.ensures.told c.in_ok-exit.ensures.learns;
  kept = grown c.self.inside.caller (g.T.Notes.noted c.self.inside.notes) c.self.inside.granted c.args.self.now c.self.view_is c.exit.new.self
      (g.T.Notes.noted c.put.new.self) (Exit c.args.process.now) c.event-event.result None c.in_ok-exit.ensures.place
      c.in_ok-exit.ensures.inbox c.in_ok-exit.ensures.nodes c.in_ok-exit.ensures.asked
      (c.event-event.ensures ∙ ap (λ (n : ℕ). At n (Exit c.copy.result)) c.in_ok-exit.ensures.node
      ∙ ap (λ (p : Process). At c.self.inside.caller.node (Exit p)) c.copy.ensures)
      (c.put.ensures ∙ ap (λ (l : List SeatEntry). l ++ record { event = c.event-event.result; answer = None } ∷ [])
      c.make_room.ensures.same);
}
