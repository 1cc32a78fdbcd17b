use Rattle.std.proofs.Common.{◌==◌, Some, [], sym, ap, ◌∙◌}
use Rattle.std.specs.List.{position}
use Rattle.node_seats.specs.declared.caller.Caller.{Caller}
use Rattle.node_seats.specs.Callers.{name_of}
use Rattle.node_seats.specs.Seats.{sitting, first_at}
use Rattle.node_seats.proofs.Choosing.{first_becomes, none_becomes}
use Rattle.node_seats.proofs.free_seat.FreeSeat.at.Goals as goal

pub returns-in-Some-clause-ok : goal.returns-in-Some-clause-ok
returns-in-Some-clause-ok c = ap (first_at c.args.node.now) (sym c.self.view_is)
    ∙ first_becomes (λ caller. sitting caller []) (λ s. s.node == c.args.node.now) c.self.inside.callers.items c.in-Some.place
    c.swap_remove.result
    (sym (c.place_of.ensures ∙ ap (position (λ (k : Caller). name_of k == c.args.node.now)) c.as_slice.ensures.value) ∙ c.in-Some.is)
    c.swap_remove.ensures.value
    ∙ ap Some (sym c.new.ensures)

pub returns-in-None-clause-err : goal.returns-in-None-clause-err
returns-in-None-clause-err c = (
  c.self.view_is,
  ap (first_at c.args.node.now) (sym c.self.view_is)
      ∙ none_becomes (λ caller. sitting caller []) (λ s. s.node == c.args.node.now) c.self.inside.callers.items
      (sym (c.place_of.ensures ∙ ap (position (λ (k : Caller). name_of k == c.args.node.now)) c.as_slice.ensures.value) ∙ c.in-None.is),
)
