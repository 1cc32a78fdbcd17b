use Rattle.std.proofs.Common.{◌≡◌, length, sym, ◌∙◌, arith, rules}
use Rattle.term.specs.declared.limits.TheConstants.{MOST_SEATS}
use Rattle.node_threads.proofs.Seats.{none_free, first_free, no_number, one_more}
use Rattle.node_threads.proofs.seating.Seating.next.Goals as goal

pub returns-in_default : goal.returns-in_default
returns-in_default c =
    let slots : length c.args.self.now.taken ≡ MOST_SEATS = search rules in
    none_free c.args.self.now slots (sym c.free_slot.ensures ∙ c.in_default.is)

pub returns-then-self-ge-SEAT_NUMBERS : goal.returns-then-self-ge-SEAT_NUMBERS
returns-then-self-ge-SEAT_NUMBERS c =
    let slots : length c.args.self.now.taken ≡ MOST_SEATS = search rules in
    no_number c.args.self.now (first_free c.args.self.now slots c.in-Some.slot (sym c.free_slot.ensures ∙ c.in-Some.is)).1
    (omega (arith, c.if-self-ge-SEAT_NUMBERS.true))

pub returns : goal.returns
returns c =
    let slots : length c.args.self.now.taken ≡ MOST_SEATS = search rules in (
      one_more c.args.self.now (first_free c.args.self.now slots c.in-Some.slot (sym c.free_slot.ensures ∙ c.in-Some.is)).1
          (omega (arith, c.if-self-ge-SEAT_NUMBERS.false)),
      λ j. record { seat = c.args.self.now.made; slot = (first_free c.args.self.now slots c.in-Some.slot (sym c.free_slot.ensures ∙ c.in-Some.is)).0 j },
    )
