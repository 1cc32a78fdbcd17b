use Rattle.std.proofs.Common.{arith}
use Rattle.server.proofs.GivingOut.{gives_none, gives_both, gives_asked}
use Rattle.server.proofs.Lending.{no_seat, one_seat_more}
use Rattle.server.proofs.staying.seats.seats_of.Goals as goal

pub loop-init : goal.loop-init
loop-init c = record {
  given = gives_none c.args.cluster.now;
  seats = no_seat c.args.node.now c.new-seats.result.items c.new-seats.ensures.items;
  within = omega arith;
}

pub returns-in_err-forgetful_seat-clause-given : goal.returns-in_err-forgetful_seat-clause-given
returns-in_err-forgetful_seat-clause-given c =
    gives_both c.args.cluster.now c.loop.cluster c.forgetful_seat.new.self c.loop.invariant.given
    (gives_asked c.loop.cluster c.forgetful_seat.new.self c.forgetful_seat.result c.forgetful_seat.ensures.made c.forgetful_seat.ensures.unmade)

pub loop-preserved : goal.loop-preserved
loop-preserved c = record {
  given = gives_both c.args.cluster.now c.loop.cluster c.forgetful_seat.new.self c.loop.invariant.given
      (gives_asked c.loop.cluster c.forgetful_seat.new.self c.forgetful_seat.result c.forgetful_seat.ensures.made c.forgetful_seat.ensures.unmade);
  seats = one_seat_more c.args.node.now c.loop.counter c.loop.seats.items c.reserve.new.self.items c.push_reserved.new.self.items _ _
      c.reserve.ensures.items c.push_reserved.ensures.items c.loop.invariant.seats c.in_ok-forgetful_seat.ensures.ok;
  within = omega (arith, c.loop-test.true);
}
