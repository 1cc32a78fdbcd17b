use Rattle.node_core.proofs.Exits.{whole_exited}
use Rattle.node_core.proofs.Joining.{kills_one}
use Rattle.node_core.proofs.Rooms.{reserved}
use Rattle.node_core.proofs.node.NodeCore.kill_one.Goals as goal

pub invariant_of-self-in_err-reserve : goal.invariant_of-self-in_err-reserve
invariant_of-self-in_err-reserve g c = whole_exited _ c.kill.new.self c.take.new.self c.args.process.now
    c.self.invariant c.kill.ensures.node c.kill.ensures.suspected c.take.ensures.node c.take.ensures.calls

pub invariant_of-self-2 : goal.invariant_of-self-2
invariant_of-self-2 g c = whole_exited _ c.kill.new.self c.take.new.self c.args.process.now
    c.self.invariant c.kill.ensures.node c.kill.ensures.suspected c.take.ensures.node c.take.ensures.calls

pub returns-clause-turn : goal.returns-clause-turn
returns-clause-turn g c =
    reserved c.reserve.ensures.made
    (kills_one c.args.self.now _ c.kill.new.self c.take.new.self c.reserve.new.self _ c.args.process.now c.copy.result
    c.in_ok-kill.field-0 c.self.invariant c.self.view_is c.send_all.ensures.set c.if-not-branch.false
    c.in_ok-kill.ensures.lived c.in_ok-kill.ensures.ok c.take.ensures.calls c.copy.ensures
    c.send_all.ensures.letters)
