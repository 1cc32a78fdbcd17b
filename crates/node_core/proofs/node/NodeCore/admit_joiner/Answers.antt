use Rattle.std.proofs.Common.{List, sym, subst}
use Rattle.registry_model.specs.Process.{Text, Process}
use Rattle.registry_model.specs.Table.{Table}
use Rattle.protocol_model.specs.Turn.{with_replica}
use Rattle.protocol_model.specs.Calling.{kill}
use Rattle.exchange.specs.Bodies.{settled_in}
use Rattle.node_core.specs.Joining.{put_names, remove_names}
use Rattle.node_core.specs.Steps.{Makes}
use Rattle.node_core.proofs.Joining.{admits}
use Rattle.node_core.proofs.Rooms.{roomier}
use Rattle.node_core.proofs.node.NodeCore.admit_joiner.Goals as goal

pub returns-clause-turn : goal.returns-clause-turn
returns-clause-turn g c = λ here.
    admits c.args.self.now c.add_member.new.self c.put_names.new.self c.remove_names.new.self c.note.new.self c.kill.new.self
    c.args.turn.now c.reserve.new.self c.send.new.self c.args.from.now c.copy.result c.args.admission.now
    (c.add_member.ensures.turn c.args.turn.now here)
    (subst (λ (ps : Table). Makes (λ n a. with_replica (put_names ps)) c.add_member.new.self c.args.turn.now
    c.put_names.new.self c.args.turn.now) c.as_slice.ensures.value (c.in_ok-put_names.ensures.turn c.args.turn.now))
    (subst (λ (xs : List Text). Makes (λ n a. with_replica (remove_names xs)) c.put_names.new.self c.args.turn.now
    c.remove_names.new.self c.args.turn.now) c.as_slice-2.ensures.value (c.in_ok-remove_names.ensures.turn c.args.turn.now))
    (c.in_ok-note.ensures.turn c.args.turn.now (settled_in c.args.admission.now).fate (sym c.as_slice-3.ensures.value))
    (roomier c.reserve.ensures.made
    (subst (λ (ps : List Process). Makes (λ n a. kill n a ps) c.note.new.self c.args.turn.now c.kill.new.self
    c.kill.new.turn) c.as_slice-4.ensures.value c.in_ok-kill.ensures.turn))
    c.copy.ensures c.send.ensures.made
