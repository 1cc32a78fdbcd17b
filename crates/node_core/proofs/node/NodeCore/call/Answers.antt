use Rattle.std.proofs.Common.{refl, ap, subst, ◌∙◌}
use Rattle.std.proofs.lemmas.Result.{on_ok_weaker}
use Rattle.node_events.specs.declared.events.Call.TheVariants.{Register, ReRegister, Unregister}
use Rattle.node_events.specs.Seen.{call_of}
use Rattle.node_core.specs.Steps.{IsAskedWithin}
use Rattle.node_core.proofs.Calls.{calls}
use Rattle.node_core.proofs.Rooms.{reserved}
use Rattle.node_core.proofs.node.NodeCore.call.Goals as goal

pub returns-in-Register-clause-turn : goal.returns-in-Register-clause-turn
returns-in-Register-clause-turn g c = λ asked.
    let pair = c.copy-in-Register.ensures in
    on_ok_weaker c.enqueue.result
    (λ made. reserved c.make_room_to_call.ensures.made (calls c.args.call.now
    (call_of (Register c.copy-in-Register.result)) (ap call_of c.in-Register.is ∙ cc (pair)) refl refl made))
    (c.enqueue.ensures.turn c.make_room_to_call.new.turn)

pub returns-in-ReRegister-clause-turn : goal.returns-in-ReRegister-clause-turn
returns-in-ReRegister-clause-turn g c = λ asked.
    let pair = c.copy-in-ReRegister.ensures in
    on_ok_weaker c.enqueue-in-ReRegister.result
    (λ made. reserved c.make_room_to_call.ensures.made (calls c.args.call.now
    (call_of (ReRegister c.copy-in-ReRegister.result)) (ap call_of c.in-ReRegister.is ∙ cc (pair)) refl refl made))
    (c.enqueue-in-ReRegister.ensures.turn c.make_room_to_call.new.turn)

pub returns-in-Unregister-clause-turn : goal.returns-in-Unregister-clause-turn
returns-in-Unregister-clause-turn g c = λ asked.
    let name = c.copy-in-Unregister.ensures in
    on_ok_weaker c.enqueue-in-Unregister.result
    (λ made. reserved c.make_room_to_call.ensures.made (calls c.args.call.now
    (call_of (Unregister c.copy-in-Unregister.result)) (ap call_of c.in-Unregister.is ∙ cc (name)) refl refl made))
    (c.enqueue-in-Unregister.ensures.turn c.make_room_to_call.new.turn)

pub returns-in-Join-clause-turn : goal.returns-in-Join-clause-turn
returns-in-Join-clause-turn g c = λ asked.
    on_ok_weaker c.enqueue_join.result
    (λ made. reserved c.make_room_to_call.ensures.made (calls c.args.call.now _ (ap call_of c.in-Join.is) refl refl made))
    (c.enqueue_join.ensures.turn c.make_room_to_call.new.turn
    (subst (IsAskedWithin c.args.self.now.world) c.in-Join.is asked))
