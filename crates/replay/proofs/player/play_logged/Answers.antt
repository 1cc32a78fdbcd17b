use Rattle.std.proofs.Common.{◌∙◌, [], ap, sym}
use Rattle.std.proofs.lemmas.Result.{IfOk-weaker, IfErr-weaker}
use Rattle.node_log.specs.declared.WorldEvent.TheVariants.{Deliver}
use Rattle.node_log.specs.Events.{named_event}
use Rattle.node_log.specs.Logs.{event_of as logged_event}
use Rattle.replay.proofs.Delivered.{same_delivery, agrees_same, locks_same, played_same, refused_same}
use Rattle.replay.proofs.player.play_logged.Goals as goal

pub returns-in-Delivery-clause-agrees : goal.returns-in-Delivery-clause-agrees
returns-in-Delivery-clause-agrees g c = IfOk-weaker c.play.result _ _ (λ given. agrees_same
    (Deliver c.copy-from.result c.copy-to.result) _
    (same_delivery c.in-Delivery.sender.now c.args.node.now c.copy-from.result c.copy-to.result
    (c.copy-from.ensures ∙ c.name.ensures)
    (c.copy-to.ensures ∙ c.name-in-Delivery.ensures)
    ∙ sym (ap (λ e. named_event (logged_event c.args.node.now e)) c.in-Delivery.is)) c.args.world.now c.play.new.self given.items)
    c.play.ensures.agrees

pub returns-in-Delivery-clause-locks : goal.returns-in-Delivery-clause-locks
returns-in-Delivery-clause-locks g c = IfOk-weaker c.play.result _ _ (λ given locks. locks_same
    (Deliver c.copy-from.result c.copy-to.result) _
    (same_delivery c.in-Delivery.sender.now c.args.node.now c.copy-from.result c.copy-to.result
    (c.copy-from.ensures ∙ c.name.ensures)
    (c.copy-to.ensures ∙ c.name-in-Delivery.ensures)
    ∙ sym (ap (λ e. named_event (logged_event c.args.node.now e)) c.in-Delivery.is)) c.args.world.now c.play.new.self
    (λ before run. (locks before run).0)) c.play.ensures.locks

pub returns-in-Delivery-clause-ok : goal.returns-in-Delivery-clause-ok
returns-in-Delivery-clause-ok g c = IfOk-weaker c.play.result _ _ (λ given. played_same
    (Deliver c.copy-from.result c.copy-to.result) _
    (same_delivery c.in-Delivery.sender.now c.args.node.now c.copy-from.result c.copy-to.result
    (c.copy-from.ensures ∙ c.name.ensures)
    (c.copy-to.ensures ∙ c.name-in-Delivery.ensures)
    ∙ sym (ap (λ e. named_event (logged_event c.args.node.now e)) c.in-Delivery.is)) c.args.world.now c.play.new.self []
    given.items) c.play.ensures.ok

pub returns-in-Delivery-clause-refused : goal.returns-in-Delivery-clause-refused
returns-in-Delivery-clause-refused g c = IfErr-weaker c.play.result _ _ (λ refusal. refused_same
    (Deliver c.copy-from.result c.copy-to.result) _
    (same_delivery c.in-Delivery.sender.now c.args.node.now c.copy-from.result c.copy-to.result
    (c.copy-from.ensures ∙ c.name.ensures)
    (c.copy-to.ensures ∙ c.name-in-Delivery.ensures)
    ∙ sym (ap (λ e. named_event (logged_event c.args.node.now e)) c.in-Delivery.is)) c.args.world.now c.play.new.self refusal)
    c.play.ensures.refused
