use Rattle.std.proofs.Common.{[], sym, subst}
use Rattle.std.proofs.lemmas.Option.{MatchOption-at_none}
use Rattle.std.proofs.lemmas.Result.{IfOk-weaker, IfErr-weaker}
use Rattle.world_events.specs.declared.events.LocalEvent.TheVariants.{Retry}
use Rattle.world_events.specs.declared.events.WorldEvent.TheVariants.{At, Deliver}
use Rattle.world_events.specs.declared.refusal.Refusal.{Refusal}
use Rattle.cluster_world.specs.WorldState.{WorldState}
use Rattle.cluster_world.specs.Playing.{Played, RefusedWith}
use Rattle.cluster_world.specs.Seats.{PlaysNext, RefusesNext}
use Rattle.cluster_world.proofs.Seats.{next_retry, next_delivered}
use Rattle.cluster_world.proofs.world.World.play_next.Goals as goal

pub returns-in-Ok-None-clause-ok : goal.returns-in-Ok-None-clause-ok
returns-in-Ok-None-clause-ok g c =
    let nothing = MatchOption-at_none _ _ c.in-Ok-None.field-0-is c.in-Ok-None.ensures.next in
    IfOk-weaker c.play.result (λ given. Played (At c.copy.result Retry) c.deliver_next.new.self c.play.new.self [] given.items)
    (λ given. PlaysNext c.args.node.now c.args.self.now c.play.new.self given.items)
    (λ given played. record {
      event = At c.copy.result Retry;
      next = next_retry c.args.self.now c.args.node.now c.copy.result c.copy.ensures nothing.0;
      played = subst (λ (h : WorldState). Played (At c.copy.result Retry) h c.play.new.self [] given.items) nothing.1 played;
    }) c.play.ensures.ok

pub returns-in-Ok-None-clause-refused : goal.returns-in-Ok-None-clause-refused
returns-in-Ok-None-clause-refused g c =
    let nothing = MatchOption-at_none _ _ c.in-Ok-None.field-0-is c.in-Ok-None.ensures.next in
    IfErr-weaker c.play.result (λ why. RefusedWith why (At c.copy.result Retry) c.deliver_next.new.self)
    (λ why. RefusesNext c.args.node.now c.args.self.now why)
    (λ why refused. record {
      event = At c.copy.result Retry;
      next = next_retry c.args.self.now c.args.node.now c.copy.result c.copy.ensures nothing.0;
      refused = subst (λ (h : WorldState). RefusedWith why (At c.copy.result Retry) h) nothing.1 refused;
    }) c.play.ensures.refused

pub returns-in-Err-clause-refused : goal.returns-in-Err-clause-refused
returns-in-Err-clause-refused g c =
    let next = c.in-Err.ensures.waits in
    record {
      event = Deliver next.sender next.receiver;
      next = next_delivered c.args.self.now c.args.node.now next.sender next.receiver next.next;
      refused = subst (λ (why : Refusal). RefusedWith why (Deliver next.sender next.receiver) c.args.self.now)
          (sym c.from.ensures) next.accepted;
    }
