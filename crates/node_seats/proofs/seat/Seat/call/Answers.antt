use Rattle.std.proofs.Common.{◌≡◌, ◌∙◌, true, Bool, Some, Result, Ok, Err, IfErr, List, [], ◌∷◌, ◌++◌, inr, sym, ap, subst, rules}
use Rattle.std.specs.Prelude.{◌&&◌, if◌then◌else◌}
use Rattle.shared_table.specs.declared.Call.{Call}
use Rattle.shared_table.specs.declared.Reply.{Reply}
use Rattle.shared_table.specs.declared.LocalEvent.TheVariants.{Call as Calls}
use Rattle.shared_table.specs.declared.WorldEvent.TheVariants.{At}
use Rattle.shared_table.specs.declared.SeatEntry.{SeatEntry}
use Rattle.shared_table.specs.declared.Effect.TheVariants.{Answered as IsAnswer}
use Rattle.shared_table.specs.NodeEventsSeen.{answer_of, reply_of, is_list}
use Rattle.node_seats.specs.Fences.{HasLogged, grants}
use Rattle.node_seats.specs.declared.fault.SeatFault.{SeatFault}
use Rattle.node_seats.specs.declared.fault.SeatFault.TheVariants.{Memory}
use Rattle.node_seats.specs.Seats.{Sitting, Unanswered}
use Rattle.node_seats.proofs.Granting.{granted_so, granted_at}
use Rattle.node_seats.proofs.Sittings.{seated, answered_so, called, uncopied}
use Rattle.node_seats.proofs.seat.Seat.call.Goals as goal

pub returns-clause-ok : goal.returns-clause-ok
returns-clause-ok g c =
    let given = c.in_ok-given.given in record {
      answer = given.answer;
      stamp = given.stamp;
      told = answered_so c.self.inside.caller (g.T.Notes.noted c.self.inside.notes) c.self.inside.granted c.args.self.now c.self.view_is c.call.new.self
          (g.T.Notes.noted c.put.new.self) c.granted_after-self-inside.result (Ok (IsAnswer given.stamp given.answer))
          c.in_ok-given.ensures.node c.in_ok-given.ensures.told c.in_ok-given.ensures.learns;
      logged = subst (λ (s : Sitting). HasLogged s.node given.stamp (answer_of given.answer)) c.self.view_is c.in_ok-given.ensures.logged;
      says = sym c.in_ok-reply.ensures.copy;
      kept = called c.self.inside.caller (g.T.Notes.noted c.self.inside.notes) c.self.inside.granted c.args.self.now c.self.view_is c.call.new.self
          (g.T.Notes.noted c.put.new.self) c.args.call c.event-event.result given.stamp given.answer c.granted_after-self-inside.result
          c.in_ok-given.ensures.place c.in_ok-given.ensures.inbox c.in_ok-given.ensures.nodes c.in_ok-given.ensures.asked
          (c.event-event.ensures
          ∙ ap (λ (k : Call). At c.self.inside.caller.node (Calls k)) c.in_ok-noted.ensures.copy)
          (c.put.ensures
          ∙ ap (λ (l : List SeatEntry). l ++ record { event = c.event-event.result; answer = Some given.answer } ∷ [])
          c.prepared.ensures.same)
          (c.granted_after-self-inside.ensures
          ∙ ap (λ (b : Bool). if b && grants (reply_of given.answer.reply) then Some given.stamp else c.self.inside.granted)
          c.sets_lock-sets.ensures);
    }

pub invariant_of-self-inside-2 : goal.invariant_of-self-inside-2
invariant_of-self-inside-2 g c =
    let given = c.in_ok-given.given in (
      granted_at _ _ _ _ c.in_ok-given.ensures.node c.granted_after-self-inside.ensures
          (granted_so c.self.inside.caller.node given.stamp given.answer c.sets_lock-sets.result c.self.inside.granted c.in_ok-given.ensures.logged
          c.self.inside.logged),
      tt,
    )

pub returns-in_err-reply-clause-err : goal.returns-in_err-reply-clause-err
returns-in_err-reply-clause-err g c =
    let caller = c.self.inside.caller in
    let given = c.in_ok-given.given in
    let notes = g.T.Notes.noted c.prepared.new.notes in
    let is : c.from_residual-in_err-reply.result ≡ Err Memory = search rules in
    let list : is_list given.answer.reply ≡ true = search rules in
    subst (λ (r : Result Reply SeatFault). IfErr r (λ fault. Unanswered fault (Calls c.args.call) c.args.self.now (seated c.call.new.self notes c.self.inside.granted)))
    (sym is)
    (inr (uncopied caller (g.T.Notes.noted c.self.inside.notes) c.self.inside.granted c.args.self.now c.self.view_is c.call.new.self notes
    c.args.call given.stamp given.answer c.in_ok-given.ensures.node c.in_ok-given.ensures.told c.in_ok-given.ensures.learns
    c.in_ok-given.ensures.place c.in_ok-given.ensures.inbox c.in_ok-given.ensures.nodes
    c.in_ok-given.ensures.asked c.prepared.ensures.same list))
