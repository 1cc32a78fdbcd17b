use Rattle.std.proofs.Common.{◌≡◌, ◌∙◌, ◌++◌, ◌∷◌, [], List, ap, refl, subst, sym, Some}
use Rattle.std.proofs.lemmas.List.{append-nil}
use Rattle.term.specs.declared.lock_id.LockId.{LockId}
use Rattle.transaction.specs.declared.nodes.Nodes.{Nodes}
use Rattle.transaction.specs.declared.reply.LockReply.{LockReply}
use Rattle.transaction.specs.declared.reply.LockReply.TheVariants.{Set}
use Rattle.registry_model.specs.Process.{Process}
use Rattle.node_core.specs.declared.Call.{Call}
use Rattle.node_core.specs.declared.Call.TheVariants.{SetLock}
use Rattle.cluster_world.specs.Seats.{Called, Unanswered}
use Rattle.term.specs.declared.limits.TheConstants.{MOST_EVENTS}
use Rattle.cluster_world.proofs.Unmade.{unmade_call}
use Rattle.cluster_world.proofs.seat.WorldSeatLockSeat.set_lock.Goals as goal

pub returns : goal.returns
returns g c =
    let call : SetLock c.copy-2.result c.copy-3.result c.in-Ok.nodes c.args.retries
    ≡ SetLock c.args.self.now.holder c.args.id.now c.args.nodes.now c.args.retries =
    ap (λ (p : Process). SetLock p c.copy-3.result c.in-Ok.nodes c.args.retries) c.copy-2.ensures
    ∙ ap (λ (i : LockId). SetLock c.args.self.now.holder i c.in-Ok.nodes c.args.retries) c.copy-3.ensures
    ∙ ap (λ (ns : Nodes). SetLock c.args.self.now.holder c.args.id.now ns c.args.retries) c.in-Ok.ensures.copy in (
      record {
        replies = c.push_reserved.ensures.items
            ∙ ap (λ (l : List LockReply). l ++ Set c.copy-4.result c.in_ok-granted.granted ∷ []) c.call.ensures.replies
            ∙ ap (λ (i : LockId). c.args.self.now.replies.items ++ Set i c.in_ok-granted.granted ∷ []) c.copy-4.ensures;
        holder = c.call.ensures.holder;
        same_world = c.call.ensures.same_world;
      },
      c.call.ensures.kept,
      subst (λ (k : Call). Called c.args.self.now.holder.node k MOST_EVENTS c.args.self.now.world.now c.call.new.self.world.now
          (Some c.in_ok-granted.granted)) call c.in_ok-granted.ensures.called,
    )

pub returns-in_default : goal.returns-in_default
returns-in_default g c = (
  record { replies = sym (append-nil c.args.self.now.replies.items); holder = refl; same_world = refl },
  record { names = refl; cluster = refl },
  subst (Unanswered c.args.self.now.holder.node (SetLock c.args.self.now.holder c.args.id.now c.args.nodes.now c.args.retries)
      c.args.self.now.world.now c.args.self.now.world.now) (sym c.unmade.ensures)
      (unmade_call c.args.self.now.holder.node (SetLock c.args.self.now.holder c.args.id.now c.args.nodes.now c.args.retries)
      c.args.self.now.world.now c.set_refusal.result (c.set_refusal.ensures c.args.retries) c.in_default.ensures.named),
)
