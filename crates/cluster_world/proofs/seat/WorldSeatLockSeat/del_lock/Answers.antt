use Rattle.std.proofs.Common.{◌≡◌, ◌∙◌, ◌++◌, ◌∷◌, [], List, ap, refl, subst, sym, Some}
use Rattle.std.proofs.lemmas.List.{append-nil}
use Rattle.term.specs.declared.lock_id.LockId.{LockId}
use Rattle.transaction.specs.declared.nodes.Nodes.{Nodes}
use Rattle.transaction.specs.declared.reply.LockReply.{LockReply}
use Rattle.transaction.specs.declared.reply.LockReply.TheVariants.{Deleted}
use Rattle.registry_model.specs.Process.{Process}
use Rattle.node_core.specs.declared.Call.{Call}
use Rattle.node_core.specs.declared.Call.TheVariants.{DelLock}
use Rattle.cluster_world.specs.Seats.{Called, Unanswered}
use Rattle.term.specs.declared.limits.TheConstants.{MOST_EVENTS}
use Rattle.cluster_world.proofs.Unmade.{unmade_call}
use Rattle.cluster_world.proofs.seat.WorldSeatLockSeat.del_lock.Goals as goal

pub returns : goal.returns
returns g c =
    let call : DelLock c.copy-2.result c.copy-3.result c.in-Ok.nodes
    ≡ DelLock c.args.self.now.holder c.args.id.now c.args.nodes.now =
    ap (λ (p : Process). DelLock p c.copy-3.result c.in-Ok.nodes) c.copy-2.ensures
    ∙ ap (λ (i : LockId). DelLock c.args.self.now.holder i c.in-Ok.nodes) c.copy-3.ensures
    ∙ ap (λ (ns : Nodes). DelLock c.args.self.now.holder c.args.id.now ns) c.in-Ok.ensures.copy in (
      record {
        replies = c.push_reserved.ensures.items
            ∙ ap (λ (l : List LockReply). l ++ Deleted c.copy-4.result ∷ []) c.call.ensures.replies
            ∙ ap (λ (i : LockId). c.args.self.now.replies.items ++ Deleted i ∷ []) c.copy-4.ensures;
        holder = c.call.ensures.holder;
        same_world = c.call.ensures.same_world;
      },
      c.call.ensures.kept,
      (
        c.in_ok-call.field-0,
        subst (λ (k : Call). Called c.args.self.now.holder.node k MOST_EVENTS c.args.self.now.world.now c.call.new.self.world.now
            (Some c.in_ok-call.field-0)) call c.in_ok-call.ensures.called,
      ),
    )

pub returns-in_default : goal.returns-in_default
returns-in_default g c = (
  record { replies = sym (append-nil c.args.self.now.replies.items); holder = refl; same_world = refl },
  record { names = refl; cluster = refl },
  subst (Unanswered c.args.self.now.holder.node (DelLock c.args.self.now.holder c.args.id.now c.args.nodes.now)
      c.args.self.now.world.now c.args.self.now.world.now) (sym c.unmade.ensures)
      (unmade_call c.args.self.now.holder.node (DelLock c.args.self.now.holder c.args.id.now c.args.nodes.now)
      c.args.self.now.world.now c.deletion_refusal.result (c.deletion_refusal.ensures c.args.nodes.now) c.in_default.ensures.named),
)
