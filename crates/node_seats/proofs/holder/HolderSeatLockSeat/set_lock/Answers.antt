use Rattle.std.proofs.Common.{◌≡◌, ◌∙◌, refl, sym, ap, subst}
use Rattle.term.specs.declared.lock_id.LockId.{LockId}
use Rattle.registry_model.specs.Process.{Process}
use Rattle.transaction.specs.declared.nodes.Nodes.{Nodes}
use Rattle.shared_table.specs.declared.Call.{Call}
use Rattle.shared_table.specs.declared.Call.TheVariants.{SetLock}
use Rattle.shared_table.specs.NodeEventsSeen.{reply_of}
use Rattle.node_seats.specs.Seats.{Answered}
use Rattle.node_seats.specs.Fences.{grants}
use Rattle.node_seats.proofs.Holders.{set_more}
use Rattle.node_seats.proofs.holder.HolderSeatLockSeat.set_lock.Goals as goal

pub returns : goal.returns
returns g c =
    let call : SetLock c.copy.result c.copy-2.result c.in_ok-nodes.nodes c.args.retries
    ≡ SetLock c.args.self.now.holder c.args.id.now c.args.nodes.now c.args.retries =
    ap (λ (p : Process). SetLock p c.copy-2.result c.in_ok-nodes.nodes c.args.retries) c.copy.ensures
    ∙ ap (λ (i : LockId). SetLock c.args.self.now.holder i c.in_ok-nodes.nodes c.args.retries) c.copy-2.ensures
    ∙ ap (λ (ns : Nodes). SetLock c.args.self.now.holder c.args.id.now ns c.args.retries) c.in_ok-nodes.ensures.copy in
    let answered : Answered (SetLock c.args.self.now.holder c.args.id.now c.args.nodes.now c.args.retries) c.in_ok-reply.reply c.args.self.now.seat.now c.call.new.self =
    subst (λ (k : Call). Answered k c.in_ok-reply.reply c.args.self.now.seat.now c.call.new.self) call c.in_ok-reply.ensures.ok in
    let granted : grants (reply_of answered.answer.reply) ≡ c.is_granted.result = ap grants answered.says ∙ sym c.is_granted.ensures in (
      record {
        replies = set_more c.args.self.now.holder c.args.self.now.seat.now c.call.new.self c.args.id.now c.args.nodes.now answered.stamp answered.answer c.args.retries c.is_granted.result answered.kept granted;
        holder = refl;
        same_seat = refl;
      },
      record {
        answer = answered.answer;
        stamp = answered.stamp;
        told = answered.told;
        says = granted;
        kept = answered.kept;
      },
    )
