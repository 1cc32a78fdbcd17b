use Rattle.std.proofs.Common.{◌≡◌, ◌∙◌, refl, ap, subst}
use Rattle.term.specs.declared.lock_id.LockId.{LockId}
use Rattle.registry_model.specs.Process.{Process}
use Rattle.transaction.specs.declared.nodes.Nodes.{Nodes}
use Rattle.shared_table.specs.declared.Call.{Call}
use Rattle.shared_table.specs.declared.Call.TheVariants.{DelLock}
use Rattle.shared_table.specs.NodeEventsSeen.{reply_of}
use Rattle.node_seats.specs.Seats.{Answered}
use Rattle.node_seats.specs.Fences.{grants}
use Rattle.node_seats.proofs.Holders.{deleted_more}
use Rattle.node_seats.proofs.holder.HolderSeatLockSeat.del_lock.Goals as goal

pub returns : goal.returns
returns g c =
    let call : DelLock c.copy.result c.copy-2.result c.in_ok-nodes.nodes
    ≡ DelLock c.args.self.now.holder c.args.id.now c.args.nodes.now =
    ap (λ (p : Process). DelLock p c.copy-2.result c.in_ok-nodes.nodes) c.copy.ensures
    ∙ ap (λ (i : LockId). DelLock c.args.self.now.holder i c.in_ok-nodes.nodes) c.copy-2.ensures
    ∙ ap (λ (ns : Nodes). DelLock c.args.self.now.holder c.args.id.now ns) c.in_ok-nodes.ensures.copy in
    let answered : Answered (DelLock c.args.self.now.holder c.args.id.now c.args.nodes.now) c.in_ok-call.field-0 c.args.self.now.seat.now c.call.new.self =
    subst (λ (k : Call). Answered k c.in_ok-call.field-0 c.args.self.now.seat.now c.call.new.self) call c.in_ok-call.ensures.ok in (
      record {
        replies = deleted_more c.args.self.now.holder c.args.self.now.seat.now c.call.new.self c.args.id.now c.args.nodes.now answered.stamp answered.answer answered.kept;
        holder = refl;
        same_seat = refl;
      },
      (
        grants (reply_of answered.answer.reply),
        record {
          answer = answered.answer;
          stamp = answered.stamp;
          told = answered.told;
          says = refl;
          kept = answered.kept;
        },
      ),
    )
