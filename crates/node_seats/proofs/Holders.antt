-- The replies to a holder's lock calls, where its seat's transcript grows.
use Rattle.std.proofs.Common.{ℕ, ◌≡◌, Bool, if◌then◌else◌, Some, List, [], ◌∷◌, ◌++◌, sym, ap, ◌∙◌, append_assoc, append-nil}
use Rattle.registry_model.specs.Process.{Process}
use Rattle.registry_model.proofs.Lists.{is_process-same}
use Rattle.term.specs.declared.lock_id.LockId.{LockId}
use Rattle.transaction.specs.declared.nodes.Nodes.{Nodes}
use Rattle.transaction.specs.declared.nodes.Retries.{Retries}
use Rattle.transaction.specs.declared.reply.LockReply.{LockReply}
use Rattle.transaction.specs.declared.reply.LockReply.TheVariants.{Set, Deleted}
use Rattle.shared_table.specs.declared.Answer.{Answer}
use Rattle.shared_table.specs.declared.Call.TheVariants.{SetLock, DelLock}
use Rattle.shared_table.specs.NodeEventsSeen.{reply_of}
use Rattle.shared_table.specs.declared.LocalEvent.TheVariants.{Call as Calls}
use Rattle.shared_table.specs.declared.WorldEvent.TheVariants.{At}
use Rattle.shared_table.specs.declared.SeatEntry.{SeatEntry}
use Rattle.node_seats.specs.Fences.{grants}
use Rattle.node_seats.specs.Seats.{Sitting, with_answer}
use Rattle.node_seats.specs.Holders.{lock_reply_in, lock_replies}

-- one entry more
replies_more : (me : Process) (es : List SeatEntry) (e : SeatEntry)
    → lock_replies me (es ++ e ∷ []) ≡ lock_replies me es ++ lock_reply_in me e.event e.answer
replies_more me [] e = append-nil (lock_reply_in me e.event e.answer)
replies_more me (x ∷ es) e = ap (λ (l : List LockReply). lock_reply_in me x.event x.answer ++ l) (replies_more me es e)
    ∙ sym (append_assoc (lock_reply_in me x.event x.answer) (lock_replies me es) (lock_reply_in me e.event e.answer))

module _ (me : Process) (s t : Sitting) (id : LockId) (nodes : Nodes) (stamp : ℕ) (answer : Answer) where
  -- a lock call of the holder was answered
  pub set_more : (retries : Retries) (granted : Bool) → t ≡ record (with_answer (SetLock me id nodes retries) stamp answer s) { seen = t.seen }
      → grants (reply_of answer.reply) ≡ granted → lock_replies me t.entries ≡ lock_replies me s.entries ++ Set id granted ∷ []
  set_more retries granted is says = ap (λ (u : Sitting). lock_replies me u.entries) is
      ∙ replies_more me s.entries (record { event = At s.node (Calls (SetLock me id nodes retries)); answer = Some answer })
      ∙ ap (λ (b : Bool). lock_replies me s.entries ++ (if b then Set id (grants (reply_of answer.reply)) ∷ [] else [])) (is_process-same me)
      ∙ ap (λ (b : Bool). lock_replies me s.entries ++ Set id b ∷ []) says

  pub deleted_more : t ≡ record (with_answer (DelLock me id nodes) stamp answer s) { seen = t.seen }
      → lock_replies me t.entries ≡ lock_replies me s.entries ++ Deleted id ∷ []
  deleted_more is = ap (λ (u : Sitting). lock_replies me u.entries) is
      ∙ replies_more me s.entries (record { event = At s.node (Calls (DelLock me id nodes)); answer = Some answer })
      ∙ ap (λ (b : Bool). lock_replies me s.entries ++ (if b then Deleted id ∷ [] else [])) (is_process-same me)
