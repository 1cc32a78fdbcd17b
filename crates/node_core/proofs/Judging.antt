-- What a lock table answers to a letter.
use Rattle.std.proofs.Common.{ℕ, Bool, true, false, ◌≡◌, Option, Some, None, refl, ap, ◌∙◌, subst}
use Rattle.std.specs.Prelude.{is_none, if◌then◌else◌}
use Rattle.registry_model.specs.Process.{Process}
use Rattle.protocol_model.specs.Letter.{Id, Letter as AnyLetter}
use Rattle.protocol_model.specs.LockTable.{Locks, refused_for, is_free_for, grant}
use Rattle.protocol_model.specs.Turn.{Turn, send, with_locks}
use Rattle.protocol_model.specs.Reading.{judge}
use Rattle.lock_table.specs.declared.verdict.Verdict.{Verdict}
use Rattle.lock_table.specs.Ids.{id_of}
use Rattle.lock_table.specs.Verdicts.{verdict_of, asked}
use Rattle.term.specs.declared.lock_id.LockId.{LockId}
use Rattle.node_events.specs.declared.events.Letter.TheVariants.{LockAnswer}
use Rattle.node_events.specs.Made.{Made, sent}
use Rattle.node_core.specs.CoreState.{CoreState}
use Rattle.node_core.specs.Seen.{turn_of, is_granted}
use Rattle.node_core.specs.Steps.{Makes}
use Rattle.node_core.proofs.Sends.{sent_is}

-- a verdict grants the lock where no id keeps the holder from it
granted_is : (kept : Option Id) → is_granted (verdict_of kept) ≡ is_none kept
granted_is None = refl
granted_is (Some id) = refl

-- the lock table, as the turn has it
locks_are : (b : Bool) (h : CoreState) (t : Made) (id : Id) (p : Process)
    → turn_of (record h { locks = if b then grant id p h.locks else h.locks }) t
    ≡ (if b then with_locks (grant id p) (turn_of h t) else turn_of h t)
locks_are true h t id p = refl
locks_are false h t id p = refl

-- the lock table answers a node that asks
pub judges : (k h : CoreState) (t u : Made) (from : ℕ) (id : LockId) (p : Process) (v : Verdict) (free : Bool)
    (locks : Locks) → h ≡ k → v ≡ verdict_of (refused_for (id_of id) p h.locks) → free ≡ is_granted v
    → locks ≡ asked (id_of id) p h.locks → u ≡ sent from (LockAnswer id p free) t → (number : ℕ → ℕ)
    → Makes (λ n a w. judge n a number from (id_of id) p (is_free_for (id_of id) p w.node.locks) w) k t
    (record h { locks = locks }) u
judges k h t u from id p v free locks same says is became made number =
    subst (λ (x : CoreState). Makes rule x t next u) same makes
  where
    lock : Id
    lock = id_of id

    next : CoreState
    next = record h { locks = locks }

    after : CoreState
    after = record h { locks = asked lock p h.locks }

    granted : Turn
    granted = if is_free_for lock p h.locks then with_locks (grant lock p) (turn_of h t) else turn_of h t

    rule : ℕ → ℕ → Turn → Turn
    rule n a w = judge n a number from lock p (is_free_for lock p w.node.locks) w

    makes : Makes rule h t next u
    makes = record {
      name = refl;
      world = refl;
      turn = ap (λ (x : Locks). turn_of (record h { locks = x }) u) became ∙ ap (turn_of after) made
          ∙ sent_is after t from (LockAnswer id p free)
          ∙ ap (λ (x : Turn). send from (AnyLetter.LockAnswer lock p free) x)
          (locks_are (is_free_for lock p h.locks) h t lock p)
          ∙ ap (λ (b : Bool). send from (AnyLetter.LockAnswer lock p b) granted)
          (is ∙ ap is_granted says ∙ granted_is (refused_for lock p h.locks));
    }
