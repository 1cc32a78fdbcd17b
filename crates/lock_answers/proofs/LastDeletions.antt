-- A process's last deletion, after every list of events, and what an accepted event that answers it leaves.
use Rattle.std.proofs.Common.{ℕ, Bool, true, false, ◌≡◌, ◌+◌, Option, Some, None, List, ◌∷◌, refl, sym, ap, ◌∙◌, subst}
use Rattle.std.specs.Prelude.{if◌then◌else◌}
use Rattle.std.specs.List.{list_all}
use Rattle.registry_model.specs.Process.{Text, Process, is_process}
use Rattle.protocol_model.specs.Letter.{Id, Client}
use Rattle.protocol_model.specs.Node.{LockPhase, LockCall, Target, Retries, targets}
use Rattle.protocol_model.specs.Event.{Call, Event}
use Rattle.protocol_model.specs.LockAnswers.{Deletion, deletion_by}
use Rattle.protocol_model.specs.World.{Opening, World, WorldEvent, At, Deliver, place}
use Rattle.moves.proofs.Rules.{Rule, MayAll, effects}
use Rattle.moves.proofs.Rules.Rule.{CallsLock, AsksLock, FailsLock, DeletesLock, DeletesNothing}
use Rattle.walk.proofs.ChainKinds.{Aside, suits}
use Rattle.walk.proofs.Orders.{ordered_keeps}
use Rattle.walk.proofs.Walk.{InOrder}
use Rattle.leftovers.proofs.Ids.{is_process_same}
use Rattle.leftovers.proofs.Beginnings.{either_rule, numbered, Begins, same_targets, attempt, new_try, asking, deletion, fresh, deleting, try_asks, try_fails, deletes, deletes_nothing}
use Rattle.leftovers.proofs.Clients.{Numbers}
use Rattle.leftovers.proofs.Numbers.{num_by}
use Rattle.leftovers.proofs.Numbering.{Numbered}
use Rattle.leftovers.proofs.Told.{chain_of, first_heard}
use Rattle.lock_answers.proofs.OpenDeletions.{Known}
use Rattle.lock_answers.proofs.DeletionChains.{Deletes}
use Rattle.lock_answers.proofs.DeletionEvents
use Rattle.lock_answers.proofs.DeletionEvents.{Told}

module _ (o : Opening) (w : World) (num : Numbers) (K : Known o w num) (N : Numbered o w) (p : Process)
    (t : Option Deletion) (T : Told o p w t) where
  -- what is known behind an event that is this chain
  abbrev pub After : WorldEvent → List Rule → Type 0
  After e rest = Told o p (effects o (place e) (chain_of o w e rest) w) (deletion_by w e p t)

  -- a try
  module _ (a : ℕ) (q : Process) (r z : Text) (target : Target) (retries : Retries) where
    abbrev asker : LockCall
    asker = new_try o w a q r z target retries

    tried : (s : Rule) (rest : List Rule) (next : Option LockCall) → MayAll o a (CallsLock ∷ s ∷ rest) w
        → list_all (suits Aside) rest ≡ true → Begins o w a q s next
        → ((id : Id) (x : ℕ) → num_by a s (numbered o w a) (num_by a CallsLock w num) p id x
        ≡ num_by a CallsLock w num p id x)
        → After (attempt o w a q r z target retries) (s ∷ rest)
    tried s rest next m h B nums d e = DeletionEvents.later o w num K N p a q s rest next m h B p d.number d.nodes
        (DeletionEvents.stays o w num K N p a q s rest next m h B d.number d.nodes (λ ne. nums) (T d e))

    asked : (rest : List Rule) → MayAll o a (CallsLock ∷ AsksLock asker ∷ rest) w
        → list_all (suits Aside) rest ≡ true → After (attempt o w a q r z target retries) (AsksLock asker ∷ rest)
    asked rest m h = tried (AsksLock asker) rest (Some (asking o w a q r z target retries)) m h
        (try_asks o w a q r z target (ordered_keeps o) K.ordered rest retries m) (λ id x. refl)

    failed : (rest : List Rule) → MayAll o a (CallsLock ∷ FailsLock asker ∷ rest) w
        → list_all (suits Aside) rest ≡ true → After (attempt o w a q r z target retries) (FailsLock asker ∷ rest)
    failed rest m h = tried (FailsLock asker) rest None m h
        (try_fails o w a q r z target (ordered_keeps o) K.ordered rest retries m) (λ id x. refl)

  -- a deletion
  module _ (a : ℕ) (q : Process) (r z : Text) (target : Target) where
    abbrev new : LockCall
    new = fresh o w a q r z target

    abbrev last : Deletion
    last = record {
      number = (w.node a).last_call + 1;
      id = Client r z;
      nodes = targets (w.node a).replica.members target;
    }

    ended : (s : Rule) (rest : List Rule) (next : Option LockCall) → MayAll o a (CallsLock ∷ s ∷ rest) w
        → list_all (suits Aside) rest ≡ true → Begins o w a q s next
        → ((c : LockCall) → next ≡ Some c → c.phase ≡ LockPhase.Deleting last.nodes)
        → (is_process q p ≡ false → (id : Id) (x : ℕ) → num_by a s (numbered o w a) (num_by a CallsLock w num) p id x
        ≡ num_by a CallsLock w num p id x)
        → After (deletion o w a q r z target) (s ∷ rest)
    ended s rest next m h B phase nums d e = go (is_process q p) refl e
      where
        go : (b : Bool) → is_process q p ≡ b → (if b then Some last else t) ≡ Some d
            → Deletes o p d.number d.nodes (effects o a (CallsLock ∷ s ∷ rest) w)
        go true j i =
            let same : last ≡ d = cc i in
            subst (λ (b : Deletion). Deletes o p b.number b.nodes (effects o a (CallsLock ∷ s ∷ rest) w)) same
            (subst (λ (k : Process). Deletes o k last.number last.nodes (effects o a (CallsLock ∷ s ∷ rest) w))
            (is_process_same q p j)
            (DeletionEvents.later o w num K N p a q s rest next m h B q last.number last.nodes
            (DeletionEvents.begins o w num K N p a q s rest next m h B last.nodes phase)))
        go false j i = DeletionEvents.later o w num K N p a q s rest next m h B p d.number d.nodes
            (DeletionEvents.stays o w num K N p a q s rest next m h B d.number d.nodes nums (T d i))

    deleted : (rest : List Rule) → MayAll o a (CallsLock ∷ DeletesLock new ∷ rest) w
        → list_all (suits Aside) rest ≡ true → After (deletion o w a q r z target) (DeletesLock new ∷ rest)
    deleted rest m h = ended (DeletesLock new) rest (Some (deleting o w a q r z target)) m h
        (deletes o w a q r z target (ordered_keeps o) K.ordered rest m) phase (λ ne id x. rw ne refl)
      where
        phase : (c : LockCall) → Some (deleting o w a q r z target) ≡ Some c
            → c.phase ≡ LockPhase.Deleting last.nodes
        phase c i = let same : deleting o w a q r z target ≡ c = cc i in sym (ap (λ (j : LockCall). j.phase) same)
            ∙ ap LockPhase.Deleting (same_targets o w a target)

    deleted_nothing : (rest : List Rule) → MayAll o a (CallsLock ∷ DeletesNothing new ∷ rest) w
        → list_all (suits Aside) rest ≡ true → After (deletion o w a q r z target) (DeletesNothing new ∷ rest)
    deleted_nothing rest m h = ended (DeletesNothing new) rest None m h
        (deletes_nothing o w a q r z target (ordered_keeps o) K.ordered rest m) (λ c f. cc) (λ ne id x. rw ne refl)

  -- each accepted event
  pub told_on : (e : WorldEvent) (rest : List Rule) → MayAll o (place e) (chain_of o w e rest) w → InOrder o w e rest
      → After e rest
  told_on (At a (Event.Calling Call.Spawn)) rest m h =
      DeletionEvents.aside o w num K N p a (chain_of o w (At a (Event.Calling Call.Spawn)) rest) h m t T
  told_on (At a (Event.Calling (Call.LookUp look))) rest m h =
      DeletionEvents.aside o w num K N p a (chain_of o w (At a (Event.Calling (Call.LookUp look))) rest) h m t T
  told_on (At a (Event.Calling (Call.OnName c))) rest m h =
      DeletionEvents.aside o w num K N p a (chain_of o w (At a (Event.Calling (Call.OnName c))) rest) h m t T
  told_on (At a (Event.Calling (Call.JoinBy j))) rest m h =
      DeletionEvents.aside o w num K N p a (chain_of o w (At a (Event.Calling (Call.JoinBy j))) rest) h m t T
  told_on (At a (Event.Exiting q)) rest m h =
      DeletionEvents.aside o w num K N p a (chain_of o w (At a (Event.Exiting q)) rest) h m t T
  told_on (At a Event.Leave) rest m h =
      DeletionEvents.aside o w num K N p a (chain_of o w (At a Event.Leave) rest) h m t T
  told_on (At a Event.Retry) rest m h = DeletionEvents.retry o w num K N p a rest h m t T
  told_on (Deliver f b) rest m h = DeletionEvents.heard o w num K N p b (chain_of o w (Deliver f b) rest)
      (first_heard o (ordered_keeps o) w num K.ordered K.replying N f b (w.links.queue f b) rest h) m t T
  told_on (At a (Event.Calling (Call.SetLock q r z target retries))) rest m h =
      either_rule o w a (After (attempt o w a q r z target retries)) _ _ h.0 h.1.0 rest h.1.1.0 h.1.1.1 m
      (λ k. asked a q r z target retries h.1.0 k h.1.1.2) (λ k. failed a q r z target retries h.1.0 k h.1.1.2)
  told_on (At a (Event.Calling (Call.DelLock q r z target))) rest m h =
      either_rule o w a (After (deletion o w a q r z target)) _ _ h.0 h.1.0 rest h.1.1.0 h.1.1.1 m
      (λ k. deleted a q r z target h.1.0 k h.1.1.2) (λ k. deleted_nothing a q r z target h.1.0 k h.1.1.2)
