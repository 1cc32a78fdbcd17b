-- An accepted event that answers a process's last deletion `true`: all nodes that it went to have given back then, and
-- its process lives; or it went nowhere.
use mathlib.Core.Logic.{◌⊎◌}
use Rattle.std.proofs.Common.{ℕ, Bool, true, false, ◌≡◌, ◌+◌, ◌≤◌, Option, Some, None, List, ◌∷◌, refl, sym, ap, ◌∙◌, subst, inl, inr}
use Rattle.std.specs.Prelude.{nat_lt, if◌then◌else◌}
use Rattle.std.specs.List.{list_all}
use Rattle.std.proofs.lemmas.Bool.{ltb-true}
use Rattle.registry_model.specs.Process.{Text, Process, is_process, Nodes, at}
use Rattle.protocol_model.specs.Letter.{Client}
use Rattle.protocol_model.specs.Watch.{Watch, is_dead}
use Rattle.protocol_model.specs.Node.{Node, LockCall, Target, targets}
use Rattle.protocol_model.specs.Event.{Call, Event}
use Rattle.protocol_model.specs.LockAnswers.{Deletion, deletion_by}
use Rattle.protocol_model.specs.World.{Opening, in_world, World, left, WorldEvent, At, Deliver, place, turn_of, accepted}
use Rattle.registry_model.proofs.Updates.{at_same}
use Rattle.moves.proofs.Rules.{Rule, MayAll, effects, answers_by}
use Rattle.moves.proofs.Rules.Rule.{CallsLock, AsksLock, FailsLock, DeletesLock, DeletesNothing}
use Rattle.moves.proofs.Indices.{both, empty_at}
use Rattle.walk.proofs.ChainKinds.{Aside, Again, Hearing, suits}
use Rattle.walk.proofs.Orders.{ordered_keeps}
use Rattle.walk.proofs.Walk.{InOrder}
use Rattle.leftovers.proofs.Clients.{Numbers, lives, IsLive, live_parts, lives_by, call_at}
use Rattle.leftovers.proofs.Answering.{any_true}
use Rattle.leftovers.proofs.Beginnings.{either_rule, numbered, same_targets, attempt, new_try, deletion, fresh, deletes_silent, nothing_silent}
use Rattle.leftovers.proofs.Chains.{is_calm, aside_calm, calm_answers}
use Rattle.leftovers.proofs.HeardChains.{answered_none}
use Rattle.leftovers.proofs.Numbering.{Numbered}
use Rattle.leftovers.proofs.Told.{all_of_all, retry_calm, chain_of, first_heard}
use Rattle.lock_answers.proofs.Spared.{letter_watch, true_lock}
use Rattle.lock_answers.proofs.OpenDeletions.{Known}
use Rattle.lock_answers.proofs.DeletionChains.{Deletes, IsDeleted, ends_chain}
use Rattle.lock_answers.proofs.DeletionEvents.{Told}

-- who lives where a letter is read that leaves the watch lives behind it
watched_lives : (o : Opening) (f b : ℕ) (w : World) → (turn_of o w (Deliver f b)).node.watch ≡ (w.node b).watch
    → (p : Process) → p.node ≡ b → lives o w p ≡ true → lives o (accepted o w (Deliver f b)) p ≡ true
watched_lives o f b w watch p home living = lives_by o (accepted o w (Deliver f b)) p (record {
  inside = v.inside;
  up = v.up;
  client = v.client;
  alive = ap (λ (i : ℕ). is_dead (at w.node b (turn_of o w (Deliver f b)).node i).watch p.serial) home
      ∙ ap (λ (n : Node). is_dead n.watch p.serial) (at_same w.node b (turn_of o w (Deliver f b)).node)
      ∙ ap (λ (x : Watch). is_dead x p.serial) watch
      ∙ ap (λ (i : ℕ). is_dead (w.node i).watch p.serial) (sym home) ∙ v.alive;
})
  where
    v : IsLive o w p
    v = live_parts o w p living

module _ (o : Opening) (w : World) (num : Numbers) (K : Known o w num) (N : Numbered o w) (p : Process)
    (t : Option Deletion) (T : Told o p w t) where
  -- the deletion d has ended at all nodes that run, and p lives; or it went nowhere
  abbrev pub HasEnded : Deletion → World → Type 0
  HasEnded d v = (IsDeleted o p d.number d.nodes v × (lives o v p ≡ true))
      ⊎ ((x : ℕ) → in_world o x ≡ true → d.nodes x ≡ false)

  -- no rule of these answers a lock call `true`
  silent : (a : ℕ) (rs : List Rule) → list_all is_calm rs ≡ true → MayAll o a rs w → (k : ℕ)
      → any_true p.node k (answers_by o a rs w) ≡ false
  silent a rs h m k = calm_answers o a rs w h m K.replying p.node k

  aside_silent : (a : ℕ) (rs : List Rule) → list_all (suits Aside) rs ≡ true → MayAll o a rs w → (k : ℕ)
      → any_true p.node k (answers_by o a rs w) ≡ false
  aside_silent a rs h m k = silent a rs (all_of_all (suits Aside) is_calm aside_calm rs h) m k

  -- a delivery
  module _ (f b : ℕ) (rest : List Rule) (m : MayAll o b (chain_of o w (Deliver f b) rest) w)
      (h : list_all (suits Hearing) rest ≡ true) (d : Deletion) (last : t ≡ Some d) (here : p.node ≡ b)
      (running : left w b ≡ false)
      (is : effects o b (chain_of o w (Deliver f b) rest) w ≡ accepted o w (Deliver f b))
      (same : answers_by o b (chain_of o w (Deliver f b) rest) w ≡ (turn_of o w (Deliver f b)).answers)
      (answered : any_true p.node d.number (answers_by o b (chain_of o w (Deliver f b) rest) w) ≡ true) where
    fits : list_all (suits Hearing) (chain_of o w (Deliver f b) rest) ≡ true
    fits = first_heard o (ordered_keeps o) w num K.ordered K.replying N f b (w.links.queue f b) rest h

    D : Deletes o p d.number d.nodes w
    D = T d last

    lived_before : lives o w p ≡ true
    lived_before = go (lives o w p) refl
      where
        go : (c : Bool) → lives o w p ≡ c → lives o w p ≡ true
        go true e = e
        go false e =
            let none : call_at w p ≡ None = K.clients.callers p e (ap (left w) here ∙ running) in
            let unanswered : any_true p.node d.number (answers_by o b (chain_of o w (Deliver f b) rest) w) ≡ false =
            answered_none o b (ordered_keeps o) (chain_of o w (Deliver f b) rest) w num d.number fits m K.ordered
            K.replying
            (λ q c home found n. absurd (cc (
              subst (λ (k : Process). call_at w k ≡ Some c)
                  (D.alone q c (home ∙ sym here) found n) found,
              none,
            ))) p.node in
            cc (unanswered, answered)

    lives_after : lives o (effects o b (chain_of o w (Deliver f b) rest) w) p ≡ true
    lives_after = subst (λ (v : World). lives o v p ≡ true) (sym is) (watched_lives o f b w (letter_watch o w f b
        (true_lock p.node d.number (turn_of o w (Deliver f b)).answers
        (ap (any_true p.node d.number) (sym same) ∙ answered))) p here lived_before)

    heard_ends : HasEnded d (effects o b (chain_of o w (Deliver f b) rest) w)
    heard_ends = inl (
      ends_chain o p d.number d.nodes b (chain_of o w (Deliver f b) rest) w num K fits m D lives_after answered,
      lives_after,
    )

  -- a deletion that goes nowhere
  nothing_ends : (a : ℕ) (q : Process) (r z : Text) (target : Target) (rest : List Rule)
      → MayAll o a (CallsLock ∷ DeletesNothing (fresh o w a q r z target) ∷ rest) w
      → list_all (suits Aside) rest ≡ true → (d : Deletion)
      → deletion_by w (deletion o w a q r z target) p t ≡ Some d
      → any_true p.node d.number (answers_by o a (CallsLock ∷ DeletesNothing (fresh o w a q r z target) ∷ rest) w)
      ≡ true
      → HasEnded d (effects o a (CallsLock ∷ DeletesNothing (fresh o w a q r z target) ∷ rest) w)
  nothing_ends a q r z target rest m h d last answered = go (is_process q p) last
    where
      none : (x : ℕ) → in_world o x ≡ true → targets (w.node a).replica.members target x ≡ false
      none x inside = ap (λ (s : Nodes). s x) (sym (same_targets o w a target))
          ∙ empty_at o.bound (targets ((numbered o w a).node a).replica.members target) m.1.0.tested.1 x
          (ltb-true x o.bound (both (nat_lt x o.bound) (o.nodes x) inside).0)

      go : (b : Bool) → (if b then Some (record {
        number = (w.node a).last_call + 1;
        id = Client r z;
        nodes = targets (w.node a).replica.members target;
      }) else t) ≡ Some d → HasEnded d (effects o a (CallsLock ∷ DeletesNothing (fresh o w a q r z target) ∷ rest) w)
      go true i = inr (λ x inside. ap (λ (g : Option Deletion). elim g [ None ↦ false | Some k ↦ k.nodes x ]) (sym i)
          ∙ none x inside)
      -- its own number is greater than that of an older one
      go false i = absurd (cc (
        nothing_silent o w a q r z target K.replying rest h p.node d.number m
            (λ e. subst (λ (n : ℕ). d.number ≤ (w.node n).last_call) (sym e) (T d i).below),
        answered,
      ))

  -- what is to be shown of an event that is this chain
  abbrev pub Ends : WorldEvent → List Rule → Type 0
  Ends e rest = (d : Deletion) → deletion_by w e p t ≡ Some d
      → any_true p.node d.number (answers_by o (place e) (chain_of o w e rest) w) ≡ true
      → HasEnded d (effects o (place e) (chain_of o w e rest) w)

  -- an event that answers none
  by_silence : (e : WorldEvent) (rest : List Rule)
      → ((k : ℕ) → any_true p.node k (answers_by o (place e) (chain_of o w e rest) w) ≡ false) → Ends e rest
  by_silence e rest none d last answered = absurd (cc (none d.number, answered))

  -- each accepted event
  pub ends_on : (e : WorldEvent) (rest : List Rule) → MayAll o (place e) (chain_of o w e rest) w → InOrder o w e rest
      → p.node ≡ place e → left w (place e) ≡ false
      → effects o (place e) (chain_of o w e rest) w ≡ accepted o w e
      → answers_by o (place e) (chain_of o w e rest) w ≡ (turn_of o w e).answers → Ends e rest
  ends_on (At a (Event.Calling Call.Spawn)) rest m h here running is same =
      by_silence (At a (Event.Calling Call.Spawn)) rest
      (aside_silent a (chain_of o w (At a (Event.Calling Call.Spawn)) rest) h m)
  ends_on (At a (Event.Calling (Call.LookUp look))) rest m h here running is same =
      by_silence (At a (Event.Calling (Call.LookUp look))) rest
      (aside_silent a (chain_of o w (At a (Event.Calling (Call.LookUp look))) rest) h m)
  ends_on (At a (Event.Calling (Call.OnName c))) rest m h here running is same =
      by_silence (At a (Event.Calling (Call.OnName c))) rest
      (aside_silent a (chain_of o w (At a (Event.Calling (Call.OnName c))) rest) h m)
  ends_on (At a (Event.Calling (Call.JoinBy j))) rest m h here running is same =
      by_silence (At a (Event.Calling (Call.JoinBy j))) rest
      (aside_silent a (chain_of o w (At a (Event.Calling (Call.JoinBy j))) rest) h m)
  ends_on (At a (Event.Exiting q)) rest m h here running is same =
      by_silence (At a (Event.Exiting q)) rest (aside_silent a (chain_of o w (At a (Event.Exiting q)) rest) h m)
  ends_on (At a Event.Leave) rest m h here running is same =
      by_silence (At a Event.Leave) rest (aside_silent a (chain_of o w (At a Event.Leave) rest) h m)
  ends_on (At a Event.Retry) rest m h here running is same =
      by_silence (At a Event.Retry) rest
      (silent a rest (all_of_all (suits (Again (w.node a))) is_calm (retry_calm (w.node a)) rest h) m)
  ends_on (Deliver f b) rest m h here running is same =
      λ d last answered. heard_ends f b rest m h d last here running is same answered
  ends_on (At a (Event.Calling (Call.SetLock q r z target retries))) rest m h here running is same =
      either_rule o w a (Ends event) _ _ h.0 h.1.0 rest h.1.1.0 h.1.1.1 m
      (λ k. by_silence event (AsksLock new ∷ h.1.0) (silent a (CallsLock ∷ AsksLock new ∷ h.1.0) calm k))
      (λ k. by_silence event (FailsLock new ∷ h.1.0) (silent a (CallsLock ∷ FailsLock new ∷ h.1.0) calm k))
    where
      event : WorldEvent
      event = attempt o w a q r z target retries

      new : LockCall
      new = new_try o w a q r z target retries

      calm : list_all is_calm h.1.0 ≡ true
      calm = all_of_all (suits Aside) is_calm aside_calm h.1.0 h.1.1.2
  ends_on (At a (Event.Calling (Call.DelLock q r z target))) rest m h here running is same =
      either_rule o w a (Ends (deletion o w a q r z target)) _ _ h.0 h.1.0 rest h.1.1.0 h.1.1.1 m
      (λ k. by_silence (deletion o w a q r z target) (DeletesLock (fresh o w a q r z target) ∷ h.1.0)
      (λ n. deletes_silent o w a q r z target K.replying h.1.0 h.1.1.2 p.node n k))
      (λ k d last answered. nothing_ends a q r z target h.1.0 k h.1.1.2 d last answered)
