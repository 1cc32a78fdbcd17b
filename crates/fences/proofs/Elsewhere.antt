-- What a process holds, and whether it is there, is changed by steps of its own node alone.
use Rattle.std.proofs.Common.{ℕ, Bool, true, false, ◌≡◌, ◌+◌, ◌-◌, inl, inr, Option, Some, None, List, [], ◌∷◌, ◌++◌, refl, sym, ap, ◌∙◌, subst}
use Rattle.std.specs.Prelude.{◌⊎◌, ◌&&◌, Contains, is_none, if◌then◌else◌}
use Rattle.std.proofs.lemmas.Bool.{eqb-true, ne_eqb, or_parts}
use Rattle.std.proofs.lemmas.List.{map-append, append-nil, append_assoc}
use Rattle.registry_model.specs.Process.{Process, is_process}
use Rattle.registry_model.proofs.Updates.{at_other}
use Rattle.registry_model.proofs.Lists.{is_process-true}
use Rattle.protocol_model.specs.Letter.{Id, Client, is_id}
use Rattle.protocol_model.specs.Watch.{is_dead}
use Rattle.protocol_model.specs.Node.{Node, targets}
use Rattle.protocol_model.specs.Event.{Call, Event, Answer, Refusal, first_cause, calls_spent}
use Rattle.protocol_model.specs.ClientLocks.{Try, last_try, is_true_to, is_won, gives, is_no_more, Tally, tallied, tally_after, tally_from, holds_count}
use Rattle.protocol_model.specs.World.{Opening, World, left, WorldEvent, At, Deliver, place, opening_world, local_causes, refusal, happens, accepted, answers, turn_of}
use Rattle.protocol_model.proofs.Courses.{run-append}
use Rattle.protocol_model.proofs.Finding.{none_found_in}
use Rattle.protocol_model.proofs.Waiting.{accepted-node}
use Rattle.closings.specs.Merging.{Step, happening, events_in, world_behind, TakesAll}
use Rattle.walk.proofs.Events.{accepted_of, lock_tested, live_own}
use Rattle.creations.proofs.Pushed.{happens_now, answer_place}
use Rattle.creations.proofs.Growing.{left_by}
use Rattle.creations.proofs.NamedRuns.{tally-append}
use Rattle.fences.proofs.Orders.{AreElsewhere}
use Rattle.creations.specs.Clauses.{world}

-- no tally so far
abbrev pub nothing : Tally
nothing = record { number = 0; last = None }

abbrev pub tally : Opening → List WorldEvent → Process → Id → ℕ → Tally
tally o es p id c = tally_from o (opening_world o) es p id c nothing

-- one event more
pub tally_push : (o : Opening) (es : List WorldEvent) (e : WorldEvent) (p : Process) (id : Id) (c : ℕ)
    → tally o (es ++ e ∷ []) p id c ≡ tally_after o (world o es) e p id c (tally o es p id c)
tally_push o es e p id c = tally-append o p id c (opening_world o) es (e ∷ []) nothing

-- what an accepted event makes of a count
pub counted : (o : Opening) (w : World) (e : WorldEvent) (p : Process) (id : Id) (c : ℕ) (k : Tally) (gone won given : Bool)
    → refusal o w e ≡ None → is_no_more (happens o w e) p ≡ gone
    → is_won p id c (answers o w e) (last_try w e p k.last) ≡ won → gives w e p id c ≡ given
    → (tally_after o w e p id c k).number
    ≡ (if gone then 0 else (if won then k.number + 1 else (if given then k.number - 1 else k.number)))
counted o w e p id c k gone won given free g h i =
    ap (λ (r : Option Refusal). (if is_none r then tallied o w e p id c k else k).number) free
    ∙ ap (λ (b : Bool). if b then 0 else
    (if is_won p id c (answers o w e) (last_try w e p k.last) then k.number + 1
    else (if gives w e p id c then k.number - 1 else k.number))) g
    ∙ ap (λ (b : Bool). if gone then 0 else (if b then k.number + 1 else (if gives w e p id c then k.number - 1 else k.number))) h
    ∙ ap (λ (b : Bool). if gone then 0 else (if won then k.number + 1 else (if b then k.number - 1 else k.number))) i

module _ (o : Opening) (es : List WorldEvent) (e : WorldEvent) (is : refusal o (world o es) e ≡ None) (p : Process)
    (away : place e ≡ p.node → ⊥) where
  abbrev w : World
  w = world o es

  -- p's node stays as it was, and doesn't leave
  same_node : (accepted o w e).node p.node ≡ w.node p.node
  same_node = ap (λ (f : ℕ → Node). f p.node) (accepted-node o w e)
      ∙ at_other w.node (place e) (turn_of o w e).node p.node (λ i. away (sym i))

  stays : left w p.node ≡ false → left (accepted o w e) p.node ≡ false
  stays up = go (left (accepted o w e) p.node) refl
    where
      by : (left w p.node ≡ true) ⊎ (p.node ≡ place e) → true ≡ false
      by (inl h) = sym h ∙ up
      by (inr h) = absurd (away (sym h))

      go : (b : Bool) → left (accepted o w e) p.node ≡ b → b ≡ false
      go true h = by (left_by o w e p.node h)
      go false h = refl

  -- so p is there
  pub still_there : is_no_more w p ≡ false → is_no_more (happens o w e) p ≡ false
  still_there alive = ap (λ (v : World). is_no_more v p) (happens_now o es e is)
      ∙ rw (stays (or_parts (left w p.node) (is_dead (w.node p.node).watch p.serial) alive).0)
      (ap (λ (v : Node). is_dead v.watch p.serial) same_node
      ∙ (or_parts (left w p.node) (is_dead (w.node p.node).watch p.serial) alive).1)

  -- nothing is answered to p
  won_nothing : (id : Id) (c : ℕ) (t : Option Try) → is_won p id c (answers o w e) t ≡ false
  won_nothing id c None = refl
  won_nothing id c (Some t) = rw (none_found_in (is_true_to p t) (answers o w e) other) (go (is_id t.id id) (t.asks c))
    where
      other : (s : Answer) → Contains (answers o w e) s → is_true_to p t s ≡ false
      other s k = rw (ne_eqb s.node p.node (λ i. away (sym (answer_place o es e is s k) ∙ i))) refl

      go : (a b : Bool) → (a && b && false) ≡ false
      go true true = refl
      go true false = refl
      go false true = refl
      go false false = refl

  -- and p gives nothing back
  gives_nothing : (id : Id) (c : ℕ) → gives w e p id c ≡ false
  gives_nothing id c = go e refl
    where
      go : (x : WorldEvent) → e ≡ x → gives w x p id c ≡ false
      go (At a (Event.Calling (Call.DelLock q r z target))) i = by (is_process q p) refl (is_id (Client r z) id)
          (targets (w.node a).replica.members target c)
        where
          home : q.node ≡ a
          home = eqb-true q.node a (live_own a (w.node a).watch q (lock_tested a (w.node a) q r (calls_spent (w.node a) ∷ [])
              (subst (λ (x : WorldEvent). first_cause (local_causes w x) ≡ None) i (accepted_of o w e is).local)).0).0

          by : (b : Bool) → is_process q p ≡ b → (d f : Bool) → (b && d && f) ≡ false
          by true h d f = absurd (away (ap place i ∙ sym home ∙ ap (λ (x : Process). x.node) (is_process-true q p h)))
          by false h true true = refl
          by false h true false = refl
          by false h false true = refl
          by false h false false = refl
      go (At a (Event.Calling (Call.SetLock q r z target retries))) i = refl
      go (At a (Event.Calling Call.Spawn)) i = refl
      go (At a (Event.Calling (Call.LookUp look))) i = refl
      go (At a (Event.Calling (Call.OnName call))) i = refl
      go (At a (Event.Calling (Call.JoinBy m))) i = refl
      go (At a Event.Retry) i = refl
      go (At a (Event.Exiting q)) i = refl
      go (At a Event.Leave) i = refl
      go (Deliver f t) i = refl

  -- so its count stays
  pub count_stays : (id : Id) (c : ℕ) → is_no_more w p ≡ false
      → holds_count o (es ++ e ∷ []) p id c ≡ holds_count o es p id c
  count_stays id c alive = ap (λ (k : Tally). k.number) (tally_push o es e p id c)
      ∙ counted o w e p id c (tally o es p id c) false false false is (still_there alive)
      (won_nothing id c (last_try w e p (tally o es p id c).last)) (gives_nothing id c)

-- the events of steps, and of one more
pub events_push : (ss : List Step) (s : Step) → events_in (ss ++ s ∷ []) ≡ events_in ss ++ happening s ∷ []
events_push ss s = map-append happening ss (s ∷ [])

pub world_push : (o : Opening) (ss : List Step) (s : Step)
    → world_behind o (ss ++ s ∷ []) ≡ happens o (world_behind o ss) (happening s)
world_push o ss s = ap (world o) (events_push ss s) ∙ run-append o (opening_world o) (events_in ss) (happening s ∷ [])

-- steps of other nodes keep all that p holds
pub kept : (o : Opening) (p : Process) (id : Id) (c : ℕ) (before ts : List Step) → TakesAll o (world_behind o before) ts
    → AreElsewhere p.node ts → is_no_more (world_behind o before) p ≡ false
    → holds_count o (events_in (before ++ ts)) p id c ≡ holds_count o (events_in before) p id c
kept o p id c before [] taken away alive = ap (λ (ss : List Step). holds_count o (events_in ss) p id c) (append-nil before)
kept o p id c before (t ∷ ts) taken away alive =
    ap (λ (ss : List Step). holds_count o (events_in ss) p id c) (sym (append_assoc before (t ∷ []) ts))
    ∙ kept o p id c (before ++ t ∷ []) ts
    (subst (λ (w : World). TakesAll o w ts) (sym (world_push o before t)) taken.1) away.1
    (subst (λ (w : World). is_no_more w p ≡ false) (sym (world_push o before t))
    (still_there o (events_in before) (happening t) taken.0.accepted p elsewhere alive))
    ∙ ap (λ (es : List WorldEvent). holds_count o es p id c) (events_push before t)
    ∙ count_stays o (events_in before) (happening t) taken.0.accepted p elsewhere id c alive
  where
    elsewhere : place (happening t) ≡ p.node → ⊥
    elsewhere i = away.0 (sym taken.0.own ∙ i)
