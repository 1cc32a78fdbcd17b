-- A named event is an event of the world that it is made of.
use mathlib.Core.Logic.{◌⊎◌, inl, inr}
use Rattle.std.proofs.Common.{ℕ, zero, suc, Bool, true, false, ◌≡◌, ◌<◌, ◌≤◌, ◌+◌, Option, Some, None, List, [], ◌∷◌, refl, sym, ap, subst, ◌∙◌, arith}
use Rattle.std.specs.Prelude.{is_none, option_map, find, map, not, if◌then◌else◌}
use Rattle.std.specs.Option.{option_or}
use Rattle.std.proofs.lemmas.Bool.{cases_eq, lt-ltb}
use Rattle.std.proofs.lemmas.List.{append-nil}
use Rattle.std.proofs.lemmas.List.Folds.{find-append}
use Rattle.std.proofs.lemmas.List.Sums.{fold-append}
use Rattle.protocol_model.specs.Links.{is_nil}
use Rattle.protocol_model.specs.Letter.{Letter}
use Rattle.protocol_model.specs.Event.{Event, Refusal, NoSuchNode}
use Rattle.protocol_model.specs.World.{WorldEvent, other, in_world, refusal, turn_of, answers, accepted, run, all_answers}
use Rattle.protocol_model.specs.SharedLaws.{NamesNode}
use Rattle.protocol_model.proofs.Places.{tells_its_places}
use Rattle.creations.specs.NodeNames.{NamedOpening, is_name, node_of, name_of, creation_of, first_nodes, opening_of, HasNumber}
use Rattle.creations.specs.NamedWorld.{NamedWorld, NamedEvent, AtNode, Deliver, Restart, NamedRefusal, Plain, opening_named, present_node, has_started, or_present, sender_to, next_node, plain, plain_refusal, named_refusal, present_after, accepted_named, plain_accepted, happens_named, after_events}
use Rattle.creations.specs.Restarts.{who_left}
use Rattle.creations.proofs.Numbers.{name-node, creation-node, inside-name}
use Rattle.creations.proofs.Standing.{Sound, started_from, started_to}
use Rattle.creations.proofs.Catching.{who_waits}
use Rattle.creations.proofs.Restarting.{MayRestart, may_restart}
use Rattle.creations.proofs.NamedRuns.{after_events-push, as_events-push}
use Rattle.creations.proofs.Always.{always}
use Rattle.named_events.specs.Events.{HasStarted, IsTheEvent, IsRefused, IsOldestSender, EventsAreOfNodes, NamedEventsAreOfNodes, NamedEventsFollow}

-- a link on which nothing is found to wait is empty
empty : (ls : List Letter) → not (is_nil ls) ≡ false → ls ≡ []
empty [] e = refl
empty (l ∷ ls) e = absurd (cc e)

module _ (o : NamedOpening) where
  -- What is found among the first nodes of a name
  abbrev Finds : (ℕ → Bool) → ℕ → ℕ → Option ℕ → Type 0
  Finds p x k None = (d : ℕ) → 1 ≤ d → d ≤ k → p (node_of o x d) ≡ false
  Finds p x k (Some s) = (c : ℕ) × (1 ≤ c) × (c ≤ k) × (s ≡ node_of o x c) × (p s ≡ true)
      × ((d : ℕ) → 1 ≤ d → d < c → p (node_of o x d) ≡ false)

  finds : (p : ℕ → Bool) (x k : ℕ) → Finds p x k (find p (first_nodes o x k))
  finds p x zero = λ d i l. absurd (omega (arith, i, l))
  finds p x (suc k) = subst (Finds p x (suc k)) (sym (find-append p (first_nodes o x k) (node_of o x (suc k) ∷ [])))
      (by (find p (first_nodes o x k)) (finds p x k))
    where
      by : (y : Option ℕ) → Finds p x k y
          → Finds p x (suc k) (option_or y (if p (node_of o x (suc k)) then Some (node_of o x (suc k)) else None))
      by (Some s) F = let l : F.0 ≤ k = F.2 in (F.0, F.1, omega arith, F.3, F.4, F.5)
      by None F = go (p (node_of o x (suc k))) refl
        where
          go : (b : Bool) → p (node_of o x (suc k)) ≡ b → Finds p x (suc k) (if b then Some (node_of o x (suc k)) else None)
          go true e = (suc k, omega arith, omega arith, refl, e, λ d i l. F d i (omega (arith, l)))
          go false e = λ d i l. elim (cases_eq d (suc k)) [
            | inl same ↦ ap (λ (y : ℕ). p (node_of o x y)) same ∙ e
            | inr ne ↦ F d i (omega (arith, l, ne))
          ]

  module _ (w : NamedWorld) where
    -- what is refused changes nothing
    refused_is : (named : NamedEvent) (why : NamedRefusal) → named_refusal o w named ≡ Some why → IsRefused o w named why
    refused_is named why r = record {
      refused = r;
      unplayed = ap (λ (x : Option NamedRefusal). if is_none x then plain o w named else []) r;
      unanswered = ap (λ (x : Option NamedRefusal).
          all_answers (opening_of o) w.world (if is_none x then plain o w named else [])) r;
      unchanged = ap (λ (x : Option NamedRefusal). if is_none x then accepted_named o w named else w) r;
    }

    -- what is one event of the world
    one_event : (named : NamedEvent) (e : WorldEvent)
        → named_refusal o w named ≡ option_map Plain (refusal (opening_of o) w.world e)
        → plain o w named ≡ e ∷ [] → present_after o w named ≡ w.present → IsTheEvent o w named e
    one_event named e r p k = go (refusal (opening_of o) w.world e) refl
      where
        go : (x : Option Refusal) → refusal (opening_of o) w.world e ≡ x → IsTheEvent o w named e
        go None i =
            let q : named_refusal o w named ≡ None = r ∙ ap (option_map Plain) i in
            record {
              refused = r;
              played = ap (λ (x : Option NamedRefusal). if is_none x then plain o w named else []) q
                  ∙ p ∙ sym (ap (λ (x : Option Refusal). if is_none x then e ∷ [] else []) i);
              answered = ap (λ (x : Option NamedRefusal).
                  all_answers (opening_of o) w.world (if is_none x then plain o w named else [])) q
                  ∙ ap (all_answers (opening_of o) w.world) p ∙ append-nil (answers (opening_of o) w.world e);
              world = ap (λ (x : Option NamedRefusal). (if is_none x then accepted_named o w named else w).world) q
                  ∙ ap (run (opening_of o) w.world) p;
              present = ap (λ (x : Option NamedRefusal). (if is_none x then accepted_named o w named else w).present) q ∙ k;
            }
        go (Some y) i =
            let d : IsRefused o w named (Plain y) = refused_is named (Plain y) (r ∙ ap (option_map Plain) i) in
            record {
              refused = r;
              played = d.unplayed ∙ sym (ap (λ (x : Option Refusal). if is_none x then e ∷ [] else []) i);
              answered = d.unanswered
                  ∙ sym (ap (λ (x : Option Refusal). if is_none x then (turn_of (opening_of o) w.world e).answers else []) i);
              world = ap (λ (v : NamedWorld). v.world) d.unchanged
                  ∙ sym (ap (λ (x : Option Refusal). if is_none x then accepted (opening_of o) w.world e else w.world) i);
              present = ap (λ (v : NamedWorld). v.present) d.unchanged;
            }

    -- where both nodes of an event have started it is refused as in the world
    plainly : (e : WorldEvent) → has_started o w (other e) ≡ true
        → plain_refusal o w e ≡ option_map Plain (refusal (opening_of o) w.world e)
    plainly e s = ap (λ (b : Bool). if b then option_map Plain (refusal (opening_of o) w.world e) else Some (Plain NoSuchNode)) s

    unstarted : (n : ℕ) → (HasStarted o w n → ⊥) → has_started o w n ≡ false
    unstarted n none = go (has_started o w n) refl
      where
        go : (b : Bool) → has_started o w n ≡ b → b ≡ false
        go true e = absurd (none (started_to o w n e))
        go false e = refl

    at_node : (n : ℕ) (e : Event) → ((m : ℕ) → NamesNode (WorldEvent.At n e) m → HasStarted o w m)
        → IsTheEvent o w (AtNode n e) (WorldEvent.At n e)
    at_node n e all = one_event (AtNode n e) (WorldEvent.At n e)
        (ap (λ (b : Bool). if b then plain_refusal o w (WorldEvent.At n e) else Some (Plain NoSuchNode))
        (started n ((tells_its_places.names (WorldEvent.At n e) n).1 (inl refl)))
        ∙ plainly (WorldEvent.At n e)
        (started (other (WorldEvent.At n e))
        ((tells_its_places.names (WorldEvent.At n e) (other (WorldEvent.At n e))).1 (inr refl))))
        refl refl
      where
        started : (m : ℕ) → NamesNode (WorldEvent.At n e) m → has_started o w m ≡ true
        started m i = started_from o w m (all m i)

    at_none : (n m : ℕ) (e : Event) → NamesNode (WorldEvent.At n e) m → (HasStarted o w m → ⊥)
        → IsRefused o w (AtNode n e) (Plain NoSuchNode)
    at_none n m e i none = refused_is (AtNode n e) (Plain NoSuchNode)
        (by ((tells_its_places.names (WorldEvent.At n e) m).0 i) (has_started o w n) refl)
      where
        by : (m ≡ n) ⊎ (m ≡ other (WorldEvent.At n e)) → (b : Bool) → has_started o w n ≡ b
            → (if b then plain_refusal o w (WorldEvent.At n e) else Some (Plain NoSuchNode)) ≡ Some (Plain NoSuchNode)
        by k false q = refl
        by (inl here) true q = absurd (cc (ap (has_started o w) here, unstarted m none, q))
        by (inr there) true q =
            ap (λ (b : Bool).
            if b then option_map Plain (refusal (opening_of o) w.world (WorldEvent.At n e)) else Some (Plain NoSuchNode))
            (ap (has_started o w) (sym there) ∙ unstarted m none)

  module _ (w : NamedWorld) (s : Sound o w) where
    -- the nodes of a name that have started
    started_one : (f c : ℕ) → 1 ≤ c → c ≤ w.present f → has_started o w (node_of o f c) ≡ true
    started_one f c i l =
        let top : HasNumber o (w.present f) = s.present f in
        let number : HasNumber o c = record { first = i; last = (let k : w.present f ≤ o.last + 1 = top.last in omega arith) } in
        let e : creation_of o (node_of o f c) ≡ c = creation-node o f c number in
        let x : name_of o (node_of o f c) ≡ f = name-node o f c number in
        started_from o w (node_of o f c)
        (subst (λ (z : ℕ). creation_of o (node_of o f c) ≤ w.present z) (sym x) (omega (arith, e, l)))

    sender_is : (f n : ℕ) (y : Option ℕ) → Finds (λ m. not (is_nil (w.world.links.queue m n))) f (w.present f) y
        → IsOldestSender o w f n (or_present o w f y)
    sender_is f n None F = record {
      creation = w.present f;
      first = (s.present f).first;
      last = omega arith;
      node = refl;
      older = λ d i l. empty (w.world.links.queue (node_of o f d) n) (F d i (omega (arith, l)));
      waits = inr refl;
    }
    sender_is f n (Some m) F = record {
      creation = F.0;
      first = F.1;
      last = F.2;
      node = F.3;
      older = λ d i l. empty (w.world.links.queue (node_of o f d) n) (F.5 d i l);
      waits = inl (λ e. cc (F.4, ap (λ (ls : List Letter). not (is_nil ls)) e));
    }

    pub sender : (f n : ℕ) → IsOldestSender o w f n
        (or_present o w f (find (λ m. not (is_nil (w.world.links.queue m n))) (first_nodes o f (w.present f))))
    sender f n = sender_is f n (find (λ m. not (is_nil (w.world.links.queue m n))) (first_nodes o f (w.present f)))
        (finds (λ m. not (is_nil (w.world.links.queue m n))) f (w.present f))

    pub delivery : (f t : ℕ) → IsTheEvent o w (Deliver f t) (WorldEvent.Deliver (sender_to o w f t) (present_node o w t))
    delivery f t =
        let from : IsOldestSender o w f (present_node o w t) (sender_to o w f t) = sender f (present_node o w t) in
        one_event w (Deliver f t) (WorldEvent.Deliver (sender_to o w f t) (present_node o w t))
        (plainly w (WorldEvent.Deliver (sender_to o w f t) (present_node o w t))
        (ap (has_started o w) from.node ∙ started_one f from.creation from.first from.last)) refl refl

    -- the notices of those that have left wait for the node that starts, and nothing else does
    restart : (x : ℕ) → named_refusal o w (Restart x) ≡ None
        → plain_accepted o w (Restart x) ≡ map (λ d. WorldEvent.Deliver d (next_node o w x)) (who_left o w)
    restart x r = ap (λ (y : Option NamedRefusal). if is_none y then plain o w (Restart x) else []) r
        ∙ ap (map (λ d. WorldEvent.Deliver d n)) (who_waits o w s n unstarted inside)
      where
        n : ℕ
        n = next_node o w x

        may : MayRestart o w x
        may = may_restart o w x r

        number : HasNumber o (w.present x + 1)
        number = let l : w.present x < o.last = may.further in record { first = omega arith; last = omega arith }

        unstarted : has_started o w n ≡ false
        unstarted =
            let c : creation_of o n ≡ w.present x + 1 = creation-node o x (w.present x + 1) number in
            let p : w.present (name_of o n) ≡ w.present x = ap w.present (name-node o x (w.present x + 1) number) in
            ap not (lt-ltb (w.present (name_of o n)) (creation_of o n) (omega (arith, c, p)))

        inside : in_world (opening_of o) n ≡ true
        inside = inside-name o n ∙ ap (is_name o) (name-node o x (w.present x + 1) number) ∙ may.known

    are_of_nodes : EventsAreOfNodes o w
    are_of_nodes = record {
      at_node = at_node w;
      at_none = at_none w;
      at_name = λ x e. record { refused = refl; played = refl; answered = refl; happened = refl };
      delivery = λ f t. (sender_to o w f t, sender f (present_node o w t), delivery f t);
      restart = restart;
      refused = refused_is w;
    }

pub events_are_of_nodes : NamedEventsAreOfNodes
events_are_of_nodes o es = are_of_nodes o (after_events o es) (always o es)

pub events_follow_each_other : NamedEventsFollow
events_follow_each_other o = record {
  world = refl;
  present = λ x. refl;
  next = after_events-push o;
  unplayed = refl;
  plays = as_events-push o;
  behind = λ es ds. sym (fold-append (happens_named o) (opening_named o) es ds);
}
