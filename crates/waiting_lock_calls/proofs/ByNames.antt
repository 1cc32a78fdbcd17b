-- Deliveries between running nodes, and retries of them, are made by names, where no letter of a node that has left waits.
use Rattle.std.proofs.Common.{ℕ, Bool, true, false, ◌==◌, ◌≡◌, ◌<◌, ◌≤◌, Option, Some, None, [], ◌∷◌, ◌++◌, drop, refl, sym, ap, subst, ◌∙◌, inl, inr, arith}
use Rattle.std.specs.Prelude.{not, ◌&&◌, Contains, find, is_none, if◌then◌else◌}
use Rattle.std.proofs.lemmas.Bool.{cases_eq, ne_eqb}
use Rattle.registry_model.specs.Process.{Nodes}
use Rattle.protocol_model.specs.Links.{is_nil}
use Rattle.protocol_model.specs.Turn.{sent_to}
use Rattle.protocol_model.specs.Event.{Event}
use Rattle.protocol_model.specs.World.{Opening, World, left, WorldEvent, At, place, other, turn_of, refusal, accepted, happens}
use Rattle.protocol_model.specs.Quiet.{Runs}
use Rattle.getting_through.proofs.Indices.{not_true}
use Rattle.walk.proofs.Runs.{happens-accepted}
use Rattle.getting_through.specs.NodeNames.{NamedOpening, name_of, creation_of, node_of, first_nodes, opening_of}
use Rattle.getting_through.specs.NamedWorld.{NamedWorld, NamedEvent, NamedRefusal, present_node, sender_to, or_present, named_refusal, plain_refusal, plain_accepted}
use Rattle.getting_through.specs.Restarts.{IsUp}
use Rattle.getting_through.proofs.Numbers.{node-number}
use Rattle.getting_through.proofs.Standing.{Sound, started_to}
use Rattle.getting_through.proofs.StartedLists.{in_first}
use Rattle.waiting_lock_calls.proofs.OpenCalls.{none_leaves}
use Rattle.waiting_lock_calls.proofs.WhyHeld.{found_in}
use Rattle.getting_through.specs.Worlds.{is_delivery_or_retry}
use Rattle.getting_through.specs.WorldsOfNames.{is_named_delivery_or_retry}

-- no letter of a node that has left waits for one that runs
abbrev pub Silent : Opening → World → Type 0
Silent o v = (g t : ℕ) → left v g ≡ true → Runs o v t → v.links.queue g t ≡ []

-- so it stays by events at nodes that run
pub silent_next : (o : Opening) (v : World) (d : WorldEvent) → is_delivery_or_retry d ≡ true → refusal o v d ≡ None → Runs o v (place d)
    → Silent o v → Silent o (happens o v d)
silent_next o v d k r up S g t gone runs = subst (λ (u : World). u.links.queue g t ≡ []) (sym (happens-accepted o v d r)) (go d k up)
  where
    same : left (happens o v d) ≡ left v
    same = none_leaves o v v d k

    was : left v g ≡ true
    was = sym (ap (λ (s : Nodes). s g) same) ∙ gone

    empty : v.links.queue g t ≡ []
    empty = S g t was (runs.0, sym (ap (λ (s : Nodes). s t) same) ∙ runs.1)

    apart : (a : ℕ) → Runs o v a → (g == a) ≡ false
    apart a u = ne_eqb g a (λ e. cc (ap (left v) e, was, u.1))

    go : (x : WorldEvent) → is_delivery_or_retry x ≡ true → Runs o v (place x) → (accepted o v x).links.queue g t ≡ []
    go (WorldEvent.Deliver f p) i u = ap (λ (b : Bool). if b && not (left v t)
        then (if g == f && (t == p) then drop 1 (v.links.queue g t) else v.links.queue g t)
        ++ sent_to t (turn_of o v (WorldEvent.Deliver f p)).sends
        else (if g == f && (t == p) then drop 1 (v.links.queue g t) else v.links.queue g t)) (apart p u) ∙ by (g == f && (t == p))
      where
        by : (b : Bool) → (if b then drop 1 (v.links.queue g t) else v.links.queue g t) ≡ []
        by true = ap (drop 1) empty
        by false = empty
    go (At a Event.Retry) i u = ap (λ (b : Bool). if b && not (left v t)
        then v.links.queue g t ++ sent_to t (turn_of o v (At a Event.Retry)).sends else v.links.queue g t) (apart a u) ∙ empty
    go (At a (Event.Calling c)) i u = cc i
    go (At a (Event.Exiting p)) i u = cc i
    go (At a Event.Leave) i u = cc i

module _ (o : NamedOpening) where
  abbrev O : Opening
  O = opening_of o

  module _ (x : NamedWorld) (s : Sound o x) (silent : (g t : ℕ) → left x.world g ≡ true
      → IsUp o x t → x.world.links.queue g t ≡ []) where
    -- the creation of a running node is the present one of its name
    creation_is : (t : ℕ) → IsUp o x t → creation_of o t ≡ x.present (name_of o t)
    creation_is t up = elim (cases_eq (creation_of o t) (x.present (name_of o t))) [
      | inl e ↦ e
      | inr ne ↦ let most : creation_of o t ≤ x.present (name_of o t) = started_to o x t up.started in
          cc (s.older_left t (omega (arith, most, ne)), up.stays)
    ]

    present_is : (t : ℕ) → IsUp o x t → present_node o x (name_of o t) ≡ t
    present_is t up = ap (node_of o (name_of o t)) (sym (creation_is t up)) ∙ node-number o t

    sender_is : (f t : ℕ) → IsUp o x f → IsUp o x t → sender_to o x (name_of o f) (name_of o t) ≡ f
    sender_is f t uf ut = go (find (λ n. not (is_nil (x.world.links.queue n (present_node o x (name_of o t)))))
        (first_nodes o (name_of o f) (x.present (name_of o f)))) refl
      where
        go : (k : Option ℕ) → find (λ n. not (is_nil (x.world.links.queue n (present_node o x (name_of o t)))))
            (first_nodes o (name_of o f) (x.present (name_of o f))) ≡ k → or_present o x (name_of o f) k ≡ f
        go None e = present_is f uf
        go (Some n) e =
            let F : Contains (first_nodes o (name_of o f) (x.present (name_of o f))) n
            × (not (is_nil (x.world.links.queue n (present_node o x (name_of o t)))) ≡ true) =
            found_in (λ n. not (is_nil (x.world.links.queue n (present_node o x (name_of o t)))))
            (first_nodes o (name_of o f) (x.present (name_of o f))) n e in
            let N : (name_of o n ≡ name_of o f) × (creation_of o n ≤ x.present (name_of o f)) =
            in_first o (name_of o f) (x.present (name_of o f)) n (s.present (name_of o f)).last F.0 in
            by n N.0 N.1 (not_true (is_nil (x.world.links.queue n (present_node o x (name_of o t)))) F.1)
          where
            by : (n : ℕ) → name_of o n ≡ name_of o f → creation_of o n ≤ x.present (name_of o f)
                → is_nil (x.world.links.queue n (present_node o x (name_of o t))) ≡ false → n ≡ f
            by n name most some = elim (cases_eq (creation_of o n) (x.present (name_of o f))) [
              | inl same ↦ sym (node-number o n) ∙ ap (λ (y : ℕ). node_of o y (creation_of o n)) name
                  ∙ ap (node_of o (name_of o f)) (same ∙ sym (creation_is f uf)) ∙ node-number o f
              | inr ne ↦
                  let less : creation_of o n < x.present (name_of o n) =
                  subst (λ (y : ℕ). creation_of o n < x.present y) (sym name) (omega (arith, most, ne)) in
                  let none : x.world.links.queue n (present_node o x (name_of o t)) ≡ [] =
                  ap (x.world.links.queue n) (present_is t ut) ∙ silent n t (s.older_left n less) ut in
                  cc (ap is_nil none, some)
            ]

    -- so such an event is one by names
    pub record IsByName (d : WorldEvent) : Type 0 where
      pub event : NamedEvent
      pub kind : is_named_delivery_or_retry event ≡ true
      pub accepted : plain_accepted o x event ≡ d ∷ []

    pub by_name : (d : WorldEvent) → is_delivery_or_retry d ≡ true → refusal (opening_of o) x.world d ≡ None → IsUp o x (place d)
        → IsUp o x (other d) → IsByName d
    by_name (WorldEvent.Deliver f t) k r ut uf = record {
      event = NamedEvent.Deliver (name_of o f) (name_of o t);
      kind = refl;
      accepted = ap (λ (q : Option NamedRefusal). if is_none q
          then WorldEvent.Deliver (sender_to o x (name_of o f) (name_of o t)) (present_node o x (name_of o t)) ∷ [] else []) fine
          ∙ ap (λ (e : WorldEvent). e ∷ []) same;
    }
      where
        same : WorldEvent.Deliver (sender_to o x (name_of o f) (name_of o t)) (present_node o x (name_of o t)) ≡ WorldEvent.Deliver f t
        same = ap (λ (g : ℕ). WorldEvent.Deliver g (present_node o x (name_of o t))) (sender_is f t uf ut)
            ∙ ap (WorldEvent.Deliver f) (present_is t ut)

        fine : named_refusal o x (NamedEvent.Deliver (name_of o f) (name_of o t)) ≡ None
        fine = ap (plain_refusal o x) same ∙ rw (uf.started, r) refl
    by_name (At a Event.Retry) k r ua ub = record {
      event = NamedEvent.AtNode a Event.Retry;
      kind = refl;
      accepted = ap (λ (q : Option NamedRefusal). if is_none q then At a Event.Retry ∷ [] else []) fine;
    }
      where
        fine : named_refusal o x (NamedEvent.AtNode a Event.Retry) ≡ None
        fine = rw (ua.started, r) refl
    by_name (At a (Event.Calling c)) k r ua ub = cc k
    by_name (At a (Event.Exiting p)) k r ua ub = cc k
    by_name (At a Event.Leave) k r ua ub = cc k
