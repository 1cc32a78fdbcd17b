-- Events of named nodes that are one event of the world.
use Rattle.std.proofs.Common.{ℕ, Bool, true, false, ◌≡◌, Option, Some, None, List, [], ◌∷◌, ◌++◌, refl, ap, ◌∙◌}
use Rattle.std.specs.Prelude.{is_none, is_some, option_map, if◌then◌else◌}
use Rattle.std.proofs.lemmas.List.{append-nil}
use Rattle.protocol_model.specs.Event.{Event, Answer, Refusal, NoSuchNode}
use Rattle.protocol_model.specs.World.{Opening, WorldEvent, other, refusal, happens, answers, run, all_answers}
use Rattle.getting_through.specs.NodeNames.{NamedOpening, opening_of as all_creations}
use Rattle.getting_through.specs.NamedWorld.{NamedWorld, NamedEvent, AtNode, Deliver, NamedRefusal, Plain, present_node, has_started, sender_to, plain, plain_refusal, plain_accepted, plain_events, named_refusal, named_answers, happens_named}
use Rattle.getting_through.proofs.NamedRuns.{happens-plain}
use Rattle.cluster_world.specs.Seats.{verdict_in}

module _ (o : NamedOpening) (w : NamedWorld) where
  abbrev O : Opening
  O = all_creations o

  -- an accepted event is this one of the world
  pub record IsOne (e : NamedEvent) (x : WorldEvent) : Type 0 where
    pub plain : plain_accepted o w e ≡ x ∷ []
    pub free : refusal O w.world x ≡ None
    pub world : (happens_named o w e).world ≡ happens O w.world x
    pub answers : named_answers o w e ≡ answers O w.world x

  -- what isn't refused by names isn't refused in the world
  unrefused : (x : WorldEvent) → plain_refusal o w x ≡ None → refusal O w.world x ≡ None
  unrefused x free = go (has_started o w (other x)) (refusal O w.world x) free
    where
      go : (b : Bool) (r : Option Refusal) → (if b then option_map Plain r else Some (Plain NoSuchNode)) ≡ None → r ≡ None
      go true None q = refl
      go true (Some y) q = absurd (cc q)
      go false r q = absurd (cc q)

  one : (e : NamedEvent) (x : WorldEvent) → plain o w e ≡ x ∷ [] → named_refusal o w e ≡ None
      → refusal O w.world x ≡ None → IsOne e x
  one e x is free fits = record {
    plain = single;
    free = fits;
    world = happens-plain o w e ∙ ap (run O w.world) single;
    answers = ap (all_answers O w.world) single ∙ append-nil (answers O w.world x);
  }
    where
      single : plain_accepted o w e ≡ x ∷ []
      single = ap (λ (r : Option NamedRefusal). if is_none r then plain o w e else []) free ∙ is

  -- an event at a node is
  pub one_at : (n : ℕ) (e : Event) → named_refusal o w (AtNode n e) ≡ None → IsOne (AtNode n e) (WorldEvent.At n e)
  one_at n e free = one (AtNode n e) (WorldEvent.At n e) refl free
      (unrefused (WorldEvent.At n e) (started (has_started o w n) free))
    where
      started : (b : Bool) → (if b then plain_refusal o w (WorldEvent.At n e) else Some (Plain NoSuchNode)) ≡ None
          → plain_refusal o w (WorldEvent.At n e) ≡ None
      started true q = q
      started false q = absurd (cc q)

  -- and so is a delivery
  pub one_delivered : (f t : ℕ) → named_refusal o w (Deliver f t) ≡ None
      → IsOne (Deliver f t) (WorldEvent.Deliver (sender_to o w f t) (present_node o w t))
  one_delivered f t free = one (Deliver f t) (WorldEvent.Deliver (sender_to o w f t) (present_node o w t)) refl free
      (unrefused (WorldEvent.Deliver (sender_to o w f t) (present_node o w t)) free)

  -- such an event, and then others
  pub one_more : (e : NamedEvent) (x : WorldEvent) (es : List NamedEvent) → IsOne e x
      → plain_events o w (e ∷ es) ≡ x ∷ plain_events o (happens_named o w e) es
  one_more e x es I = ap (λ (xs : List WorldEvent). xs ++ plain_events o (happens_named o w e) es) I.plain

  -- the others, where it leaves a call unanswered
  pub one_then : (a k : ℕ) (e : NamedEvent) (x : WorldEvent) (es : List NamedEvent) → IsOne e x
      → plain_events o w (e ∷ (if is_some (verdict_in a k (named_answers o w e)) then [] else es))
      ≡ x ∷ (if is_some (verdict_in a k (answers O w.world x)) then [] else plain_events o (happens_named o w e) es)
  one_then a k e x es I =
      one_more e x (if is_some (verdict_in a k (named_answers o w e)) then [] else es) I
      ∙ ap (λ (xs : List WorldEvent). x ∷ xs) (go (is_some (verdict_in a k (named_answers o w e)))
      ∙ ap (λ (ss : List Answer). if is_some (verdict_in a k ss) then [] else plain_events o (happens_named o w e) es) I.answers)
    where
      go : (b : Bool) → plain_events o (happens_named o w e) (if b then [] else es)
          ≡ (if b then [] else plain_events o (happens_named o w e) es)
      go true = refl
      go false = refl
