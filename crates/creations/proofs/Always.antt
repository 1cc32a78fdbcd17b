-- What holds of the nodes of all names holds behind all events.
use mathlib.Core.Logic.{inl, inr}
use Rattle.std.proofs.Common.{ℕ, Bool, true, false, ◌≡◌, ◌<◌, ◌≤◌, List, [], ◌∷◌, refl, sym, ap, subst, ◌∙◌, arith, map, ◌++◌}
use Rattle.std.specs.Prelude.{Option, Some, None, is_none, not, ◌&&◌, if◌then◌else◌}
use Rattle.std.proofs.lemmas.Bool.{cases_lt}
use Rattle.protocol_model.specs.Letter.{Letter, is_down}
use Rattle.protocol_model.specs.Event.{Event, NoSuchNode, Refusal}
use Rattle.protocol_model.specs.Turn.{Turn, begun}
use Rattle.protocol_model.specs.Registrar.{start}
use Rattle.protocol_model.specs.Reading.{read}
use Rattle.protocol_model.specs.Course.{Played, played, course}
use Rattle.protocol_model.specs.World.{World, in_world, in_cluster, left, WorldEvent, other, refusal, happens, all_answers}
use Rattle.creations.specs.NodeNames.{NamedOpening, node_of, name_of, creation_of, opening_of}
use Rattle.creations.specs.NamedWorld.{NamedWorld, NamedEvent, NamedRefusal, Plain, opening_named, present_node, has_started, sender_to, named_refusal, plain_refusal, plain, accepted_named, happens_named, run_named, after_events}
use Rattle.creations.specs.Restarts.{IsUp, NodesStand, NodesAlwaysStand, OlderLettersAreDropped, StartsAnew, RestartsStartAnew}
use Rattle.creations.specs.Lifted.{AcceptedEventsArePlayed}
use Rattle.creations.proofs.Numbers.{node-number}
use Rattle.creations.proofs.Standing.{Sound, started_to, present_started, sound_opens, happens_sound, unrefused, unstarted_lone, opening_fresh, up_present}
use Rattle.creations.proofs.Catching.{left_started}
use Rattle.creations.proofs.Restarting.{may_restart, sound_later, starts_anew, notices_played}

module _ (o : NamedOpening) where
  -- an event at a node that has started
  at_node : (w : NamedWorld) (n : ℕ) (e : Event) → Sound o w
      → (if has_started o w n then plain_refusal o w (WorldEvent.At n e) else Some (Plain NoSuchNode)) ≡ None
      → Sound o (record { world = happens (opening_of o) w.world (WorldEvent.At n e); present = w.present })
  at_node w n e s r = go (has_started o w n) refl r
    where
      go : (b : Bool) → has_started o w n ≡ b
          → (if b then plain_refusal o w (WorldEvent.At n e) else Some (Plain NoSuchNode)) ≡ None
          → Sound o (record { world = happens (opening_of o) w.world (WorldEvent.At n e); present = w.present })
      go true i q =
          let fits : (has_started o w (other (WorldEvent.At n e)) ≡ true)
          × (refusal (opening_of o) w.world (WorldEvent.At n e) ≡ None) = unrefused o w s (WorldEvent.At n e) q in
          happens_sound o w s (WorldEvent.At n e) i fits.0 fits.1
      go false i q = absurd (cc q)

  accepted_keeps : (w : NamedWorld) (e : NamedEvent) → Sound o w → named_refusal o w e ≡ None → Sound o (accepted_named o w e)
  accepted_keeps w (NamedEvent.At x e) s r = at_node w (present_node o w x) e s r
  accepted_keeps w (NamedEvent.AtNode n e) s r = at_node w n e s r
  accepted_keeps w (NamedEvent.Deliver f t) s r =
      let e : WorldEvent = WorldEvent.Deliver (sender_to o w f t) (present_node o w t) in
      let fits : (has_started o w (sender_to o w f t) ≡ true) × (refusal (opening_of o) w.world e ≡ None) = unrefused o w s e r in
      happens_sound o w s e (present_started o w s t) fits.0 fits.1
  accepted_keeps w (NamedEvent.Restart x) s r = sound_later o w s x (may_restart o w x r)

  pub happens_keeps : (w : NamedWorld) (e : NamedEvent) → Sound o w → Sound o (happens_named o w e)
  happens_keeps w e s = go (named_refusal o w e) refl
    where
      go : (r : Option NamedRefusal) → named_refusal o w e ≡ r → Sound o (if is_none r then accepted_named o w e else w)
      go None q = accepted_keeps w e s q
      go (Some r) q = s

  run_keeps : (es : List NamedEvent) (w : NamedWorld) → Sound o w → Sound o (run_named o w es)
  run_keeps [] w s = s
  run_keeps (e ∷ es) w s = run_keeps es (happens_named o w e) (happens_keeps w e s)

  pub always : (es : List NamedEvent) → Sound o (after_events o es)
  always es = run_keeps es (opening_named o) (sound_opens o)

  -- what it comes to
  stands : (w : NamedWorld) → Sound o w → NodesStand o w
  stands w s = record {
    present = s.present;
    most = s.most;
    older_left = s.older_left;
    older_told = s.older_told;
    is_present = up_present o w s;
    one_member = λ c a b up p q e. is_present c a up p ∙ ap (present_node o w) e ∙ sym (is_present c b up q);
    told_of_older = λ c a b up p e l. s.older_told c b up
        (let k : creation_of o a ≤ w.present (name_of o a) = started_to o w a ((s.apart.inside c up.started).told a p) in
        subst (λ (y : ℕ). creation_of o b < w.present y) e (omega arith));
    members_started = λ c a up p. (s.apart.inside c up.started).members a p;
    told_started = λ c a up p. (s.apart.inside c up.started).told a p;
    left_inside = λ d e. (s.inside d e, left_started o w s d e);
    not_started = λ n e. record {
      node = s.apart.node n e ∙ opening_fresh (in_cluster (opening_of o)) n (unstarted_lone o w s n e);
      silent = λ t. s.apart.silent n t e;
      stays = s.apart.stays n e;
      downs = λ d i l. s.apart.told d n e ∙ downs d n l i;
      nothing = λ c l. s.apart.told c n e
          ∙ ap (λ (b : Bool). if b && in_world (opening_of o) n then Letter.Down ∷ [] else []) l;
    };
  }
    where
      downs : (d n : ℕ) → left w.world d ≡ true → in_world (opening_of o) n ≡ true
          → (if left w.world d && in_world (opening_of o) n then Letter.Down ∷ [] else []) ≡ Letter.Down ∷ []
      downs d n l i = rw (l, i) refl

      -- a member of a running node is the present node of its name
      is_present : (c a : ℕ) → IsUp o w c → (w.world.node c).replica.members a ≡ true → a ≡ present_node o w (name_of o a)
      is_present c a up p = sym (node-number o a) ∙ ap (node_of o (name_of o a))
          (elim (cases_lt (creation_of o a) (w.present (name_of o a))) [
            | inl less ↦ cc (s.older_told c a up less, (s.apart.inside c up.started).disjoint a p)
            | inr more ↦
                let l : creation_of o a ≤ w.present (name_of o a) = started_to o w a ((s.apart.inside c up.started).members a p) in
                omega arith
          ])

pub nodes_always_stand : NodesAlwaysStand
nodes_always_stand o es = stands o (after_events o es) (always o es)

pub restarts_start_anew : RestartsStartAnew
restarts_start_anew o es x r = go (named_refusal o w (NamedEvent.Restart x)) r
  where
    w : NamedWorld
    w = after_events o es

    go : (u : Option NamedRefusal) → u ≡ None
        → StartsAnew o w x (if is_none u then accepted_named o w (NamedEvent.Restart x) else w)
        (all_answers (opening_of o) w.world (if is_none u then plain o w (NamedEvent.Restart x) else []))
    go None q = starts_anew o w (always o es) x (may_restart o w x r)
    go (Some y) q = absurd (cc q)

pub older_letters_are_dropped : OlderLettersAreDropped
older_letters_are_dropped o es bound c d number l up replaced other =
    ap (λ (b : Bool). start bound c (if b && not (is_down l) then u else read bound c number d l u)) (s.older_told c d up replaced)
    ∙ ap (λ (b : Bool). start bound c (if not b then u else read bound c number d l u)) other
  where
    s : Sound o (after_events o es)
    s = always o es

    u : Turn
    u = begun ((after_events o es).world.node c)

-- one event that the world accepts
one_played : (o : NamedOpening) (w : World) (e : WorldEvent) → refusal (opening_of o) w e ≡ None
    → map (λ (p : Played). p.event) (course (opening_of o) w (e ∷ [])) ≡ e ∷ []
one_played o w e r = ap (λ (x : Option Refusal). map (λ (p : Played). p.event)
    ((if is_none x then played (opening_of o) w e ∷ [] else []) ++ [])) r

pub accepted_events_are_played : AcceptedEventsArePlayed
accepted_events_are_played o es e = go (named_refusal o w e) refl e refl
  where
    w : NamedWorld
    w = after_events o es

    s : Sound o w
    s = always o es

    at_node_played : (n : ℕ) (k : Event)
        → (if has_started o w n then plain_refusal o w (WorldEvent.At n k) else Some (Plain NoSuchNode)) ≡ None
        → map (λ (p : Played). p.event) (course (opening_of o) w.world (WorldEvent.At n k ∷ [])) ≡ WorldEvent.At n k ∷ []
    at_node_played n k r = by (has_started o w n) r
      where
        by : (b : Bool) → (if b then plain_refusal o w (WorldEvent.At n k) else Some (Plain NoSuchNode)) ≡ None
            → map (λ (p : Played). p.event) (course (opening_of o) w.world (WorldEvent.At n k ∷ [])) ≡ WorldEvent.At n k ∷ []
        by true q = one_played o w.world (WorldEvent.At n k) (unrefused o w s (WorldEvent.At n k) q).1
        by false q = absurd (cc q)

    by_kind : (f : NamedEvent) → named_refusal o w f ≡ None
        → map (λ (p : Played). p.event) (course (opening_of o) w.world (plain o w f)) ≡ plain o w f
    by_kind (NamedEvent.At x k) r = at_node_played (present_node o w x) k r
    by_kind (NamedEvent.AtNode n k) r = at_node_played n k r
    by_kind (NamedEvent.Deliver f t) r = one_played o w.world (WorldEvent.Deliver (sender_to o w f t) (present_node o w t))
        (unrefused o w s (WorldEvent.Deliver (sender_to o w f t) (present_node o w t)) r).1
    by_kind (NamedEvent.Restart x) r = notices_played o w s x (may_restart o w x r)

    go : (r : Option NamedRefusal) → named_refusal o w e ≡ r → (f : NamedEvent) → f ≡ e
        → map (λ (p : Played). p.event) (course (opening_of o) w.world (if is_none r then plain o w e else []))
        ≡ (if is_none r then plain o w e else [])
    go None q f k = by_kind e q
    go (Some r) q f k = refl
