-- A world is finished: each retry of a refused registrar, with the deliveries behind it, lowers what is pending.
use Rattle.std.proofs.Common.{ℕ, suc, true, ◌≡◌, ◌<◌, ◌≤◌, ◌+◌, Option, Some, None, List, [], ◌∷◌, ◌++◌, length, refl, sym, ap, subst, ◌∙◌, arith}
use Rattle.std.specs.Prelude.{Bool, ◌&&◌}
use Rattle.std.specs.List.{list_all}
use Rattle.std.proofs.lemmas.List.Sums.{fold-append}
use Rattle.protocol_model.specs.Event.{Event as AnyEvent}
use Rattle.protocol_model.specs.Node.{Op, Current}
use Rattle.protocol_model.specs.World.{At as AtAny, refusal}
use Rattle.getting_through.specs.NodeNames.{NamedOpening, opening_of as all_creations}
use Rattle.getting_through.specs.NamedWorld.{NamedWorld, NamedEvent, named_refusal, happens_named, run_named, opening_named, after_events}
use Rattle.getting_through.specs.NamedScript.{next_named, named_deliveries_left}
use Rattle.getting_through.specs.Restarts.{IsUp}
use Rattle.getting_through.specs.Lifted.{events_played}
use Rattle.getting_through.specs.Answering.{NameCallsAreAnswered}
use Rattle.getting_through.specs.NamedNoDeadEnd.{named_work}
use Rattle.getting_through.specs.NamedFinishing.{retried, first_refused}
use Rattle.getting_through.specs.Settling.{IsFirstByName}
use Rattle.getting_through.proofs.CallsAnswered.{rest_is_free}
use Rattle.getting_through.proofs.Freeing.{may_retry}
use Rattle.getting_through.proofs.NamedFinishing.{refused_found, is_finished, retry_lowers}
use Rattle.getting_through.proofs.NamedQuiet.{settled_names_answer}
use Rattle.getting_through.proofs.Settling.{settling_delivers_the_first}
use Rattle.node_core.specs.declared.Answer.{Answer}
use Rattle.world_events.specs.declared.events.LocalEvent.TheVariants.{Retry}
use Rattle.world_events.specs.declared.events.WorldEvent.TheVariants.{At, Deliver}
use Rattle.world_events.specs.Events.{named_event}
use Rattle.cluster_world.specs.WorldState.{WorldState}
use Rattle.cluster_world.specs.Agreeing.{IsRunOf}
use Rattle.cluster_world.specs.Finishing.{retry_of, next_to_finish, finishing_left, RetriesInto, HasMore, Finishes}
use Rattle.cluster_world.specs.Playing.{Keeps, WaitsOn, events_of}
use Rattle.cluster_world.specs.Seen.{names_of, named}
use Rattle.cluster_world.specs.Settling.{HasNext, AreNext, PlaysOn, GoesOn}
use Rattle.cluster_world.specs.Whole.{IsWhole}
use Rattle.cluster_world.proofs.Settling.{settle-next, settle-none, keeps_on, plays_one, plays_along, goes_on, quiet_rests}
use Rattle.getting_through.specs.Worlds.{IsSettled}
use Rattle.getting_through.specs.WorldsOfNames.{of_names, is_named_delivery_or_retry}
use Rattle.getting_through.specs.Pending.{pending}
use Rattle.getting_through.specs.GettingFree.{LeadsOn}

module _ (o : NamedOpening) where
  -- what comes next, by the next delivery and the first refused node
  abbrev by_both : Option NamedEvent → Option ℕ → Option NamedEvent
  by_both r n = elim r as (λ _. Option NamedEvent) [ None ↦ retry_of n | Some e ↦ Some e ]

  -- a delivery, where one is next
  pub finish_delivers : (w : NamedWorld) (e : NamedEvent) → next_named o w ≡ Some e → next_to_finish o w ≡ Some e
  finish_delivers w e q = ap (λ (r : Option NamedEvent). by_both r (first_refused o w)) q

  -- and a retry where none is
  pub finish_retries : (w : NamedWorld) (r : Option ℕ) → next_named o w ≡ None → first_refused o w ≡ r
      → next_to_finish o w ≡ retry_of r
  finish_retries w r q e = ap (λ (d : Option NamedEvent). by_both d (first_refused o w)) q ∙ ap retry_of e

  -- where nothing comes next no letter waits, and no registrar is refused
  pub nothing_next : (w : NamedWorld) → next_to_finish o w ≡ None → (next_named o w ≡ None) × (first_refused o w ≡ None)
  nothing_next w e = go (next_named o w) (first_refused o w) refl refl e
    where
      go : (r : Option NamedEvent) (n : Option ℕ) → next_named o w ≡ r → first_refused o w ≡ n
          → by_both r n ≡ None → (next_named o w ≡ None) × (first_refused o w ≡ None)
      go None None q f h = (q, f)
      go None (Some n) q f h = absurd (cc h)
      go (Some d) n q f h = absurd (cc h)

  -- deliveries that come next as `settle` makes them come next here, too
  pub next_deliveries : (w : NamedWorld) (es : List NamedEvent) → AreNext o (next_named o) w es → AreNext o (next_to_finish o) w es
  next_deliveries w [] all = tt
  next_deliveries w (e ∷ es) all = (finish_delivers w e all.0, next_deliveries (happens_named o w e) es all.1)

  -- where no letter waits behind them they are all that `settle` makes, however many more it may
  pub all_deliveries : (w : NamedWorld) (es : List NamedEvent) (more : ℕ) → AreNext o (next_named o) w es
      → next_named o (run_named o w es) ≡ None → named_deliveries_left o (length es + more) w ≡ es
  all_deliveries w [] more all none = settle-none o (length {A = NamedEvent} [] + more) w none
  all_deliveries w (e ∷ es) more all none = ap (λ (n : ℕ). named_deliveries_left o n w) one_more
      ∙ settle-next o (length es + more) w e all.0
      ∙ ap (λ (ds : List NamedEvent). e ∷ ds) (all_deliveries (happens_named o w e) es more all.1 none)
    where
      one_more : length (e ∷ es) + more ≡ suc (length es + more)
      one_more = omega arith

  -- events that come next are the first that finish the world
  pub finishing_are : (w : NamedWorld) (es : List NamedEvent) → AreNext o (next_to_finish o) w es
      → finishing_left o (length es) w ≡ es
  finishing_are w [] all = refl
  finishing_are w (e ∷ es) all = ap (λ (n : ℕ). finishing_left o n w) one_more
      ∙ ap (λ (r : Option NamedEvent). elim r as (λ _. List NamedEvent)
      [ None ↦ [] | Some d ↦ d ∷ finishing_left o (length es) (happens_named o w d) ]) all.0
      ∙ ap (λ (ds : List NamedEvent). e ∷ ds) (finishing_are (happens_named o w e) es all.1)
    where
      one_more : length (e ∷ es) ≡ suc (length es)
      one_more = omega arith

  -- what comes next is a delivery or a retry
  next_kind : (before : List NamedEvent) (e : NamedEvent) → next_to_finish o (after_events o before) ≡ Some e
      → is_named_delivery_or_retry e ≡ true
  next_kind before e h = go (next_named o (after_events o before)) (first_refused o (after_events o before)) refl h
    where
      go : (r : Option NamedEvent) (n : Option ℕ) → next_named o (after_events o before) ≡ r
          → by_both r n ≡ Some e → is_named_delivery_or_retry e ≡ true
      go None None q h = absurd (cc h)
      go None (Some n) q h = ap is_named_delivery_or_retry (same h)
        where
          same : Some (NamedEvent.AtNode n AnyEvent.Retry) ≡ Some e → e ≡ NamedEvent.AtNode n AnyEvent.Retry
          same k = cc k
      go (Some d) n q h =
          let F : IsFirstByName o (after_events o before) d = (settling_delivers_the_first o before).some d q in
          ap is_named_delivery_or_retry (same h ∙ F.delivery)
        where
          same : Some d ≡ Some e → e ≡ d
          same k = cc k

  pub next_kinds : (before es : List NamedEvent) → AreNext o (next_to_finish o) (after_events o before) es
      → list_all is_named_delivery_or_retry es ≡ true
  next_kinds before [] all = refl
  next_kinds before (e ∷ es) all = ap (λ (b : Bool). b && list_all is_named_delivery_or_retry es) (next_kind before e all.0)
      ∙ next_kinds (before ++ e ∷ []) es (subst (λ (w : NamedWorld). AreNext o (next_to_finish o) w es)
      (sym (fold-append (happens_named o) (opening_named o) before (e ∷ []))) all.1)

-- deliveries that are made come next here, too
pub finish_plays : (old new : WorldState) (given now : List Answer) → PlaysOn next_named old new given now
    → PlaysOn next_to_finish old new given now
finish_plays old new given now P = record {
  events = P.events;
  are = next_deliveries (names_of old) (named old) (events_of P.events) P.are;
  played = P.played;
}

-- and a retry does
pub retry_plays : (old new : WorldState) (given now : List Answer) → WaitsOn None old → RetriesInto old new given now
    → PlaysOn next_to_finish old new given now
retry_plays old new given now none R = plays_one next_to_finish (At R.node Retry) old new given now
    (finish_retries (names_of old) (named old) (Some R.node) none R.refused) R.played

-- a retry more, and the deliveries behind it
pub finish_more : (old mid new last : WorldState) (given a b c : List Answer) → Keeps old mid → PlaysOn next_to_finish old mid given a
    → WaitsOn None mid → RetriesInto mid new a b → Keeps mid new → PlaysOn next_named new last b c
    → PlaysOn next_to_finish old last given c
finish_more old mid new last given a b c K P none R L Q =
    plays_along next_to_finish old new last given b c (keeps_on old mid new K L)
    (plays_along next_to_finish old mid new given a b K P (retry_plays mid new a b none R)) (finish_plays new last b c Q)

module _ (h : WorldState) (whole : IsWhole h) where
  -- the protocol accepts the retry of the first refused node
  pub retry_accepted : (n : ℕ) → first_refused (names_of h) (named h) ≡ Some n
      → named_refusal (names_of h) (named h) (named_event (At n Retry)) ≡ None
  retry_accepted n = subst (λ (w : NamedWorld). first_refused o w ≡ Some n
      → named_refusal o w (NamedEvent.AtNode n AnyEvent.Retry) ≡ None) (sym whole.reached) accepted
    where
      o : NamedOpening
      o = names_of h

      accepted : first_refused o (after_events o whole.events) ≡ Some n
          → named_refusal o (after_events o whole.events) (NamedEvent.AtNode n AnyEvent.Retry) ≡ None
      accepted e =
          let f : IsUp o (after_events o whole.events) n
          × (op : Op) × (((after_events o whole.events).world.node n).current ≡ Current.Waiting op) =
          refused_found o whole.events n e in
          let r : refusal (all_creations o) (after_events o whole.events).world (AtAny n AnyEvent.Retry) ≡ None =
          may_retry (all_creations o) (after_events o whole.events).world n f.1 (f.0.inside, f.0.stays) f.2 in
          rw (f.0.started, r) refl

  -- a retry and deliveries behind it until no letter waits lower what is pending
  pub finish_lowers : (mid new : WorldState) (a b c : List Answer) → WaitsOn None h → RetriesInto h mid a b → Keeps h mid → Keeps mid new
      → PlaysOn next_named mid new b c → WaitsOn None new
      → pending (of_names (names_of new)) (named new) < pending (of_names (names_of h)) (named h)
  finish_lowers mid new a b c none R K L P end = subst (λ (k : ℕ). k < pending (of_names o) (named h)) (sym stands)
      (subst (λ (w : NamedWorld). next_named o w ≡ None → first_refused o w ≡ Some R.node → named_work o (retried o w R.node) ≤ most
      → pending (of_names o) (run_named o (retried o w R.node) (named_deliveries_left o most (retried o w R.node))) < pending (of_names o) w)
      (sym whole.reached) (λ q e l. retry_lowers o whole.events R.node most q e l) none R.refused (omega arith))
    where
      o : NamedOpening
      o = names_of h

      -- the world behind the retry
      w1 : NamedWorld
      w1 = retried o (named h) R.node

      es : List NamedEvent
      es = events_of P.events

      most : ℕ
      most = length es + named_work o w1

      made : named new ≡ run_named o w1 es
      made = P.played.world ∙ ap (λ (p : NamedOpening). run_named p (named mid) es) K.names
          ∙ ap (λ (w : NamedWorld). run_named o w es) R.played.happens

      are : AreNext o (next_named o) w1 es
      are = subst (λ (w : NamedWorld). AreNext o (next_named o) w es) R.played.happens
          (subst (λ (p : NamedOpening). AreNext p (next_named p) (named mid) es) K.names P.are)

      named_so : names_of new ≡ o
      named_so = L.names ∙ K.names

      ended : next_named o (run_named o w1 es) ≡ None
      ended = ap (next_named o) (sym made) ∙ ap (λ (p : NamedOpening). next_named p (named new)) (sym named_so) ∙ end

      stands : pending (of_names (names_of new)) (named new)
          ≡ pending (of_names o) (run_named o w1 (named_deliveries_left o most w1))
      stands = ap (λ (p : NamedOpening). pending (of_names p) (named new)) named_so
          ∙ ap (pending (of_names o)) (made ∙ ap (run_named o w1) (sym (all_deliveries o w1 es (named_work o w1) are ended)))

-- what comes next, where it is a delivery
pub more_delivers : (h : WorldState) → HasNext h → HasMore h
more_delivers h H = record {
  event = named_event (Deliver H.sender H.receiver);
  next = finish_delivers (names_of h) (named h) (named_event (Deliver H.sender H.receiver)) H.next;
  accepted = H.accepted;
}

-- and where it is a retry
pub more_retries : (h : WorldState) → IsWhole h → WaitsOn None h → (n : ℕ) → first_refused (names_of h) (named h) ≡ Some n → HasMore h
more_retries h whole none n e = record {
  event = named_event (At n Retry);
  next = finish_retries (names_of h) (named h) (Some n) none e;
  accepted = retry_accepted h whole n e;
}

-- it doesn't matter how a world is held
pub more_still : (old new : WorldState) → Keeps old new → named new ≡ named old → HasMore old → HasMore new
more_still old new K same H = record {
  event = H.event;
  next = ap (λ (p : NamedOpening). next_to_finish p (named new)) K.names ∙ ap (next_to_finish (names_of old)) same ∙ H.next;
  accepted = ap (λ (p : NamedOpening). named_refusal p (named new) H.event) K.names
      ∙ ap (λ (w : NamedWorld). named_refusal (names_of old) w H.event) same ∙ H.accepted;
}

-- where no letter waits and no registrar is refused nothing comes next
pub finish_ended : (h : WorldState) → WaitsOn None h → first_refused (names_of h) (named h) ≡ None
    → next_to_finish (names_of h) (named h) ≡ None
finish_ended h none e = finish_retries (names_of h) (named h) None none e

-- all was played, and the world is finished
pub finishes : (old new : WorldState) (now : List Answer) → Keeps old new → PlaysOn next_to_finish old new [] now
    → next_to_finish (names_of new) (named new) ≡ None → Finishes old new now
finishes old new now K P end = record { goes_on = G; ended = end; leads_on = leads }
  where
    o : NamedOpening
    o = names_of old

    G : GoesOn next_to_finish old new now
    G = goes_on next_to_finish old new now K P

    es : List NamedEvent
    es = events_of G.events

    leads : (before : List NamedEvent) → IsRunOf before old → LeadsOn (of_names o) before (named old) es
    leads before is = record {
      kinds = next_kinds o before es (subst (λ (w : NamedWorld). AreNext o (next_to_finish o) w es) is G.are);
      settled = subst (IsSettled (of_names o)) made settled;
      free = λ c up. (rests c up).0;
      idle = λ c up. (rests c up).1;
      answered = subst (λ (w : NamedWorld). NameCallsAreAnswered (IsUp o w) (events_played o (before ++ es))) made
          (settled_names_answer o (before ++ es) settled);
    }
      where
        v : NamedWorld
        v = after_events o (before ++ es)

        made : v ≡ run_named o (named old) es
        made = fold-append (happens_named o) (opening_named o) before es ∙ ap (λ (w : NamedWorld). run_named o w es) (sym is)

        nothing : (next_named o v ≡ None) × (first_refused o v ≡ None)
        nothing = nothing_next o v (ap (next_to_finish o) (made ∙ sym G.played.world)
            ∙ ap (λ (p : NamedOpening). next_to_finish p (named new)) (sym K.names) ∙ end)

        settled : IsSettled (of_names o) v
        settled = is_finished o (before ++ es) nothing.0 nothing.1

        rests : (c : ℕ) → IsUp o (run_named o (named old) es) c → (((run_named o (named old) es).world.node c).current ≡ Current.Free)
            × (((run_named o (named old) es).world.node c).queue ≡ [])
        rests = subst (λ (w : NamedWorld). (c : ℕ) → IsUp o w c → ((w.world.node c).current ≡ Current.Free)
            × ((w.world.node c).queue ≡ [])) made
            (λ c up. rest_is_free (IsUp o v) v.world c settled.retried up
            ((quiet_rests o (before ++ es) v refl nothing.0).registrars c up))
