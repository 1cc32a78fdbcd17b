-- Events that were played one after the other.
use Rattle.std.proofs.Common.{ℕ, zero, suc, Bool, true, false, ◌≡◌, ◌+◌, Option, Some, None, List, [], ◌∷◌, ◌++◌, ◌<◌, ◌≤◌, ◌-◌, ◌^◌, min, length, map, take, refl, sym, ap, subst, ◌∙◌, arith}
use Rattle.std.specs.List.{slice_get}
use Rattle.std.specs.Prelude.{◌&&◌, is_none, is_ok, IsOk, Result, if◌then◌else◌}
use Rattle.std.specs.declared.alloc.AllocError.{AllocError}
use Rattle.std.proofs.lemmas.List.{append_assoc, append-nil, map-append}
use Rattle.std.proofs.lemmas.List.Sums.{fold-append}
use Rattle.protocol_model.specs.Event.{Answer as AnyAnswer}
use Rattle.getting_through.specs.NodeNames.{NamedOpening}
use Rattle.getting_through.specs.NamedWorld.{NamedWorld, NamedEvent, NamedRefusal, named_refusal, happens_named, named_answers, run_named}
use Rattle.node_core.specs.declared.Answer.{Answer}
use Rattle.node_core.specs.NodeEventsSeen.{answer_of}
use Rattle.world_events.specs.declared.events.WorldEvent.{WorldEvent}
use Rattle.cluster_world.specs.WorldState.{WorldState}
use Rattle.world_events.specs.Events.{named_event}
use Rattle.cluster_world.specs.Seen.{names_of, named}
use Rattle.world_events.specs.declared.refusal.Refusal.{Refusal}
use Rattle.cluster_world.specs.Playing.{Keeps, Played, RefusedWith, WentThrough, IsSoFar, Ran, events_of, accepts_all, answers_to_all}

-- events behind others
pub answers_to_all-append : (o : NamedOpening) (w : NamedWorld) (es ds : List NamedEvent)
    → answers_to_all o w (es ++ ds) ≡ answers_to_all o w es ++ answers_to_all o (run_named o w es) ds
answers_to_all-append o w [] ds = refl
answers_to_all-append o w (e ∷ es) ds = ap (λ (l : List AnyAnswer). named_answers o w e ++ l)
    (answers_to_all-append o (happens_named o w e) es ds)
    ∙ sym (append_assoc (named_answers o w e) (answers_to_all o (happens_named o w e) es)
    (answers_to_all o (run_named o (happens_named o w e) es) ds))

pub accepts_all-append : (o : NamedOpening) (w : NamedWorld) (es ds : List NamedEvent)
    → accepts_all o w es ≡ true → accepts_all o (run_named o w es) ds ≡ true → accepts_all o w (es ++ ds) ≡ true
accepts_all-append o w [] ds all more = more
accepts_all-append o w (e ∷ es) ds all more = go (is_none (named_refusal o w e)) all
    (λ h. accepts_all-append o (happens_named o w e) es ds h more)
  where
    go : (b : Bool) → (b && accepts_all o (happens_named o w e) es) ≡ true
        → (accepts_all o (happens_named o w e) es ≡ true → accepts_all o (happens_named o w e) (es ++ ds) ≡ true)
        → (b && accepts_all o (happens_named o w e) (es ++ ds)) ≡ true
    go true h on = on h
    go false h on = h

-- one event more is one more that happens
pub run-push : (o : NamedOpening) (w : NamedWorld) (es : List NamedEvent) (e : NamedEvent) → run_named o w (es ++ e ∷ [])
    ≡ happens_named o (run_named o w es) e
run-push o w es e = fold-append (happens_named o) w es (e ∷ [])

pub answers-push : (o : NamedOpening) (w : NamedWorld) (es : List NamedEvent) (e : NamedEvent)
    → answers_to_all o w (es ++ e ∷ []) ≡ answers_to_all o w es ++ named_answers o (run_named o w es) e
answers-push o w es e = answers_to_all-append o w es (e ∷ [])
    ∙ ap (λ (l : List AnyAnswer). answers_to_all o w es ++ l) (append-nil (named_answers o (run_named o w es) e))

-- and it was accepted, where all before were
pub accepts_all-push : (o : NamedOpening) (w : NamedWorld) (es : List NamedEvent) (e : NamedEvent)
    → accepts_all o w es ≡ true → named_refusal o (run_named o w es) e ≡ None → accepts_all o w (es ++ e ∷ []) ≡ true
accepts_all-push o w es e all free = accepts_all-append o w es (e ∷ []) all
    (ap (λ (r : Option NamedRefusal). is_none r && true) free)

-- the first k events and the next
events-push : (es : List WorldEvent) (k : ℕ) (e : WorldEvent) → slice_get es k ≡ Some e → events_of (take (suc k) es)
    ≡ events_of (take k es) ++ named_event e ∷ []
events-push [] k e h = cc
events-push (d ∷ es) zero e h = ap (λ (o : WorldEvent). named_event o ∷ []) (cc h)
events-push (d ∷ es) (suc k) e h = ap (λ (l : List NamedEvent). named_event d ∷ l) (events-push es k e h)

pub so_far_more : (es : List WorldEvent) (old mid new : WorldState) (k : ℕ) (given now : List Answer) (e : WorldEvent)
    → IsSoFar es old mid k given → slice_get es k ≡ Some e → Played e mid new given now → IsSoFar es old new (k + 1) now
so_far_more es old mid new k given now e S at P = record {
  names = P.names ∙ S.names;
  cluster = P.cluster ∙ S.cluster;
  accepted = ap (accepts_all o (named old)) (sym next)
      ∙ accepts_all-push o (named old) (events_of (take k es)) (named_event e) S.accepted
      (ap (λ (w : NamedWorld). named_refusal o w (named_event e)) (sym S.world)
      ∙ ap (λ (p : NamedOpening). named_refusal p (named mid) (named_event e)) (sym same) ∙ P.accepted);
  world = P.happens ∙ ap (λ (p : NamedOpening). happens_named p (named mid) (named_event e)) same
      ∙ ap (λ (w : NamedWorld). happens_named o w (named_event e)) S.world
      ∙ sym (run-push o (named old) (events_of (take k es)) (named_event e)) ∙ ap (run_named o (named old)) next;
  answers = P.answers ∙ ap (λ (l : List AnyAnswer). l ++ named_answers (names_of mid) (named mid) (named_event e)) S.answers
      ∙ ap (λ (p : NamedOpening).
      answers_to_all o (named old) (events_of (take k es)) ++ named_answers p (named mid) (named_event e)) same
      ∙ ap (λ (w : NamedWorld). answers_to_all o (named old) (events_of (take k es)) ++ named_answers o w (named_event e)) S.world
      ∙ sym (answers-push o (named old) (events_of (take k es)) (named_event e)) ∙ ap (answers_to_all o (named old)) next;
}
  where
    o : NamedOpening
    o = names_of old

    same : names_of mid ≡ names_of old
    same = S.names

    one_more : suc k ≡ k + 1
    one_more = omega arith

    next : events_of (take k es) ++ named_event e ∷ [] ≡ events_of (take (k + 1) es)
    next = sym (events-push es k e at) ∙ ap (λ (n : ℕ). events_of (take n es)) one_more

-- an event that was played by itself, with its answers behind those given before
pub played_behind : (e : WorldEvent) (old new : WorldState) (before now : List Answer) → Played e old new [] now
    → Played e old new before (before ++ now)
played_behind e old new before now P = record {
  names = P.names;
  cluster = P.cluster;
  accepted = P.accepted;
  happens = P.happens;
  answers = map-append answer_of before now
      ∙ ap (λ (l : List AnyAnswer). map answer_of before ++ l) P.answers;
}

-- answers that there is room for are put behind those given before
pub appended : (r : Result Unit AllocError) (xs ys : List Answer) → IsOk r
    → (if is_ok r then xs ++ ys else xs) ≡ xs ++ ys
appended r xs ys ok = ap (λ (b : Bool). if b then xs ++ ys else xs) ok

-- so many answers fit into the room that was made
pub fits_behind : (len cap most here small all n : ℕ) → here ≡ n → here ≤ small → small < 2 ^ 63 → n ≤ all
    → most ≡ min (2 ^ 64 - 1) all → len + most ≤ cap → len + here ≤ cap
fits_behind len cap most here small all n same within under few made room = omega arith

-- the next event is refused, which changes nothing
pub ran_stopped : (es : List WorldEvent) (old mid new : WorldState) (k : ℕ) (given now : List Answer) (e : WorldEvent)
    (r : Refusal)
    → IsSoFar es old mid k given → k < length es → slice_get es k ≡ Some e → RefusedWith r e mid → Keeps mid new
    → named new ≡ named mid → now ≡ given → Ran es old new k now (Some r)
ran_stopped es old mid new k given now e r S within at refused K same kept = record {
  names = K.names ∙ S.names;
  cluster = K.cluster ∙ S.cluster;
  within = omega arith;
  accepted = S.accepted;
  world = same ∙ S.world;
  answers = ap (map answer_of) kept ∙ S.answers;
  stopped = (
    e,
    at,
    ap (λ (w : NamedWorld). named_refusal (names_of old) w (named_event e)) (sym S.world)
        ∙ ap (λ (p : NamedOpening). named_refusal p (named mid) (named_event e))
        (sym S.names) ∙ refused,
  );
}

-- all were played
pub ran_all : (es : List WorldEvent) (old new : WorldState) (k : ℕ) (given : List Answer) → IsSoFar es old new k given
    → k ≡ length es → Ran es old new (length es) given None
ran_all es old new k given S all = subst (λ (i : ℕ). Ran es old new i given None) all (record {
  names = S.names;
  cluster = S.cluster;
  within = omega arith;
  accepted = S.accepted;
  world = S.world;
  answers = S.answers;
  stopped = all;
})

-- nothing was played
pub went_nowhere : (h : WorldState) (given : List Answer) → WentThrough [] h h given given
went_nowhere h given = record { accepted = refl; world = refl; answers = sym (append-nil (map answer_of given)) }

-- what was played stands in another state that the protocol sees the same
pub stands_still : (es : List WorldEvent) (old mid new : WorldState) (given now : List Answer) → WentThrough es old mid given now
    → named new ≡ named mid → WentThrough es old new given now
stands_still es old mid new given now W same =
    record { accepted = W.accepted; world = same ∙ W.world; answers = W.answers }

-- one event was played
pub went_one : (e : WorldEvent) (old new : WorldState) (given now : List Answer) → Played e old new given now
    → WentThrough (e ∷ []) old new given now
went_one e old new given now P = record {
  accepted = ap (λ (r : Option NamedRefusal). is_none r && true) P.accepted;
  world = P.happens;
  answers = P.answers ∙ ap (λ (l : List AnyAnswer). map answer_of given ++ l)
      (sym (append-nil (named_answers (names_of old) (named old) (named_event e))));
}

-- and others behind those
pub went_along : (es ds : List WorldEvent) (old mid new : WorldState) (given before now : List Answer)
    → WentThrough es old mid given before → Keeps old mid → WentThrough ds mid new before now
    → WentThrough (es ++ ds) old new given now
went_along es ds old mid new given before now W K V = record {
  accepted = ap (accepts_all o (named old)) joined
      ∙ accepts_all-append o (named old) (events_of es) (events_of ds) W.accepted
      (ap (λ (w : NamedWorld). accepts_all o w (events_of ds)) (sym W.world)
      ∙ ap (λ (p : NamedOpening). accepts_all p (named mid) (events_of ds)) (sym K.names) ∙ V.accepted);
  world = V.world ∙ ap (λ (p : NamedOpening). run_named p (named mid) (events_of ds)) K.names
      ∙ ap (λ (w : NamedWorld). run_named o w (events_of ds)) W.world
      ∙ sym (fold-append (happens_named o) (named old) (events_of es) (events_of ds)) ∙ ap (run_named o (named old)) (sym joined);
  answers = V.answers
      ∙ ap (λ (l : List AnyAnswer). l ++ answers_to_all (names_of mid) (named mid) (events_of ds)) W.answers
      ∙ append_assoc (map answer_of given) (answers_to_all o (named old) (events_of es))
      (answers_to_all (names_of mid) (named mid) (events_of ds))
      ∙ ap (λ (l : List AnyAnswer). map answer_of given ++ (answers_to_all o (named old) (events_of es) ++ l))
      (ap (λ (p : NamedOpening). answers_to_all p (named mid) (events_of ds)) K.names
      ∙ ap (λ (w : NamedWorld). answers_to_all o w (events_of ds)) W.world)
      ∙ ap (λ (l : List AnyAnswer). map answer_of given ++ l)
      (sym (answers_to_all-append o (named old) (events_of es) (events_of ds)) ∙ ap (answers_to_all o (named old)) (sym joined));
}
  where
    o : NamedOpening
    o = names_of old

    joined : events_of (es ++ ds) ≡ events_of es ++ events_of ds
    joined = map-append named_event es ds
