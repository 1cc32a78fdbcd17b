-- A call that waits, while events are played one after the other.
use Rattle.std.proofs.Common.{ℕ, zero, suc, Bool, true, false, ◌≡◌, ◌<◌, ◌+◌, ◌-◌, arith, Option, Some, None, List, [], ◌∷◌, ◌++◌, map, refl, sym, ap, ◌∙◌, subst, inl, inr, zero-add, add-zero}
use Rattle.std.specs.Prelude.{Result, Ok, Err, IfErr, IsErrAnd, is_some, is_none, option_map, ◌&&◌, if◌then◌else◌}
use Rattle.std.proofs.lemmas.List.{append_assoc, append-nil, map-append}
use Rattle.protocol_model.specs.Event.{Event as AnyEvent, Answer as AnyAnswer, Refusal as AnyRefusal}
use Rattle.getting_through.specs.NodeNames.{NamedOpening}
use Rattle.getting_through.specs.NamedWorld.{NamedWorld, NamedEvent, NamedRefusal, Plain, named_refusal, happens_named, named_answers, run_named}
use Rattle.node_core.specs.declared.Answer.{Answer}
use Rattle.node_core.specs.declared.Call.{Call}
use Rattle.node_core.specs.NodeEventsSeen.{answer_of, call_of, fault_of}
use Rattle.world_events.specs.declared.refusal.Refusal.{Refusal}
use Rattle.world_events.specs.declared.refusal.Refusal.TheVariants.{NoSuchNode, NodeLeft, EmptyLink, StillRunning, NotToldYet, CreationsSpent, Step}
use Rattle.world_events.specs.declared.events.LocalEvent.TheVariants.{Call as Calls, Retry}
use Rattle.world_events.specs.declared.events.WorldEvent.{WorldEvent}
use Rattle.world_events.specs.declared.events.WorldEvent.TheVariants.{At, Deliver}
use Rattle.cluster_world.specs.declared.seat.WorldSeatFault.{WorldSeatFault}
use Rattle.cluster_world.specs.declared.seat.WorldSeatFault.TheVariants.{Refused, NoMemory, NoAnswer}
use Rattle.world_events.specs.Events.{named_event}
use Rattle.term.specs.NodeSets.{set_of}
use Rattle.node_core.specs.CoreState.{CoreState}
use Rattle.cluster_world.specs.Cores.{core_of}
use Rattle.cluster_world.specs.Steps.{IsAdmitted}
use Rattle.cluster_world.specs.WorldState.{WorldState, nodes_of}
use Rattle.cluster_world.specs.Playing.{Keeps, Played, RefusedWith, WentThrough, WaitsOn, events_of, accepts_all, answers_to_all}
use Rattle.world_events.specs.Refusals.{refusal_of, is_memory, out_of_memory}
use Rattle.cluster_world.specs.Seats.{verdict_in, next_number, next_for, awaiting, until_answered, Waited, HasWaited, Called, SetsLock, IsUnplayed, Unanswered}
use Rattle.term.specs.declared.limits.TheConstants.{MOST_EVENTS}
use Rattle.cluster_world.specs.Seen.{names_of, opening_of, seen, named, or_else, node_with}
use Rattle.cluster_world.specs.Agreeing.{Agrees}
use Rattle.world_events.proofs.Faults.{has_cause}
use Rattle.cluster_world.proofs.Listed.{known_place}
use Rattle.cluster_world.proofs.Agreeing.{agrees}
use Rattle.cluster_world.proofs.Locks.{locks_behind}
use Rattle.cluster_world.proofs.Leftovers.{leaves_nothing}
use Rattle.cluster_world.proofs.Verdicts.{verdict_in-append}
use Rattle.cluster_world.proofs.Counting.{counts}
use Rattle.cluster_world.proofs.Running.{played_behind, went_nowhere, stands_still, went_one, went_along}

-- what a call waits for, where that is e, by why it is refused
module _ (o : NamedOpening) (a k left : ℕ) (w : NamedWorld) where
  -- e, and what is left behind it
  abbrev onward : NamedEvent → List NamedEvent
  onward e =
      e ∷ (if is_some (verdict_in a k (named_answers o w e)) then [] else awaiting o a k left (happens_named o w e))

  by_refusal : (r : Option NamedRefusal) → named_refusal o w (next_for o a w) ≡ r
      → awaiting o a k (suc left) w ≡ (if is_some r then [] else onward (next_for o a w))
  by_refusal r q = ap (λ (s : Option NamedRefusal). if is_some s then [] else onward (next_for o a w)) q

  pub awaiting-on : (e : NamedEvent) → next_for o a w ≡ e → named_refusal o w e ≡ None
      → awaiting o a k (suc left) w ≡ onward e
  awaiting-on e is free = by_refusal None (ap (named_refusal o w) is ∙ free) ∙ ap onward is

  pub awaiting-end : (e : NamedEvent) (r : NamedRefusal) → next_for o a w ≡ e → named_refusal o w e ≡ Some r
      → awaiting o a k (suc left) w ≡ []
  awaiting-end e r is refused = by_refusal (Some r) (ap (named_refusal o w) is ∙ refused)

-- that is a retry where no letter waits, and else a delivery
pub next_retry : (h : WorldState) (a b : ℕ) → b ≡ a → WaitsOn None h
    → named_event (At b Retry) ≡ next_for (names_of h) a (named h)
next_retry h a b same none = ap (λ (x : ℕ). NamedEvent.AtNode x AnyEvent.Retry) same
    ∙ sym (ap (λ (o : Option NamedEvent). elim o [ None ↦ NamedEvent.AtNode a AnyEvent.Retry | Some e ↦ e ]) none)

pub next_delivered : (h : WorldState) (a f t : ℕ) → WaitsOn (Some (f, t)) h
    → named_event (Deliver f t) ≡ next_for (names_of h) a (named h)
next_delivered h a f t waits =
    sym (ap (λ (o : Option NamedEvent). elim o [ None ↦ NamedEvent.AtNode a AnyEvent.Retry | Some e ↦ e ]) waits)

module _ (es : List WorldEvent) (old mid new : WorldState) (given now : List Answer) (e : WorldEvent)
    (W : WentThrough es old mid [] given) (K : Keeps old mid) (P : Played e mid new [] now) where
  abbrev pub o : NamedOpening
  o = names_of old

  same : names_of mid ≡ o
  same = K.names

  -- it is accepted, makes this world, and answers so
  pub free : named_refusal o (named mid) (named_event e) ≡ None
  free = ap (λ (p : NamedOpening). named_refusal p (named mid) (named_event e)) (sym same) ∙ P.accepted

  pub makes : named new ≡ happens_named o (named mid) (named_event e)
  makes = P.happens ∙ ap (λ (p : NamedOpening). happens_named p (named mid) (named_event e)) same

  pub says : map answer_of now ≡ named_answers o (named mid) (named_event e)
  says = P.answers ∙ ap (λ (p : NamedOpening). named_answers p (named mid) (named_event e)) same

  -- one event more
  pub went_on : WentThrough (es ++ e ∷ []) old new [] (given ++ now)
  went_on = went_along es (e ∷ []) old mid new [] given (given ++ now) W K
      (went_one e mid new given (given ++ now) (played_behind e mid new given now P))

-- call k of node a still waits, and these events were played for it, at most so many; however many are played at most, what
-- is left is what waits for it now
pub record IsWaiting (a k : ℕ) (old mid : WorldState) (i : ℕ) : Type 0 where
  pub kept : Keeps old mid
  pub events : List WorldEvent
  pub given : List Answer
  pub played : WentThrough events old mid [] given
  pub rest : (left : ℕ) → awaiting (names_of old) a k (i + left) (named old)
      ≡ events_of events ++ awaiting (names_of old) a k left (named mid)
  pub silent : verdict_in a k (map answer_of given) ≡ None

pub begins : (a k : ℕ) (h : WorldState) → IsWaiting a k h h zero
begins a k h = record {
  kept = record { names = refl; cluster = refl };
  events = [];
  given = [];
  played = went_nowhere h [];
  rest = λ left. ap (λ (n : ℕ). awaiting (names_of h) a k n (named h)) (zero-add left);
  silent = refl;
}

as_many : (a k i : ℕ) (old mid : WorldState) (I : IsWaiting a k old mid i)
    → events_of I.events ≡ awaiting (names_of old) a k i (named old)
as_many a k i old mid I = sym (ap (λ (n : ℕ). awaiting (names_of old) a k n (named old)) (sym (add-zero i))
    ∙ I.rest zero ∙ append-nil (events_of I.events))

-- it has no answer yet, then
pub ends : (a k i : ℕ) (old mid : WorldState) → IsWaiting a k old mid i → Waited a k i old mid None
ends a k i old mid I = record {
  events = I.events;
  given = I.given;
  played = I.played;
  are = as_many a k i old mid I;
  answered = I.silent;
}

-- of the refusals, want of memory alone is none of the protocol's
refusal_there : (r : Refusal) → is_memory r ≡ false → (x : NamedRefusal) × (refusal_of r ≡ Some x)
refusal_there NoSuchNode e = (_, refl)
refusal_there NodeLeft e = (_, refl)
refusal_there EmptyLink e = (_, refl)
refusal_there StillRunning e = (_, refl)
refusal_there (NotToldYet c) e = (_, refl)
refusal_there CreationsSpent e = (_, refl)
refusal_there (Step fault) e =
    let cause : (any : AnyRefusal) × (fault_of fault ≡ Some any) = has_cause fault e in
    (Plain cause.0, ap (option_map Plain) cause.1)

module _ (a k : ℕ) (old mid new : WorldState) (i : ℕ) (e : WorldEvent) (within : i < MOST_EVENTS)
    (I : IsWaiting a k old mid i)
    (next : named_event e ≡ next_for (names_of mid) a (named mid)) where
  -- what is played in all, where this many events are left behind the next
  in_all : (left : ℕ) → awaiting (names_of old) a k (i + 1 + left) (named old)
      ≡ events_of I.events ++ awaiting (names_of old) a k (suc left) (named mid)
  in_all left = ap (λ (n : ℕ). awaiting (names_of old) a k n (named old)) one_more ∙ I.rest (suc left)
    where
      one_more : i + 1 + left ≡ i + suc left
      one_more = omega arith

  -- so it is where as many are played as may be
  most_is : i + 1 + (MOST_EVENTS - (i + 1)) ≡ MOST_EVENTS
  most_is = omega (arith, within)

  next_is : next_for (names_of old) a (named mid) ≡ named_event e
  next_is = sym (next ∙ ap (λ (p : NamedOpening). next_for p a (named mid)) I.kept.names)

  -- the next event is refused
  stops : (r : Refusal) → RefusedWith r e mid → is_memory r ≡ false → named new ≡ named mid
      → Waited a k MOST_EVENTS old new None
  stops r refused kept same = record {
    events = I.events;
    given = I.given;
    played = stands_still I.events old mid new [] I.given I.played same;
    are = sym (ap (λ (n : ℕ). awaiting (names_of old) a k n (named old)) (sym most_is) ∙ in_all left
        ∙ ap (λ (l : List NamedEvent). events_of I.events ++ l) nothing
        ∙ append-nil (events_of I.events));
    answered = I.silent;
  }
    where
      left : ℕ
      left = MOST_EVENTS - (i + 1)

      there : (x : NamedRefusal) × (refusal_of r ≡ Some x)
      there = refusal_there r kept

      nothing : awaiting (names_of old) a k (suc left) (named mid) ≡ []
      nothing = awaiting-end (names_of old) a k left (named mid) (named_event e) there.0 next_is
          (ap (λ (p : NamedOpening). named_refusal p (named mid) (named_event e)) (sym I.kept.names) ∙ refused
          ∙ there.1)

  -- memory was refused
  runs_out : named new ≡ named mid → HasWaited a k old new (Err (Refused out_of_memory))
  runs_out still = (
    refl,
    i,
    omega (arith, within),
    record {
      events = I.events;
      given = I.given;
      played = stands_still I.events old mid new [] I.given I.played still;
      are = as_many a k i old mid I;
      answered = I.silent;
    },
  )

  pub refused_end : (r : Refusal) (fault : WorldSeatFault) → RefusedWith r e mid → named new ≡ named mid
      → fault ≡ (if is_memory r then Refused out_of_memory else NoAnswer) → HasWaited a k old new (Err fault)
  refused_end r fault refused same is = subst (λ (f : WorldSeatFault). HasWaited a k old new (Err f)) (sym is)
      (go (is_memory r) refl)
    where
      go : (b : Bool) → is_memory r ≡ b
          → HasWaited a k old new (Err (if b then Refused out_of_memory else NoAnswer))
      go true q = runs_out same
      go false q = stops r refused q same

  module _ (now : List Answer) (P : Played e mid new [] now) where
    went : WentThrough (I.events ++ e ∷ []) old new [] (I.given ++ now)
    went = went_on I.events old mid new I.given now e I.played I.kept P

    -- what is left behind the next event, by its verdict
    abbrev tail : ℕ → Option Bool → List NamedEvent
    tail left v = if is_some v then [] else awaiting (names_of old) a k left (named new)

    unrolled : (left : ℕ) → awaiting (names_of old) a k (suc left) (named mid)
        ≡ named_event e ∷ tail left (verdict_in a k (map answer_of now))
    unrolled left = awaiting-on (names_of old) a k left (named mid) (named_event e) next_is
        (free I.events old mid new I.given now e I.played I.kept P)
        ∙ ap (λ (w : NamedWorld). named_event e
        ∷ (if is_some (verdict_in a k (named_answers (names_of old) (named mid) (named_event e)))
        then [] else awaiting (names_of old) a k left w))
        (sym (makes I.events old mid new I.given now e I.played I.kept P))
        ∙ ap (λ (l : List AnyAnswer). named_event e ∷ tail left (verdict_in a k l))
        (sym (says I.events old mid new I.given now e I.played I.kept P))

    rest_is : (left : ℕ) (v : Option Bool) → verdict_in a k (map answer_of now) ≡ v
        → awaiting (names_of old) a k (i + 1 + left) (named old) ≡ events_of (I.events ++ e ∷ []) ++ tail left v
    rest_is left v q = in_all left ∙ ap (λ (l : List NamedEvent). events_of I.events ++ l) (unrolled left)
        ∙ ap (λ (w : Option Bool). events_of I.events ++ named_event e ∷ tail left w) q
        ∙ sym (append_assoc (events_of I.events) (named_event e ∷ []) (tail left v))
        ∙ ap (λ (l : List NamedEvent). l ++ tail left v) (sym (map-append named_event I.events (e ∷ [])))

    verdict_is : verdict_in a k (map answer_of (I.given ++ now)) ≡ verdict_in a k (map answer_of now)
    verdict_is = ap (verdict_in a k) (map-append answer_of I.given now)
        ∙ verdict_in-append a k (map answer_of I.given) (map answer_of now) I.silent

    -- the next event brings the answer
    pub is_answered : (granted : Bool) → verdict_in a k (map answer_of now) ≡ Some granted
        → Waited a k MOST_EVENTS old new (Some granted)
    is_answered granted q = record {
      events = I.events ++ e ∷ [];
      given = I.given ++ now;
      played = went;
      are = sym (ap (λ (n : ℕ). awaiting (names_of old) a k n (named old)) (sym most_is)
          ∙ rest_is (MOST_EVENTS - (i + 1)) (Some granted) q ∙ append-nil (events_of (I.events ++ e ∷ [])));
      answered = verdict_is ∙ q;
    }

    -- or not
    pub waits_on : Keeps mid new → verdict_in a k (map answer_of now) ≡ None
        → IsWaiting a k old new (i + 1)
    waits_on K q = record {
      kept = record { names = K.names ∙ I.kept.names; cluster = K.cluster ∙ I.kept.cluster };
      events = I.events ++ e ∷ [];
      given = I.given ++ now;
      played = went;
      rest = λ left. rest_is left None q;
      silent = verdict_is ∙ q;
    }

-- an event, and then others
went_behind : (e : WorldEvent) (es : List WorldEvent) (old mid new : WorldState) (now given : List Answer) → Keeps old mid
    → Played e old mid [] now → WentThrough es mid new [] given → WentThrough (e ∷ es) old new [] (now ++ given)
went_behind e es old mid new now given K P W = record {
  accepted = ap (λ (r : Option NamedRefusal). is_none r && accepts_all o (happens_named o (named old) (named_event e))
      (events_of es)) P.accepted
      ∙ ap (λ (w : NamedWorld). accepts_all o w (events_of es)) (sym P.happens)
      ∙ ap (λ (p : NamedOpening). accepts_all p (named mid) (events_of es)) (sym same) ∙ W.accepted;
  world = W.world ∙ ap (λ (p : NamedOpening). run_named p (named mid) (events_of es)) same
      ∙ ap (λ (w : NamedWorld). run_named o w (events_of es)) P.happens;
  answers = map-append answer_of now given
      ∙ ap (λ (l : List AnyAnswer). l ++ map answer_of given) P.answers
      ∙ ap (λ (l : List AnyAnswer). named_answers o (named old) (named_event e) ++ l) (W.answers
      ∙ ap (λ (p : NamedOpening). answers_to_all p (named mid) (events_of es)) same
      ∙ ap (λ (w : NamedWorld). answers_to_all o w (events_of es)) P.happens);
}
  where
    o : NamedOpening
    o = names_of old

    same : names_of mid ≡ names_of old
    same = K.names

module _ (a : ℕ) (c : Call) (old mid : WorldState) (now : List Answer) (P : Played (At a (Calls c)) old mid [] now) where
  abbrev calls : WorldEvent
  calls = At a (Calls c)

  abbrev k : ℕ
  k = next_number a (seen old)

  begun : Keeps old mid
  begun = record { names = P.names; cluster = P.cluster }

  -- a call whose events were these
  called : (new : WorldState) (es : List WorldEvent) (given : List Answer) (most : ℕ) (v : Option Bool) → Keeps old new
      → WentThrough es old new [] given
      → events_of es ≡ until_answered (names_of old) a k most (named old) (named_event calls)
      → verdict_in a k (map answer_of given) ≡ v → Called a c most old new v
  called new es given most v K W are answered = record {
    events = es;
    given = given;
    played = W;
    are = are;
    answered = answered;
    agrees = agreed;
    locks = locks_behind es given old new agreed;
    leaves_nothing = leaves_nothing es given old new agreed;
    counts = counts es given old new most v W (call_of c) a (are, answered);
  }
    where
      agreed : Agrees es given old new
      agreed = agrees es given old new K W.world W.answers

  -- the events, by the verdict in the call's own step
  until : (most : ℕ) (v : Option Bool) → verdict_in a k (map answer_of now) ≡ v
      → until_answered (names_of old) a k most (named old) (named_event calls)
      ≡ named_event calls ∷ (if is_some v then [] else awaiting (names_of mid) a k most (named mid))
  until most v q =
      ap (λ (l : List AnyAnswer). named_event calls ∷ (if is_some (verdict_in a k l) then []
      else awaiting (names_of old) a k most (happens_named (names_of old) (named old) (named_event calls))))
      (sym P.answers)
      ∙ ap (λ (w : Option Bool). named_event calls ∷ (if is_some w then []
      else awaiting (names_of old) a k most (happens_named (names_of old) (named old) (named_event calls)))) q
      ∙ ap (λ (w : NamedWorld). named_event calls ∷ (if is_some v then [] else awaiting (names_of old) a k most w))
      (sym P.happens)
      ∙ ap (λ (p : NamedOpening). named_event calls ∷ (if is_some v then [] else awaiting p a k most (named mid)))
      (sym (begun.names))

  -- its own step answers it
  answered_at_once : (granted : Bool) → verdict_in a k (map answer_of now) ≡ Some granted
      → Called a c MOST_EVENTS old mid (Some granted)
  answered_at_once granted q =
      called mid (calls ∷ []) now MOST_EVENTS (Some granted) begun
      (went_on [] old old mid [] now calls (went_nowhere old []) (record { names = refl; cluster = refl }) P)
      (sym (until MOST_EVENTS (Some granted) q)) q

  -- or it waits
  answered_later : (new : WorldState) (most : ℕ) (v : Option Bool) → Keeps mid new
      → verdict_in a k (map answer_of now) ≡ None → Waited a k most mid new v → Called a c most old new v
  answered_later new most v K q W =
      called new (calls ∷ W.events) (now ++ W.given) most v
      (record { names = K.names ∙ P.names; cluster = K.cluster ∙ P.cluster })
      (went_behind calls W.events old mid new now W.given begun P W.played)
      (ap (λ (l : List NamedEvent). named_event calls ∷ l) W.are ∙ sym (until most None q))
      (ap (verdict_in a k) (map-append answer_of now W.given)
      ∙ verdict_in-append a k (map answer_of now) (map answer_of W.given) q ∙ W.answered)

  -- so does its seat
  sets : (new : WorldState) (result : Result Bool WorldSeatFault) → Keeps mid new
      → verdict_in a k (map answer_of now) ≡ None → HasWaited a k mid new result → SetsLock a c old new result
  sets new (Ok granted) K q W = answered_later new MOST_EVENTS (Some granted) K q W
  sets new (Err NoMemory) K q W = absurd W
  sets new (Err NoAnswer) K q W = answered_later new MOST_EVENTS None K q W
  sets new (Err (Refused r)) K q (refused, most, few, W) = (
    P.accepted ∙ ap refusal_of (sym refused),
    λ kept. absurd (no_memory (sym (ap is_memory refused) ∙ kept)),
    λ out. inr (most, few, answered_later new most None K q W),
  )
    where
      no_memory : true ≡ false → ⊥
      no_memory e = cc

-- the number of the next call of a node at present, by its core
pub next_of : (a : ℕ) (h : WorldState) (c : CoreState) → Some c ≡ core_of a h.cores → c.last_call + 1 ≡ next_number a (seen h)
next_of a h c e = ap (λ (o : Option CoreState). (node_with (opening_of h) a (or_else o (core_of a h.past))).last_call + 1) e

-- an event is refused
pub refused_event : {X : Type 0} (e : WorldEvent) (old new : WorldState) (result : Result X WorldSeatFault) (r : Refusal)
    → IsErrAnd result (λ y. y ≡ Refused r) → RefusedWith r e old → (is_memory r ≡ false → new ≡ old) → named new ≡ named old
    → IfErr result (IsUnplayed e old new)
refused_event e old new (Ok x) r h refused kept still = absurd h
refused_event e old new (Err y) r h refused kept still = subst (IsUnplayed e old new) (sym h) (refused, kept, still)

-- or there is no memory for it
pub unplayed_event : {X : Type 0} (e : WorldEvent) (old new : WorldState) (p : ℕ) (result : Result X WorldSeatFault)
    → IsErrAnd result (λ y. y ≡ Refused out_of_memory) → IsAdmitted p e old → named new ≡ named old
    → IfErr result (IsUnplayed e old new)
unplayed_event e old new p result h admitted still =
    refused_event e old new result out_of_memory h admitted.accepted (λ kept. absurd (no_memory kept)) still
  where
    no_memory : true ≡ false → ⊥
    no_memory e = cc

-- so the call of the node that the seat looked up isn't answered
pub unplayed_call : (a node b : ℕ) (c : Call) (old new : WorldState) (fault : WorldSeatFault) → node ≡ a → b ≡ node
    → IsUnplayed (At b (Calls c)) old new fault → Unanswered a c old new fault
unplayed_call a node b c old new (Refused r) node_is b_is (refused, kept, still) = (
  subst (λ (x : ℕ). RefusedWith r (At x (Calls c)) old) (b_is ∙ node_is) refused,
  kept,
  λ out. inl still,
)
unplayed_call a node b c old new NoMemory node_is b_is none = absurd none
unplayed_call a node b c old new NoAnswer node_is b_is none = absurd none

-- the same, where node and number are those that the seat looked up before the call was admitted at a place
module _ (a node b n p : ℕ) (c : Call) (old mid : WorldState) (now given : List Answer) (v : Option Bool) (node_is : node ≡ a)
    (b_is : b ≡ node) (admitted : IsAdmitted p (At b (Calls c)) old)
    (number_is : set_of (nodes_of old) node ≡ true → n ≡ next_number node (seen old))
    (P : Played (At b (Calls c)) old mid [] now)
    (given_is : given ≡ now) (verdict_is : v ≡ verdict_in node n (map answer_of given)) where
  played : Played (At a (Calls c)) old mid [] now
  played = subst (λ (x : ℕ). Played (At x (Calls c)) old mid [] now) (b_is ∙ node_is) P

  number_here : n ≡ next_number node (seen old)
  number_here = number_is (ap (set_of (nodes_of old)) (sym (admitted.own ∙ b_is))
      ∙ known_place (nodes_of old) admitted.node p admitted.place)

  verdict_here : verdict_in a (next_number a (seen old)) (map answer_of now) ≡ v
  verdict_here = sym (verdict_is ∙ ap (λ (l : List Answer). verdict_in node n (map answer_of l)) given_is
      ∙ ap (λ (x : ℕ). verdict_in node x (map answer_of now)) number_here
      ∙ ap (λ (x : ℕ). verdict_in x (next_number x (seen old)) (map answer_of now)) node_is)

  pub called_at_once : (granted : Bool) → v ≡ Some granted → Called a c MOST_EVENTS old mid (Some granted)
  called_at_once granted q = answered_at_once a c old mid now played granted (verdict_here ∙ q)

  pub called_later : (new : WorldState) (result : Result Bool WorldSeatFault) → Keeps mid new → v ≡ None
      → HasWaited node n mid new result → SetsLock a c old new result
  called_later new result K q W = sets a c old mid now played new result K (verdict_here ∙ q)
      (subst (λ (x : ℕ). HasWaited x (next_number x (seen old)) mid new result) node_is
      (subst (λ (x : ℕ). HasWaited node x mid new result) number_here W))
