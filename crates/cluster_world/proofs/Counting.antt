-- What an answered lock call does to the numbers of its holder.
use Rattle.std.proofs.Common.{ℕ, zero, suc, Bool, true, false, ◌≡◌, ◌≤◌, ◌<◌, ◌+◌, ◌-◌, Option, Some, None, List, [], ◌∷◌, ◌++◌, length, map, refl, sym, ap, subst, ◌∙◌, arith}
use Rattle.std.specs.Prelude.{◌&&◌, not, is_none, is_some, if◌then◌else◌}
use Rattle.std.specs.List.{list_all}
use Rattle.std.proofs.lemmas.Bool.{and_parts, eqb-true}
use Rattle.std.proofs.lemmas.List.{length-append}
use Rattle.std.proofs.lemmas.List.Elements.{filter-append}
use Rattle.registry_model.specs.Process.{Text, Process}
use Rattle.protocol_model.specs.Answers.{AtMostOne, NotYet, Once as OnceAnswered, answers_under, calls_at}
use Rattle.protocol_model.specs.Course.{course}
use Rattle.protocol_model.specs.Event.{Call as AnyCall, Event as AnyEvent, Answer as AnyAnswer, Cause, UnknownNode, calls_spent, cause, causes, first_cause, lock_causes, names_members}
use Rattle.protocol_model.specs.Letter.{Id, Client, is_id}
use Rattle.protocol_model.specs.Node.{Target, Retries, targets}
use Rattle.protocol_model.specs.ClientLocks.{Try, Tally, try_of, last_try, tally_from, tally_after, holds_count, gives}
use Rattle.protocol_model.specs.World.{Opening, World, WorldEvent as AnyWorldEvent, opening_world, happens, answers, run, all_answers}
use Rattle.getting_through.specs.NodeNames.{NamedOpening, opening_of as all_creations}
use Rattle.getting_through.specs.NamedWorld.{NamedWorld, NamedEvent, AtNode, opening_named, plain_events, named_refusal, named_answers, happens_named, run_named, after_events, as_events}
use Rattle.getting_through.proofs.NamedRuns.{run-plain, named_runs_are_runs, plain_events-append, tally-append}
use Rattle.getting_through.proofs.Events.{accepted_of, lock_tested, live_own, none_of}
use Rattle.getting_through.proofs.Clients.{Numbers, call_at}
use Rattle.getting_through.proofs.Ids.{is_process_self}
use Rattle.getting_through.proofs.Opening.{no_numbers}
use Rattle.getting_through.proofs.RoundNumbers.{round_count_after, round_count_from}
use Rattle.getting_through.proofs.Tallies.{fits_opens, fits_behind}
use Rattle.getting_through.proofs.Tries.{Fits}
use Rattle.getting_through.proofs.Walking.{event_keeps, run_state, opening_state}
use Rattle.getting_through.proofs.Together.{All}
use Rattle.getting_through.proofs.Theorem.{calls_are_answered_once}
use Rattle.node_core.specs.declared.Answer.{Answer}
use Rattle.node_core.specs.NodeEventsSeen.{answer_of}
use Rattle.world_events.specs.declared.events.WorldEvent.{WorldEvent}
use Rattle.cluster_world.specs.WorldState.{WorldState}
use Rattle.cluster_world.specs.Seen.{names_of, seen, named}
use Rattle.cluster_world.specs.Playing.{WentThrough, events_of, accepts_all, answers_to_all}
use Rattle.cluster_world.specs.Locks.{try_behind}
use Rattle.cluster_world.specs.Counting.{is_granted, has_to_ask, unless_gone, CountsGrant, CountsDeletion, Counts}
use Rattle.cluster_world.specs.Seats.{verdict_in, next_number, next_for, awaiting, until_answered}
use Rattle.protocol_model.proofs.Courses.{course_answers, answers-append}
use Rattle.cluster_world.proofs.Agreeing.{answers_are}
use Rattle.cluster_world.proofs.OneEvent.{IsOne, one_at, one_more, one_then}
use Rattle.cluster_world.proofs.Verdicts.{under, is_under}
use Rattle.cluster_world.proofs.Winning.{is_named_waited, waits_for, grounds, Behind, IsNow, IsOf, CountsSo, Once, answered_so, waited_so}
use Rattle.cluster_world.proofs.Spent.{Spent, none_by, spent_step, spent_stays, spent_first}

-- what is played while a call waits
waited_all : (o : NamedOpening) (a k most : ℕ) (w : NamedWorld) → list_all is_named_waited (awaiting o a k most w) ≡ true
waited_all o a k zero w = refl
waited_all o a k (suc most) w =
    go (is_some (named_refusal o w (next_for o a w))) (is_some (verdict_in a k (named_answers o w (next_for o a w))))
    (waited_all o a k most (happens_named o w (next_for o a w)))
  where
    go : (r v : Bool) → list_all is_named_waited (awaiting o a k most (happens_named o w (next_for o a w))) ≡ true
        → list_all is_named_waited (if r then [] else next_for o a w ∷
        (if v then [] else awaiting o a k most (happens_named o w (next_for o a w)))) ≡ true
    go true v h = refl
    go false true h = rw (waits_for o a w) refl
    go false false h = rw (waits_for o a w, h) refl

few : (calls : List AnyCall) (a k : ℕ) (ss : List AnyAnswer) → AtMostOne calls a k ss → length ss ≤ 1
few calls a k ss NotYet = omega arith
few calls a k ss (OnceAnswered call reply there may) = omega arith

module _ (o : NamedOpening) (before : List NamedEvent) (w : NamedWorld) (is : w ≡ after_events o before) where
  abbrev O : Opening
  O = all_creations o

  -- the events before, in the world
  abbrev begun : List AnyWorldEvent
  begun = as_events o before

  made : w.world ≡ run O (opening_world O) begun
  made = ap (λ (v : NamedWorld). v.world) is ∙ named_runs_are_runs o before

  -- and more
  more_events : (es : List NamedEvent) → as_events o (before ++ es) ≡ begun ++ plain_events o w es
  more_events es = plain_events-append o (opening_named o) before es
      ∙ ap (λ (v : NamedWorld). begun ++ plain_events o v es) (sym is)

  abbrev nothing : Tally
  nothing = record { number = 0; last = None }

  abbrev num : Numbers
  num p i c = round_count_from O (opening_world O) begun p i c 0

  stands : Behind O w.world num
  stands = subst (λ (v : World). Behind O v num) (sym made)
      (run_state O (All O) (grounds O) (opening_world O) begun no_numbers (opening_state O (All O) (grounds O)))

  abbrev tally : Process → Id → ℕ → Tally
  tally p i c = tally_from O (opening_world O) begun p i c nothing

  -- what is counted behind more events
  then_on : (es : List NamedEvent) (p : Process) (i : Id) (c : ℕ)
      → tally_from O (opening_world O) (as_events o (before ++ es)) p i c nothing
      ≡ tally_from O w.world (plain_events o w es) p i c (tally p i c)
  then_on es p i c =
      ap (λ (xs : List AnyWorldEvent). tally_from O (opening_world O) xs p i c nothing) (more_events es)
      ∙ tally-append O p i c (opening_world O) begun (plain_events o w es) nothing
      ∙ ap (λ (v : World). tally_from O v (plain_events o w es) p i c (tally p i c)) (sym made)

  -- a call is answered at most once
  once : (a k : ℕ) → 0 < k → (es : List AnyWorldEvent) → length (under a k (all_answers O w.world es)) ≤ 1
  once a k more es = omega (arith, all, sum)
    where
      all : length (under a k (all_answers O (opening_world O) (begun ++ es))) ≤ 1
      all = subst (λ (ss : List AnyAnswer). length (under a k ss) ≤ 1)
          (course_answers O (opening_world O) (begun ++ es))
          (few (calls_at a (course O (opening_world O) (begun ++ es))) a k
          (answers_under a k (course O (opening_world O) (begun ++ es)))
          ((calls_are_answered_once O (begun ++ es)).once a k more))

      sum : length (under a k (all_answers O (opening_world O) (begun ++ es)))
          ≡ length (under a k (all_answers O (opening_world O) begun)) + length (under a k (all_answers O w.world es))
      sum = ap (λ (ss : List AnyAnswer). length (under a k ss)) (answers-append O (opening_world O) begun es
          ∙ ap (λ (v : World). all_answers O (opening_world O) begun ++ all_answers O v es) (sym made))
          ∙ ap length (filter-append (is_under a k) (all_answers O (opening_world O) begun) (all_answers O w.world es))
          ∙ length-append (under a k (all_answers O (opening_world O) begun)) (under a k (all_answers O w.world es))

  -- a `set_lock` of p that is played until it is answered
  module _ (p : Process) (r q : Text) (target : Target) (retries : Retries) (most : ℕ) where
    abbrev attempt : NamedEvent
    attempt = AtNode p.node (AnyEvent.Calling (AnyCall.SetLock p r q target retries))

    abbrev played : List NamedEvent
    played = until_answered o p.node (next_number p.node w.world) most w attempt

    pub attempted : named_refusal o w attempt ≡ None → (i : Id) (c : ℕ)
        → holds_count O (as_events o (before ++ played)) p i c
        ≡ unless_gone (run_named o w played).world p (if is_id (Client r q) i
        && has_to_ask c (try_behind O (as_events o (before ++ played)) p i c)
        && is_granted (verdict_in p.node (next_number p.node w.world) (answers_to_all o w played))
        then holds_count O begun p i c + 1 else holds_count O begun p i c)
    attempted free i c = subst
        (λ (t : Tally). t.number ≡ unless_gone (run_named o w played).world p (if is_id (Client r q) i
        && has_to_ask c t.last && is_granted (verdict_in p.node (next_number p.node w.world) (answers_to_all o w played))
        then holds_count O begun p i c + 1 else holds_count O begun p i c))
        (sym (then_on played p i c))
        (subst (λ (ss : List AnyAnswer). there.number ≡ unless_gone (run_named o w played).world p
        (if is_id (Client r q) i && has_to_ask c there.last && is_granted (verdict_in p.node k ss)
        then holds_count O begun p i c + 1 else holds_count O begun p i c))
        (answers_are o w played)
        (subst (λ (v : World). there.number ≡ unless_gone v p (if is_id (Client r q) i
        && has_to_ask c there.last && is_granted (verdict_in p.node k (all_answers O w.world (plain_events o w played)))
        then holds_count O begun p i c + 1 else holds_count O begun p i c))
        (sym (run-plain o w played)) counted))
      where
        k : ℕ
        k = next_number p.node w.world

        there : Tally
        there = tally_from O w.world (plain_events o w played) p i c (tally p i c)

        x : AnyWorldEvent
        x = AnyWorldEvent.At p.node (AnyEvent.Calling (AnyCall.SetLock p r q target retries))

        I : IsOne o w attempt x
        I = one_at o w p.node (AnyEvent.Calling (AnyCall.SetLock p r q target retries)) free

        v : NamedWorld
        v = happens_named o w attempt

        more : List AnyWorldEvent
        more = plain_events o v (awaiting o p.node k most v)

        events : plain_events o w played
            ≡ x ∷ (if is_some (verdict_in p.node k (answers O w.world x)) then [] else more)
        events = one_then o w p.node k attempt x (awaiting o p.node k most v) I

        first : Try
        first = try_of (w.world.node p.node).replica.members ((w.world.node p.node).last_call + 1) (Client r q) target

        tried : IsOf k (Client r q) (last_try w.world x p (tally p i c).last)
        tried = (
          first,
          (
            ap (λ (b : Bool). if b then Some first else (tally p i c).last) (is_process_self p),
            (refl, refl),
          ),
        )

        after : Tally
        after = tally_after O w.world x p i c (tally p i c)

        numbers : Numbers
        numbers = λ s y z. round_count_after O w.world x s y z (num s y z)

        later : IsOf k (Client r q) after.last → IsNow O p i c (happens O w.world x) after (tally p i c).number
            → Once O p i c k (Client r q) (happens O w.world x) more
            → CountsSo O p i c k (Client r q) (happens O w.world x) more after (tally p i c).number
        later of now h = subst
            (λ (u : World). CountsSo O p i c k (Client r q) u more after (tally p i c).number) I.world
            (waited_so o p i c k (Client r q) most v (tally p i c).number numbers
            (subst (λ (u : World). Behind O u numbers) (sym I.world) (event_keeps O (All O) (grounds O) w.world x num stands))
            after of
            (subst (λ (u : World). IsNow O p i c u after (tally p i c).number) (sym I.world) now)
            (subst (λ (u : World). Once O p i c k (Client r q) u more) (sym I.world) h))

        counted : CountsSo O p i c k (Client r q) w.world (plain_events o w played) (tally p i c) (tally p i c).number
        counted = subst (λ (es : List AnyWorldEvent).
            CountsSo O p i c k (Client r q) w.world es (tally p i c) (tally p i c).number) (sym events)
            (answered_so O p i c k (Client r q) w.world num stands x more (tally p i c) (tally p i c).number I.free tried refl
            (λ up. refl) later
            (once p.node k (omega arith) (x ∷ (if is_some (verdict_in p.node k (answers O w.world x)) then [] else more))))

  -- a `del_lock` of p, in the same way
  module _ (p : Process) (r q : Text) (target : Target) (most : ℕ) where
    abbrev deletion : NamedEvent
    deletion = AtNode p.node (AnyEvent.Calling (AnyCall.DelLock p r q target))

    abbrev gone_on : List NamedEvent
    gone_on = until_answered o p.node (next_number p.node w.world) most w deletion

    pub deleted : accepts_all o w gone_on ≡ true → (i : Id) (c : ℕ) → holds_count O (as_events o (before ++ gone_on)) p i c
        ≡ unless_gone (run_named o w gone_on).world p
        (if is_id (Client r q) i && targets (w.world.node p.node).replica.members target c
        then holds_count O begun p i c - 1 else holds_count O begun p i c)
    deleted free i c = subst (λ (t : Tally). IsNow O p i c (run_named o w gone_on).world t n) (sym (then_on gone_on p i c))
        (subst (λ (u : World). IsNow O p i c u (tally_from O w.world (plain_events o w gone_on) p i c (tally p i c)) n)
        (sym (run-plain o w gone_on))
        (subst (λ (xs : List AnyWorldEvent). IsNow O p i c (run O w.world xs) (tally_from O w.world xs p i c (tally p i c)) n)
        (sym (one_more o w deletion x later I))
        (subst (λ (u : World).
        IsNow O p i c (run O u (plain_events o v later)) (tally_from O u (plain_events o v later) p i c after) n) I.world
        (spent_stays o p later v numbers
        (subst (λ (u : World). Behind O u numbers) (sym I.world) (event_keeps O (All O) (grounds O) w.world x num stands))
        i c after n parts.1 waited
        (subst (λ (u : World). Spent O p u after.last) (sym I.world) one.1)
        (subst (λ (u : World). IsNow O p i c u after n) (sym I.world) one.0)))))
      where
        k : ℕ
        k = next_number p.node w.world

        x : AnyWorldEvent
        x = AnyWorldEvent.At p.node (AnyEvent.Calling (AnyCall.DelLock p r q target))

        v : NamedWorld
        v = happens_named o w deletion

        given : Bool
        given = is_id (Client r q) i && targets (w.world.node p.node).replica.members target c

        n : ℕ
        n = if given then holds_count O begun p i c - 1 else holds_count O begun p i c

        later : List NamedEvent
        later = if is_some (verdict_in p.node k (named_answers o w deletion)) then [] else awaiting o p.node k most v

        waited : list_all is_named_waited later ≡ true
        waited = go (is_some (verdict_in p.node k (named_answers o w deletion)))
          where
            go : (b : Bool) → list_all is_named_waited (if b then [] else awaiting o p.node k most v) ≡ true
            go true = refl
            go false = waited_all o p.node k most v

        parts : (is_none (named_refusal o w deletion) ≡ true) × (accepts_all o v later ≡ true)
        parts = and_parts (is_none (named_refusal o w deletion)) (accepts_all o v later) free

        I : IsOne o w deletion x
        I = one_at o w p.node (AnyEvent.Calling (AnyCall.DelLock p r q target)) (none_by (named_refusal o w deletion) parts.0)

        after : Tally
        after = tally_after O w.world x p i c (tally p i c)

        numbers : Numbers
        numbers = λ s y z. round_count_after O w.world x s y z (num s y z)

        idle : call_at w.world p ≡ None
        idle = none_of (call_at w.world p) (lock_tested p.node (w.world.node p.node) p r
            (calls_spent (w.world.node p.node) ∷ []) (accepted_of O w.world x I.free).local).1

        fit : Fits w.world p (tally p i c).last
        fit = subst (λ (u : World). Fits u p (tally p i c).last) (sym made)
            (fits_behind O (All O) (grounds O) begun (opening_world O) no_numbers (opening_state O (All O) (grounds O))
            nothing p i c (fits_opens O p))

        goes : gives w.world x p i c ≡ given
        goes = ap (λ (b : Bool). b && is_id (Client r q) i && targets (w.world.node p.node).replica.members target c)
            (is_process_self p)

        one : IsNow O p i c (happens O w.world x) after n × Spent O p (happens O w.world x) after.last
        one = spent_step O p w.world num stands x i c (tally p i c) (holds_count O begun p i c) given I.free refl
            (spent_first O p w.world num stands (tally p i c).last fit idle) (λ alive. refl) goes

-- an accepted lock call is of a process of its node
home_of : (w : World) (a : ℕ) (p : Process) (r : Text) (more : List Cause)
    → first_cause (lock_causes a (w.node a) p r ++ more) ≡ None → p.node ≡ a
home_of w a p r more h = eqb-true p.node a (live_own a (w.node a).watch p
    (lock_tested a (w.node a) p r more h).0).0

module _ (es : List WorldEvent) (given : List Answer) (old new : WorldState) (most : ℕ) (v : Option Bool)
    (W : WentThrough es old new [] given) where
  abbrev o : NamedOpening
  o = names_of old

  abbrev w : NamedWorld
  w = named old

  -- these events were played for this call of node a, with this verdict
  abbrev IsFor : AnyCall → ℕ → Type 0
  IsFor call a = (events_of es ≡ until_answered o a (next_number a w.world) most w (AtNode a (AnyEvent.Calling call)))
      × (verdict_in a (next_number a w.world) (map answer_of given) ≡ v)

  -- its event was accepted
  first_free : (call : AnyCall) (a : ℕ) → IsFor call a → named_refusal o w (AtNode a (AnyEvent.Calling call)) ≡ None
  first_free call a f = none_by (named_refusal o w e) (and_parts (is_none (named_refusal o w e))
      (accepts_all o (happens_named o w e) (if is_some (verdict_in a (next_number a w.world) (named_answers o w e)) then []
      else awaiting o a (next_number a w.world) most (happens_named o w e)))
      (ap (accepts_all o w) (sym f.0) ∙ W.accepted)).0
    where
      e : NamedEvent
      e = AtNode a (AnyEvent.Calling call)

  set_counts : (p : Process) (r q : Text) (target : Target) (retries : Retries)
      → IsFor (AnyCall.SetLock p r q target retries) p.node → CountsGrant p (Client r q) v es old new
  set_counts p r q target retries f before is i c = subst
      (λ (l : List NamedEvent). holds_count O (as_events o (before ++ l)) p i c ≡ unless_gone (seen new) p
      (if is_id (Client r q) i && has_to_ask c (try_behind O (as_events o (before ++ l)) p i c) && is_granted v
      then holds_count O (as_events o before) p i c + 1 else holds_count O (as_events o before) p i c))
      (sym f.0)
      (attempted o before w is p r q target retries most
      (first_free (AnyCall.SetLock p r q target retries) p.node f) i c
      ∙ ap (λ (b : Option Bool). unless_gone (run_named o w played).world p
      (if is_id (Client r q) i && has_to_ask c (try_behind O (as_events o (before ++ played)) p i c) && is_granted b
      then holds_count O (as_events o before) p i c + 1 else holds_count O (as_events o before) p i c)) verdict
      ∙ ap (λ (y : NamedWorld). unless_gone y.world p
      (if is_id (Client r q) i && has_to_ask c (try_behind O (as_events o (before ++ played)) p i c) && is_granted v
      then holds_count O (as_events o before) p i c + 1 else holds_count O (as_events o before) p i c))
      (sym (W.world ∙ ap (run_named o w) f.0)))
    where
      O : Opening
      O = all_creations o

      played : List NamedEvent
      played = until_answered o p.node (next_number p.node w.world) most w
          (AtNode p.node (AnyEvent.Calling (AnyCall.SetLock p r q target retries)))

      verdict : verdict_in p.node (next_number p.node w.world) (answers_to_all o w played) ≡ v
      verdict = ap (verdict_in p.node (next_number p.node w.world)) (ap (answers_to_all o w) (sym f.0) ∙ sym W.answers) ∙ f.1

  deletion_counts : (p : Process) (r q : Text) (target : Target)
      → IsFor (AnyCall.DelLock p r q target) p.node → CountsDeletion p (Client r q) target es old new
  deletion_counts p r q target f before is i c = subst
      (λ (l : List NamedEvent). holds_count O (as_events o (before ++ l)) p i c ≡ unless_gone (seen new) p n)
      (sym f.0)
      (deleted o before w is p r q target most (ap (accepts_all o w) (sym f.0) ∙ W.accepted) i c
      ∙ ap (λ (y : NamedWorld). unless_gone y.world p n) (sym (W.world ∙ ap (run_named o w) f.0)))
    where
      O : Opening
      O = all_creations o

      n : ℕ
      n = if is_id (Client r q) i && targets (w.world.node p.node).replica.members target c
          then holds_count O (as_events o before) p i c - 1 else holds_count O (as_events o before) p i c

  -- what the node has to say of an accepted call
  local_free : (call : AnyCall) (a : ℕ) → IsFor call a
      → first_cause (causes a (w.world.node a) (AnyEvent.Calling call)) ≡ None
  local_free call a f = (accepted_of (all_creations o) w.world (AnyWorldEvent.At a (AnyEvent.Calling call))
      (one_at o w a (AnyEvent.Calling call) (first_free call a f)).free).local

  -- so the call counts
  pub counts : (call : AnyCall) (a : ℕ) → IsFor call a → Counts call v es old new
  counts (AnyCall.SetLock p r q target retries) a f = set_counts p r q target retries
      (subst (IsFor (AnyCall.SetLock p r q target retries)) (sym home) f)
    where
      home : p.node ≡ a
      home = home_of w.world a p r
          (cause (not (names_members (w.world.node a) target)) UnknownNode ∷ calls_spent (w.world.node a) ∷ [])
          (local_free (AnyCall.SetLock p r q target retries) a f)
  counts (AnyCall.DelLock p r q target) a f = deletion_counts p r q target
      (subst (IsFor (AnyCall.DelLock p r q target)) (sym home) f)
    where
      home : p.node ≡ a
      home = home_of w.world a p r (calls_spent (w.world.node a) ∷ []) (local_free (AnyCall.DelLock p r q target) a f)
  counts AnyCall.Spawn a f = tt
  counts (AnyCall.LookUp look) a f = tt
  counts (AnyCall.OnName call) a f = tt
  counts (AnyCall.JoinBy m) a f = tt
