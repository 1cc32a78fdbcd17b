-- Lock calls in a quiet world of named nodes: what is said of them is said in the world in which all nodes that haven't started were
-- told of all that have left, and there the call and its letters do the same.
use mathlib.Core.Logic.{inl, inr}
use Rattle.std.proofs.Common.{ℕ, Bool, true, false, ◌≡◌, ◌<◌, ◌+◌, List, [], ◌∷◌, ◌++◌, refl, sym, ap, subst, ◌∙◌}
use Rattle.std.specs.Prelude.{◌⊎◌, Contains, Option, Some, None, is_none, ◌&&◌, ◌||◌, ◌==◌, if◌then◌else◌, filter}
use Rattle.std.specs.List.{list_all}
use Rattle.std.proofs.lemmas.Bool.{false_from_ne_true}
use Rattle.registry_model.specs.Process.{Text, Process, Nodes}
use Rattle.registry_model.specs.Call.{Reply}
use Rattle.protocol_model.specs.Letter.{Letter, Client}
use Rattle.protocol_model.specs.LockTable.{last_count}
use Rattle.protocol_model.specs.Node.{Node, Target, call_of, targets}
use Rattle.protocol_model.specs.Event.{Event, Answer, NoSuchNode, is_waiting_call}
use Rattle.protocol_model.specs.World.{in_world, Opening, World, left, WorldEvent, At, Deliver, opening_world, number_in, refusal, happens, answers, run, all_answers}
use Rattle.protocol_model.specs.Course.{course}
use Rattle.protocol_model.specs.Fit.{is_delivery}
use Rattle.protocol_model.specs.Answers.{answers_under}
use Rattle.protocol_model.specs.ClientLocks.{Try, waits_for_retry, is_no_more}
use Rattle.lock_answers.specs.Worlds.{of_nodes, IsQuiet}
use Rattle.lock_answers.specs.QuietCalls.{called_once, IsFree, Tells, IsAnswerTo, IsQuietCall, AnswersIt}
use Rattle.lock_answers.specs.ClientLocks.{ClientLocks}
use Rattle.protocol_model.specs.LockAnswers.{Tries, watched, meets, tries_after, tries_from, tries_of}
use Rattle.protocol_model.proofs.Courses.{run-append, course_answers}
use Rattle.lock_answers.proofs.ClientLocks.{client_locks as of_worlds}
use Rattle.creations.specs.NodeNames.{NamedOpening, opening_of}
use Rattle.creations.specs.NamedWorld.{NamedWorld, NamedEvent, NamedRefusal, Plain, present_node, has_started, sender_to, named_refusal, plain_refusal, plain, plain_accepted, plain_events, accepted_named, happens_named, run_named}
use Rattle.creations.specs.WorldsOfNames.{is_named_delivery, of_names}
use Rattle.creations.proofs.NamedRuns.{run-plain, named_runs_are_runs}
use Rattle.creations.proofs.Alike.{Alike, AreWithin, same_refusal, within-append, run_alike}
use Rattle.creations.proofs.Standing.{Sound, present_started, least_started, unrefused}
use Rattle.creations.proofs.Catching
use Rattle.creations.proofs.Always.{happens_keeps}
use Rattle.creations.proofs.CaughtUp.{is_listed, unanswered, are_deliveries}
use Rattle.creations.proofs.LeftOfNames

-- where more events answer nothing
pub answers_more : (o : Opening) (w : World) (xs ys : List WorldEvent) → all_answers o (run o w xs) ys ≡ []
    → all_answers o w (xs ++ ys) ≡ all_answers o w xs
answers_more o w [] ys e = e
answers_more o w (x ∷ xs) ys e = ap (λ (l : List Answer). answers o w x ++ l) (answers_more o (happens o w x) xs ys e)

-- tries over two lists
pub tries-append : (o : Opening) (p : Process) (w : World) (xs ys : List WorldEvent) (t : Option Tries)
    → tries_from o w (xs ++ ys) p t ≡ tries_from o (run o w xs) ys p (tries_from o w xs p t)
tries-append o p w [] ys t = refl
tries-append o p w (x ∷ xs) ys t = tries-append o p (happens o w x) xs ys (tries_after o w x p t)

-- deliveries leave the last try
pub tries_kept : (o : Opening) (p : Process) (xs : List WorldEvent) → list_all is_delivery xs ≡ true → (w : World) (t : Tries)
    → (later : Tries) × (tries_from o w xs p (Some t) ≡ Some later) × (later.last ≡ t.last)
tries_kept o p [] D w t = (t, refl, refl)
tries_kept o p (At a e ∷ xs) D w t = absurd (cc D)
tries_kept o p (Deliver f c ∷ xs) D w t = go (is_none (refusal o w (Deliver f c)))
    (λ x. tries_kept o p xs D (happens o w (Deliver f c)) x)
  where
    go : (b : Bool) → ((x : Tries) → (later : Tries) × (tries_from o (happens o w (Deliver f c)) xs p (Some x) ≡ Some later)
        × (later.last ≡ x.last)) → (later : Tries)
        × (tries_from o (happens o w (Deliver f c)) xs p (if b then watched o w (Deliver f c) p (Some t) else Some t) ≡ Some later)
        × (later.last ≡ t.last)
    go true more = more (record t { met = t.met || meets o w (Deliver f c) p t.last })
    go false more = more t

-- calls and deliveries by names
module _ (o : NamedOpening) where
  abbrev IsCallOrDelivery : NamedEvent → Type 0
  IsCallOrDelivery (NamedEvent.AtNode n (Event.Calling c)) = Unit {0}
  IsCallOrDelivery (NamedEvent.Deliver f t) = Unit {0}
  IsCallOrDelivery _ = ⊥

  same_started : (w : NamedWorld) (e : NamedEvent) → IsCallOrDelivery e → has_started o (happens_named o w e) ≡ has_started o w
  same_started w (NamedEvent.AtNode n (Event.Calling c)) i = go (named_refusal o w (NamedEvent.AtNode n (Event.Calling c)))
    where
      go : (r : Option NamedRefusal)
          → has_started o (if is_none r then accepted_named o w (NamedEvent.AtNode n (Event.Calling c)) else w) ≡ has_started o w
      go None = refl
      go (Some r) = refl
  same_started w (NamedEvent.Deliver f t) i = go (named_refusal o w (NamedEvent.Deliver f t))
    where
      go : (r : Option NamedRefusal)
          → has_started o (if is_none r then accepted_named o w (NamedEvent.Deliver f t) else w) ≡ has_started o w
      go None = refl
      go (Some r) = refl
  same_started w (NamedEvent.AtNode n Event.Retry) i = absurd i
  same_started w (NamedEvent.AtNode n Event.Leave) i = absurd i
  same_started w (NamedEvent.AtNode n (Event.Exiting p)) i = absurd i
  same_started w (NamedEvent.At x e) i = absurd i
  same_started w (NamedEvent.Restart x) i = absurd i

  one_within : (w : NamedWorld) (e : NamedEvent) → Sound o w → IsCallOrDelivery e
      → AreWithin (opening_of o) (has_started o w) (plain_accepted o w e)
  one_within w (NamedEvent.AtNode n (Event.Calling c)) s i = go (named_refusal o w (NamedEvent.AtNode n (Event.Calling c))) refl
    where
      e : WorldEvent
      e = WorldEvent.At n (Event.Calling c)

      by : (b : Bool) → has_started o w n ≡ b → (if b then plain_refusal o w e else Some (Plain NoSuchNode)) ≡ None
          → AreWithin (opening_of o) (has_started o w) (e ∷ [])
      by true k q = ((tt, k, (unrefused o w s e q).0), tt)
      by false k q = absurd (cc q)

      go : (r : Option NamedRefusal) → named_refusal o w (NamedEvent.AtNode n (Event.Calling c)) ≡ r
          → AreWithin (opening_of o) (has_started o w) (if is_none r then e ∷ [] else [])
      go None q = by (has_started o w n) refl q
      go (Some r) q = tt
  one_within w (NamedEvent.Deliver f t) s i = go (named_refusal o w (NamedEvent.Deliver f t)) refl
    where
      e : WorldEvent
      e = WorldEvent.Deliver (sender_to o w f t) (present_node o w t)

      go : (r : Option NamedRefusal) → named_refusal o w (NamedEvent.Deliver f t) ≡ r
          → AreWithin (opening_of o) (has_started o w) (if is_none r then e ∷ [] else [])
      go None q = ((tt, present_started o w s t, (unrefused o w s e q).0), tt)
      go (Some r) q = tt
  one_within w (NamedEvent.AtNode n Event.Retry) s i = absurd i
  one_within w (NamedEvent.AtNode n Event.Leave) s i = absurd i
  one_within w (NamedEvent.AtNode n (Event.Exiting p)) s i = absurd i
  one_within w (NamedEvent.At x e) s i = absurd i
  one_within w (NamedEvent.Restart x) s i = absurd i

  abbrev AreCallsOrDeliveries : List NamedEvent → Type 0
  AreCallsOrDeliveries [] = Unit {0}
  AreCallsOrDeliveries (e ∷ es) = IsCallOrDelivery e × AreCallsOrDeliveries es

  all_same_started : (es : List NamedEvent) (w : NamedWorld) → AreCallsOrDeliveries es
      → has_started o (run_named o w es) ≡ has_started o w
  all_same_started [] w i = refl
  all_same_started (e ∷ es) w i = all_same_started es (happens_named o w e) i.1 ∙ same_started w e i.0

  all_within : (es : List NamedEvent) (w : NamedWorld) → Sound o w → AreCallsOrDeliveries es
      → AreWithin (opening_of o) (has_started o w) (plain_events o w es)
  all_within [] w s i = tt
  all_within (e ∷ es) w s i = within-append (opening_of o) (has_started o w) (plain_accepted o w e)
      (plain_events o (happens_named o w e) es) (one_within w e s i.0)
      (subst (λ (S : Nodes). AreWithin (opening_of o) S (plain_events o (happens_named o w e) es)) (same_started w e i.0)
      (all_within es (happens_named o w e) (happens_keeps o w e s) i.1))

  deliveries_are : (ds : List NamedEvent) → list_all is_named_delivery ds ≡ true → AreCallsOrDeliveries ds
  deliveries_are [] D = tt
  deliveries_are (NamedEvent.Deliver f t ∷ ds) D = (tt, deliveries_are ds D)
  deliveries_are (NamedEvent.AtNode n e ∷ ds) D = absurd (cc D)
  deliveries_are (NamedEvent.At x e ∷ ds) D = absurd (cc D)
  deliveries_are (NamedEvent.Restart x ∷ ds) D = absurd (cc D)

  pub plain_deliveries : (ds : List NamedEvent) (w : NamedWorld) → list_all is_named_delivery ds ≡ true
      → list_all is_delivery (plain_events o w ds) ≡ true
  plain_deliveries [] w D = refl
  plain_deliveries (NamedEvent.Deliver f t ∷ ds) w D =
      go (named_refusal o w (NamedEvent.Deliver f t)) (plain_deliveries ds (happens_named o w (NamedEvent.Deliver f t)) D)
    where
      go : (r : Option NamedRefusal) → list_all is_delivery (plain_events o (happens_named o w (NamedEvent.Deliver f t)) ds) ≡ true
          → list_all is_delivery ((if is_none r then plain o w (NamedEvent.Deliver f t) else [])
          ++ plain_events o (happens_named o w (NamedEvent.Deliver f t)) ds) ≡ true
      go None more = more
      go (Some r) more = more
  plain_deliveries (NamedEvent.AtNode n e ∷ ds) w D = absurd (cc D)
  plain_deliveries (NamedEvent.At x e ∷ ds) w D = absurd (cc D)
  plain_deliveries (NamedEvent.Restart x ∷ ds) w D = absurd (cc D)

module _ (o : NamedOpening) (es : List NamedEvent) where
  abbrev O : Opening
  O = opening_of o

  abbrev E : List WorldEvent
  E = LeftOfNames.E o es

  abbrev F : List WorldEvent
  F = LeftOfNames.F o es

  abbrev w : NamedWorld
  w = LeftOfNames.w o es

  abbrev u : World
  u = LeftOfNames.u o es

  abbrev late : List ℕ
  late = LeftOfNames.late o es

  abbrev S : Nodes
  S = has_started o w

  s : Sound o w
  s = LeftOfNames.s o es

  started_is_other : (c : ℕ) → S c ≡ true → Contains late c → ⊥
  started_is_other c e i = cc (LeftOfNames.unstarted o es c i, e)

  listed : (c : ℕ) → (Contains late c) ⊎ (Contains late c → ⊥)
  listed c = is_listed O (LeftOfNames.gone o es) (LeftOfNames.distinct_gone o es) late c

  -- the world as it was and the one in which all were told are alike
  pub alike : Alike O S w.world u
  alike = record {
    node = λ a e. (LeftOfNames.caught o es).others a (started_is_other a e);
    number = λ a. elim (listed a) [
      | inl i ↦ ap (λ (v : Node). number_in v.current) ((LeftOfNames.caught o es).fresh a i)
          ∙ sym (ap (λ (v : Node). number_in v.current)
          (Catching.fresh o w s a (LeftOfNames.unstarted o es a i) (LeftOfNames.inside o es a i)).node)
      | inr out ↦ ap (λ (v : Node). number_in v.current) ((LeftOfNames.caught o es).others a out)
    ];
    queue = λ f t e. (LeftOfNames.caught o es).elsewhere f t (started_is_other t e);
    departures = (LeftOfNames.caught o es).departures;
    late = λ f n e. elim (listed n) [
      | inl i ↦ (LeftOfNames.caught o es).emptied f n i
      | inr out ↦ (LeftOfNames.caught o es).elsewhere f n out ∙ s.apart.told f n e
          ∙ outside (left w.world f) (in_world O n) (false_from_ne_true (in_world O n) (λ q. out (LeftOfNames.is_late o es n e q)))
    ];
  }
    where
      outside : (b c : Bool) → c ≡ false → (if b && c then Letter.Down ∷ [] else []) ≡ []
      outside true c e = ap (λ (x : Bool). if x then Letter.Down ∷ [] else []) e
      outside false c e = refl

  -- what is said of it there
  there : ClientLocks (of_nodes O) (E ++ F) u
  there = subst (ClientLocks (of_nodes O) (E ++ F))
      (run-append O (opening_world O) E F ∙ ap (λ (v : World). run O v F) (sym (named_runs_are_runs o es))) (of_worlds O (E ++ F))

  same_waiting : (p : Process) → waits_for_retry u p ≡ waits_for_retry w.world p
  same_waiting p = elim (listed p.node) [
    | inl i ↦ ap (λ (v : Node). waiting v) ((LeftOfNames.caught o es).fresh p.node i)
        ∙ sym (ap (λ (v : Node). waiting v)
        (Catching.fresh o w s p.node (LeftOfNames.unstarted o es p.node i) (LeftOfNames.inside o es p.node i)).node)
    | inr out ↦ ap (λ (v : Node). waiting v) ((LeftOfNames.caught o es).others p.node out)
  ]
    where
      waiting : Node → Bool
      waiting v = elim (call_of p v.calls) [ None ↦ false | Some c ↦ is_waiting_call c.phase ]

  -- the events that tell them answer nothing
  told_silently : all_answers O (run O (opening_world O) E) F ≡ []
  told_silently = ap (λ (v : World). all_answers O v F) (sym (named_runs_are_runs o es))
      ∙ unanswered O (LeftOfNames.gone o es) (LeftOfNames.distinct_gone o es) late (LeftOfNames.distinct_late o es) w.world
      (LeftOfNames.ready o es)

  same_under : (a k : ℕ) → answers_under a k (course O (opening_world O) (E ++ F)) ≡ answers_under a k (course O (opening_world O) E)
  same_under a k = ap (filter (λ (x : Answer). (x.node == a) && (x.number == k)))
      (course_answers O (opening_world O) (E ++ F) ∙ answers_more O (opening_world O) E F told_silently
      ∙ sym (course_answers O (opening_world O) E))

  pub waits : (p : Process) (t : Tries) → IsQuiet (of_names o) w → is_no_more w.world p ≡ false → tries_of O E p ≡ Some t
      → answers_under p.node t.last.number (course O (opening_world O) E) ≡ [] → waits_for_retry w.world p ≡ true
  waits p t q alive e none = sym (same_waiting p)
      ∙ there.reads.waits p later.0 (LeftOfNames.quiet o es q) (LeftOfNames.gone_same o es p ∙ alive)
      (tries-append O p (opening_world O) E F None
      ∙ ap (λ (x : Option Tries). tries_from O (run O (opening_world O) E) F p x) e ∙ later.1)
      (ap (λ (k : ℕ). answers_under p.node k (course O (opening_world O) (E ++ F))) (ap (λ (x : Try). x.number) later.2)
      ∙ same_under p.node t.last.number ∙ none)
    where
      later : (later : Tries) × (tries_from O (run O (opening_world O) E) F p (Some t) ≡ Some later) × (later.last ≡ t.last)
      later = tries_kept O p F (are_deliveries O (LeftOfNames.gone o es) (LeftOfNames.distinct_gone o es) late)
          (run O (opening_world O) E) t

  -- a call and its letters
  module _ (p : Process) (r z : Text) (target : Target) (ds : List NamedEvent) (c : IsQuietCall (of_names o) es w p r z target ds) where
    abbrev call : NamedEvent
    call = called_once (of_names o) p r z target

    abbrev plain_ds : List WorldEvent
    plain_ds = plain_events o (happens_named o w call) ds

    abbrev X : List WorldEvent
    X = called_once (of_nodes O) p r z target ∷ plain_ds

    plain_is : plain_events o w (call ∷ ds) ≡ X
    plain_is = ap (λ (x : Option NamedRefusal). (if is_none x then plain o w call else []) ++ plain_ds) c.accepted

    fits : (S p.node ≡ true) × (refusal O w.world (called_once (of_nodes O) p r z target) ≡ None)
    fits = by (S p.node) refl c.accepted
      where
        by : (b : Bool) → S p.node ≡ b
            → (if b then plain_refusal o w (called_once (of_nodes O) p r z target) else Some (Plain NoSuchNode)) ≡ None
            → (S p.node ≡ true) × (refusal O w.world (called_once (of_nodes O) p r z target) ≡ None)
        by true k q = (k, (unrefused o w s (called_once (of_nodes O) p r z target) q).1)
        by false k q = absurd (cc q)

    within : AreWithin O S X
    within = subst (λ (xs : List WorldEvent). AreWithin O S xs) plain_is
        (all_within o (call ∷ ds) w s (tt, deliveries_are o ds c.delivered))

    behind : (all_answers O u X ≡ all_answers O w.world X) × Alike O S (run O w.world X) (run O u X)
    behind = run_alike O S X (least_started o w s) within w.world u s.apart alike

    same_node : u.node p.node ≡ w.world.node p.node
    same_node = alike.node p.node fits.0

    is_call : IsQuietCall (of_nodes O) (E ++ F) u p r z target plain_ds
    is_call = record {
      quiet = LeftOfNames.quiet o es c.quiet;
      accepted = same_refusal O S w.world u alike (called_once (of_nodes O) p r z target) fits.0 ∙ fits.1;
      delivered = plain_deliveries o ds (happens_named o w call) c.delivered;
    }

    same_given : all_answers O u X ≡ all_answers O w.world (plain_events o w (call ∷ ds))
    same_given = behind.0 ∙ ap (λ (xs : List WorldEvent). all_answers O w.world xs) (sym plain_is)

    -- an answer there is one here, and the other way round
    to_there : (x : Answer) → AnswersIt (of_names o) es w p r z target ds x
        → IsAnswerTo p.node ((u.node p.node).last_call + 1) (all_answers O u X) x
    to_there x a = record {
      listed = subst (λ (xs : List Answer). Contains xs x) (sym same_given) a.listed;
      node = a.node;
      number = a.number ∙ ap (λ (v : Node). v.last_call + 1) (sym same_node);
    }

    from_there : (x : Answer) → IsAnswerTo p.node ((u.node p.node).last_call + 1) (all_answers O u X) x
        → AnswersIt (of_names o) es w p r z target ds x
    from_there x a = record {
      listed = subst (λ (xs : List Answer). Contains xs x) same_given a.listed;
      node = a.node;
      number = a.number ∙ ap (λ (v : Node). v.last_call + 1) same_node;
    }

    free_here : (asks : Nodes) → IsFree O (E ++ F) p r z asks → IsFree O E p r z asks
    free_here asks f = record {
      somebody = f.somebody;
      others = λ n q y i h. f.others n q y i (subst (λ (k : ℕ). 0 < k) (sym (LeftOfNames.counts o es q (Client r y) n)) h);
      room = λ n i. subst (λ (k : ℕ). k < last_count) (LeftOfNames.counts o es p (Client r z) n) (f.room n i);
    }

    free_there : (asks : Nodes) → IsFree O E p r z asks → IsFree O (E ++ F) p r z asks
    free_there asks f = record {
      somebody = f.somebody;
      others = λ n q y i h. f.others n q y i (subst (λ (k : ℕ). 0 < k) (LeftOfNames.counts o es q (Client r y) n) h);
      room = λ n i. subst (λ (k : ℕ). k < last_count) (sym (LeftOfNames.counts o es p (Client r z) n)) (f.room n i);
    }

    tells_here : (asks : Nodes) (reply : Reply) → Tells (IsFree O (E ++ F) p r z asks) reply → Tells (IsFree O E p r z asks) reply
    tells_here asks reply (inl is) = inl (is.0, free_here asks is.1)
    tells_here asks reply (inr isnt) = inr (isnt.0, (λ f. isnt.1 (free_there asks f)))

    pub told : (x : Answer) → AnswersIt (of_names o) es w p r z target ds x
        → Tells (IsFree O E p r z (targets (w.world.node p.node).replica.members target)) x.reply
    told x a = subst (λ (v : Node). Tells (IsFree O E p r z (targets v.replica.members target)) x.reply) same_node
        (tells_here (targets (u.node p.node).replica.members target) x.reply
        (there.quiet p r z target plain_ds is_call x (to_there x a)))

    pub answered : IsQuiet (of_names o) (run_named o w (call ∷ ds)) → (x : Answer) × AnswersIt (of_names o) es w p r z target ds x
    answered q =
        let given : (x : Answer) × IsAnswerTo p.node ((u.node p.node).last_call + 1) (all_answers O u X) x =
        there.answered p r z target plain_ds is_call quiet_there in (given.0, from_there given.0 given.1)
      where
        v : NamedWorld
        v = run_named o w (call ∷ ds)

        world_is : v.world ≡ run O w.world X
        world_is = run-plain o w (call ∷ ds) ∙ ap (λ (xs : List WorldEvent). run O w.world xs) plain_is

        started_is : has_started o v ≡ S
        started_is = all_same_started o (call ∷ ds) w (tt, deliveries_are o ds c.delivered)

        quiet_there : IsQuiet (of_nodes O) (run O u X)
        quiet_there f n i runs = go (S n) refl
          where
            go : (b : Bool) → S n ≡ b → (run O u X).links.queue f n ≡ []
            go true e = behind.1.queue f n e ∙ ap (λ (x : World). x.links.queue f n) (sym world_is) ∙ q f n i (record {
              inside = runs.0;
              started = ap (λ (x : Nodes). x n) started_is ∙ e;
              stays = ap (λ (x : World). left x n) world_is ∙ ap (λ (x : Nodes). x n) (sym behind.1.departures) ∙ runs.1;
            })
            go false e = behind.1.late f n e
