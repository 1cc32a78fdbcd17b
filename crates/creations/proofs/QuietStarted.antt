-- Lock calls in a quiet world of which some nodes never start: what is said of them is said in the world in which those were told of all that
-- have left, and there the call and its letters do the same.
use mathlib.Core.Logic.{inl, inr}
use Rattle.std.proofs.Common.{ℕ, Bool, true, false, ◌≡◌, ◌<◌, ◌+◌, List, [], ◌∷◌, ◌++◌, refl, sym, ap, subst, ◌∙◌}
use Rattle.std.specs.Prelude.{◌⊎◌, Contains, Option, Some, None, ◌&&◌, ◌==◌, if◌then◌else◌, filter}
use Rattle.std.specs.List.{list_all}
use Rattle.std.proofs.lemmas.Bool.{and_parts}
use Rattle.registry_model.specs.Process.{Text, Process, Nodes}
use Rattle.registry_model.specs.Call.{Reply}
use Rattle.protocol_model.specs.Letter.{Client}
use Rattle.protocol_model.specs.LockTable.{last_count}
use Rattle.protocol_model.specs.Node.{Node, Target, call_of, targets}
use Rattle.protocol_model.specs.Event.{Answer, is_waiting_call}
use Rattle.protocol_model.specs.World.{Opening, World, left, WorldEvent, At, Deliver, place, other, opening_world, number_in, run, all_answers}
use Rattle.protocol_model.specs.Course.{course}
use Rattle.protocol_model.specs.Fit.{is_delivery}
use Rattle.protocol_model.specs.Answers.{answers_under}
use Rattle.protocol_model.specs.ClientLocks.{Try, waits_for_retry, is_no_more}
use Rattle.protocol_model.specs.LockAnswers.{Tries, tries_from, tries_of}
use Rattle.lock_answers.specs.Worlds.{of_nodes, IsQuiet}
use Rattle.lock_answers.specs.QuietCalls.{called_once, IsFree, Tells, IsAnswerTo, IsQuietCall, AnswersIt}
use Rattle.lock_answers.specs.ClientLocks.{ClientLocks}
use Rattle.creations.specs.SomeStarted.{is_of_started, of_started, MayStart}
use Rattle.protocol_model.proofs.Courses.{run-append, course_answers}
use Rattle.lock_answers.proofs.ClientLocks.{client_locks as of_worlds}
use Rattle.creations.proofs.Alike.{Alike, AreWithin, same_refusal, run_alike}
use Rattle.creations.proofs.CaughtUp.{is_listed, unanswered, are_deliveries}
use Rattle.creations.proofs.QuietNames.{answers_more, tries-append, tries_kept}
use Rattle.creations.proofs.SomeApart.{may_move, starts_moves, moves_starts, least_moves, Stands}
use Rattle.creations.proofs.LeftOfStarted

-- calls and deliveries of nodes that start
module _ (o : Opening) (started : Nodes) where
  abbrev ours : List WorldEvent → List WorldEvent
  ours es = filter (is_of_started o started) es

  are_ours : (e : WorldEvent) → is_of_started o started e ≡ true
      → (may_move o started (place e) ≡ true) × (may_move o started (other e) ≡ true)
  are_ours e is =
      let both : (started (place e) ≡ true) × (started (other e) ≡ true) = and_parts (started (place e)) (started (other e)) is in
      (starts_moves o started (place e) both.0, starts_moves o started (other e) both.1)

  deliveries_within : (ds : List WorldEvent) → list_all is_delivery ds ≡ true → AreWithin o (may_move o started) (ours ds)
  deliveries_within [] D = tt
  deliveries_within (Deliver f t ∷ ds) D = go (is_of_started o started (Deliver f t)) refl (deliveries_within ds D)
    where
      go : (b : Bool) → is_of_started o started (Deliver f t) ≡ b → AreWithin o (may_move o started) (ours ds)
          → AreWithin o (may_move o started) (if b then Deliver f t ∷ ours ds else ours ds)
      go true e more = ((tt, (are_ours (Deliver f t) e).0, (are_ours (Deliver f t) e).1), more)
      go false e more = more
  deliveries_within (At a e ∷ ds) D = absurd (cc D)

  still_deliveries : (ds : List WorldEvent) → list_all is_delivery ds ≡ true → list_all is_delivery (ours ds) ≡ true
  still_deliveries [] D = refl
  still_deliveries (Deliver f t ∷ ds) D = go (is_of_started o started (Deliver f t)) (still_deliveries ds D)
    where
      go : (b : Bool) → list_all is_delivery (ours ds) ≡ true
          → list_all is_delivery (if b then Deliver f t ∷ ours ds else ours ds) ≡ true
      go true more = more
      go false more = more
  still_deliveries (At a e ∷ ds) D = absurd (cc D)

module _ (o : Opening) (started : Nodes) (M : MayStart o started) (es : List WorldEvent) where
  abbrev E : List WorldEvent
  E = LeftOfStarted.E o started M es

  abbrev F : List WorldEvent
  F = LeftOfStarted.F o started M es

  abbrev w : World
  w = LeftOfStarted.w o started M es

  abbrev u : World
  u = LeftOfStarted.u o started M es

  abbrev late : List ℕ
  late = LeftOfStarted.late o started M es

  abbrev S : Nodes
  S = may_move o started

  s : Stands o started w
  s = LeftOfStarted.s o started M es

  moves_is_other : (c : ℕ) → S c ≡ true → Contains late c → ⊥
  moves_is_other c e i = cc (LeftOfStarted.unstarted o started M es c i, e)

  listed : (c : ℕ) → (Contains late c) ⊎ (Contains late c → ⊥)
  listed c = is_listed o (LeftOfStarted.gone o started M es) (LeftOfStarted.distinct_gone o started M es) late c

  -- the world as it was and the one in which all were told are alike
  pub alike : Alike o S w u
  alike = record {
    node = λ a e. (LeftOfStarted.caught o started M es).others a (moves_is_other a e);
    number = λ a. elim (listed a) [
      | inl i ↦ ap (λ (v : Node). number_in v.current) ((LeftOfStarted.caught o started M es).fresh a i)
          ∙ sym (ap (λ (v : Node). number_in v.current) (LeftOfStarted.fresh o started M es a i).node)
      | inr out ↦ ap (λ (v : Node). number_in v.current) ((LeftOfStarted.caught o started M es).others a out)
    ];
    queue = λ f t e. (LeftOfStarted.caught o started M es).elsewhere f t (moves_is_other t e);
    departures = (LeftOfStarted.caught o started M es).departures;
    late = λ f n e. (LeftOfStarted.caught o started M es).emptied f n (LeftOfStarted.is_late o started M es n e);
  }

  -- what is said of it there
  there : ClientLocks (of_nodes o) (E ++ F) u
  there = subst (ClientLocks (of_nodes o) (E ++ F)) (run-append o (opening_world o) E F) (of_worlds o (E ++ F))

  same_waiting : (p : Process) → waits_for_retry u p ≡ waits_for_retry w p
  same_waiting p = elim (listed p.node) [
    | inl i ↦ ap (λ (v : Node). waiting v) ((LeftOfStarted.caught o started M es).fresh p.node i)
        ∙ sym (ap (λ (v : Node). waiting v) (LeftOfStarted.fresh o started M es p.node i).node)
    | inr out ↦ ap (λ (v : Node). waiting v) ((LeftOfStarted.caught o started M es).others p.node out)
  ]
    where
      waiting : Node → Bool
      waiting v = elim (call_of p v.calls) [ None ↦ false | Some c ↦ is_waiting_call c.phase ]

  -- the events that tell them answer nothing
  told_silently : all_answers o w F ≡ []
  told_silently = unanswered o (LeftOfStarted.gone o started M es) (LeftOfStarted.distinct_gone o started M es) late
      (LeftOfStarted.distinct_late o started M es) w (LeftOfStarted.ready o started M es)

  same_under : (a k : ℕ) → answers_under a k (course o (opening_world o) (E ++ F)) ≡ answers_under a k (course o (opening_world o) E)
  same_under a k = ap (filter (λ (x : Answer). (x.node == a) && (x.number == k)))
      (course_answers o (opening_world o) (E ++ F) ∙ answers_more o (opening_world o) E F told_silently
      ∙ sym (course_answers o (opening_world o) E))

  pub waits : (p : Process) (t : Tries) → IsQuiet (of_started o started) w → is_no_more w p ≡ false → tries_of o E p ≡ Some t
      → answers_under p.node t.last.number (course o (opening_world o) E) ≡ [] → waits_for_retry w p ≡ true
  waits p t q alive e none = sym (same_waiting p)
      ∙ there.reads.waits p later.0 (LeftOfStarted.quiet o started M es q) (LeftOfStarted.gone_same o started M es p ∙ alive)
      (tries-append o p (opening_world o) E F None ∙ ap (λ (x : Option Tries). tries_from o w F p x) e ∙ later.1)
      (ap (λ (k : ℕ). answers_under p.node k (course o (opening_world o) (E ++ F))) (ap (λ (x : Try). x.number) later.2)
      ∙ same_under p.node t.last.number ∙ none)
    where
      later : (later : Tries) × (tries_from o w F p (Some t) ≡ Some later) × (later.last ≡ t.last)
      later = tries_kept o p F
          (are_deliveries o (LeftOfStarted.gone o started M es) (LeftOfStarted.distinct_gone o started M es) late) w t

  -- a call and its letters
  module _ (p : Process) (r z : Text) (target : Target) (ds : List WorldEvent)
      (c : IsQuietCall (of_started o started) es w p r z target ds) where
    abbrev call : WorldEvent
    call = called_once (of_nodes o) p r z target

    abbrev X : List WorldEvent
    X = call ∷ ours o started ds

    ours_are : ours o started (call ∷ ds) ≡ X
    ours_are = ap (λ (b : Bool). if b then X else ours o started ds) c.accepted.starts

    moves : (S (place call) ≡ true) × (S (other call) ≡ true)
    moves = are_ours o started call c.accepted.starts

    behind : (all_answers o u X ≡ all_answers o w X) × Alike o S (run o w X) (run o u X)
    behind = run_alike o S X (least_moves o started M) ((tt, moves.0, moves.1), deliveries_within o started ds c.delivered)
        w u s.apart alike

    same_node : u.node p.node ≡ w.node p.node
    same_node = alike.node p.node moves.0

    is_call : IsQuietCall (of_nodes o) (E ++ F) u p r z target (ours o started ds)
    is_call = record {
      quiet = LeftOfStarted.quiet o started M es c.quiet;
      accepted = same_refusal o S w u alike call moves.0 ∙ c.accepted.unrefused;
      delivered = still_deliveries o started ds c.delivered;
    }

    same_given : all_answers o u X ≡ all_answers o w (ours o started (call ∷ ds))
    same_given = behind.0 ∙ ap (λ (xs : List WorldEvent). all_answers o w xs) (sym ours_are)

    -- an answer there is one here, and the other way round
    to_there : (x : Answer) → AnswersIt (of_started o started) es w p r z target ds x
        → IsAnswerTo p.node ((u.node p.node).last_call + 1) (all_answers o u X) x
    to_there x a = record {
      listed = subst (λ (xs : List Answer). Contains xs x) (sym same_given) a.listed;
      node = a.node;
      number = a.number ∙ ap (λ (v : Node). v.last_call + 1) (sym same_node);
    }

    from_there : (x : Answer) → IsAnswerTo p.node ((u.node p.node).last_call + 1) (all_answers o u X) x
        → AnswersIt (of_started o started) es w p r z target ds x
    from_there x a = record {
      listed = subst (λ (xs : List Answer). Contains xs x) same_given a.listed;
      node = a.node;
      number = a.number ∙ ap (λ (v : Node). v.last_call + 1) same_node;
    }

    free_here : (asks : Nodes) → IsFree o (E ++ F) p r z asks → IsFree o E p r z asks
    free_here asks f = record {
      somebody = f.somebody;
      others = λ n q y i h. f.others n q y i
          (subst (λ (k : ℕ). 0 < k) (sym (LeftOfStarted.counts o started M es q (Client r y) n)) h);
      room = λ n i. subst (λ (k : ℕ). k < last_count) (LeftOfStarted.counts o started M es p (Client r z) n) (f.room n i);
    }

    free_there : (asks : Nodes) → IsFree o E p r z asks → IsFree o (E ++ F) p r z asks
    free_there asks f = record {
      somebody = f.somebody;
      others = λ n q y i h. f.others n q y i
          (subst (λ (k : ℕ). 0 < k) (LeftOfStarted.counts o started M es q (Client r y) n) h);
      room = λ n i. subst (λ (k : ℕ). k < last_count) (sym (LeftOfStarted.counts o started M es p (Client r z) n)) (f.room n i);
    }

    tells_here : (asks : Nodes) (reply : Reply) → Tells (IsFree o (E ++ F) p r z asks) reply → Tells (IsFree o E p r z asks) reply
    tells_here asks reply (inl is) = inl (is.0, free_here asks is.1)
    tells_here asks reply (inr isnt) = inr (isnt.0, (λ f. isnt.1 (free_there asks f)))

    pub told : (x : Answer) → AnswersIt (of_started o started) es w p r z target ds x
        → Tells (IsFree o E p r z (targets (w.node p.node).replica.members target)) x.reply
    told x a = subst (λ (v : Node). Tells (IsFree o E p r z (targets v.replica.members target)) x.reply) same_node
        (tells_here (targets (u.node p.node).replica.members target) x.reply
        (there.quiet p r z target (ours o started ds) is_call x (to_there x a)))

    pub answered : IsQuiet (of_started o started) (run o w (ours o started (call ∷ ds)))
        → (x : Answer) × AnswersIt (of_started o started) es w p r z target ds x
    answered q =
        let given : (x : Answer) × IsAnswerTo p.node ((u.node p.node).last_call + 1) (all_answers o u X) x =
        there.answered p r z target (ours o started ds) is_call quiet_there in (given.0, from_there given.0 given.1)
      where
        quiet_there : IsQuiet (of_nodes o) (run o u X)
        quiet_there f n i runs = go (S n) refl
          where
            go : (b : Bool) → S n ≡ b → (run o u X).links.queue f n ≡ []
            go true e = behind.1.queue f n e ∙ ap (λ (xs : List WorldEvent). (run o w xs).links.queue f n) (sym ours_are)
                ∙ q f n i (record {
                  inside = runs.0;
                  starts = moves_starts o started n e runs.0;
                  stays = ap (λ (xs : List WorldEvent). left (run o w xs) n) ours_are
                      ∙ ap (λ (l : Nodes). l n) (sym behind.1.departures) ∙ runs.1;
                })
            go false e = behind.1.late f n e
